-- What a layer asks of its loans: which pool frames are taken, and which bytes a card holds.
use Rattle.std.proofs.Common.{◌≡◌, ℕ, ◌+◌, ◌-◌, ◌*◌, ◌/◌, ◌<◌, ◌≤◌, Bool, true, false, cond, ◌&&◌, ◌||◌, ◌⊎◌, List, [], ◌∷◌, Some, None, sym, refl, ap, ◌∙◌, subst, inl, inr, arith}
use Rattle.std.proofs.lemmas.Bool.{cases_Bool, and_parts, and_from}
use Rattle.units.specs.declared.buffer.Buffer.{Buffer}
use Rattle.units.specs.declared.mapping.Mapping.{Mapping}
use Rattle.units.specs.declared.number.Frame.{Frame}
use Rattle.units.specs.Buffers.{span}
use Rattle.chooser.specs.declared.gap.Range.{Range}
use Rattle.chooser.specs.Gaps.{Untouched}
use Rattle.chooser.specs.Finding.{choice}
use Rattle.meaning.specs.Memory.{within}
use Rattle.meaning.specs.Mappings.{In, Whole, first_frame, page_count, card_holds, covers, held}
use Rattle.meaning.specs.Worlds.{Setup}
use Rattle.meaning.proofs.Facts.{within_true, within_from}
use Rattle.layer.specs.Lowering.{down, lowered}
use Rattle.layer.specs.Pools.{pool_first, pool_count, frame_number, is_whole, frame_for}
use Rattle.layer.specs.Possible.{Standing}
use Rattle.layer.specs.Lifting.{Loans, loan_of}
use Rattle.layer.proofs.LawsAbove.{both, or_false}
use Rattle.layer.proofs.Lowered.{from_lowered, in_lowered, down_own}
use Rattle.layer.proofs.Choosing.{whole_true, frame_is}
use Rattle.layer.proofs.Loans.{borrower, own_loan, frames_in, frames_out, one_borrower}

-- Frames that are taken -----------------------------------------------------------------------------------

-- a loan from frame f on takes frame x
pub record Takes (loan : Loans) (x : ℕ) : Type 0 where
  pub frame : ℕ
  pub buffer : Buffer
  pub lent : loan frame ≡ Some buffer
  pub from : frame ≤ x
  pub to : x < frame + span buffer.address buffer.length

-- ranges that hold the frames of each loan, and no others, give the layer's choice of frames
pub frame_by_loans : (S : Setup) (reserved : ℕ → Bool) (o : List Mapping) (us : List (Range Frame)) (n : ℕ) → 0 < n → Standing S.frames reserved (pool_first S) (pool_count S) o
    → ((x : ℕ) → Untouched frame_number us x → Takes (loan_of o) x → ⊥) → ((x : ℕ) → (Takes (loan_of o) x → ⊥) → Untouched frame_number us x)
    → choice frame_number (pool_first S) (pool_first S + pool_count S - 1) us n ≡ frame_for S o n
frame_by_loans S reserved o us n pos s f g = frame_is S o us n pos
    (λ x u m i w l h. f x u (record { frame = first_frame m; buffer = m.buffer; lent = own_loan S.frames reserved (pool_first S) (pool_count S) o s m i ∙ part m w; from = l; to = h }))
    (λ x h. g x (λ t. let r = borrower o t.frame t.buffer t.lent in
    let from = t.from in
    let to = t.to in
    let e = r.frame in
    let count : page_count r.mapping ≡ span t.buffer.address t.buffer.length = ap (λ (z : Buffer). span z.address z.length) r.buffer in
    h r.mapping r.is_open r.part (omega arith) (omega arith)))
  where
    part : (m : Mapping) → is_whole m ≡ false → cond (is_whole m) None (Some m.buffer) ≡ Some m.buffer
    part m w = ap (λ (z : Bool). cond z None (Some m.buffer)) w

-- Bytes that a card holds ---------------------------------------------------------------------------------

abbrev pub holds_byte : Mapping → ℕ → Bool
holds_byte m b = card_holds m.holder && covers m b

-- an open mapping whose buffer a card holds, with byte b in it
pub record HeldBy (o : List Mapping) (b : ℕ) : Type 0 where
  pub mapping : Mapping
  pub is_open : In mapping o
  pub holds : holds_byte mapping b ≡ true

pub held_by : (o : List Mapping) (b : ℕ) → held o b ≡ true → HeldBy o b
unfolding held
held_by [] b e = absurd (cc)
held_by (m ∷ o) b e = go (holds_byte m b) refl e (λ h. held_by o b h)
  where
    go : (t : Bool) → holds_byte m b ≡ t → (t || held o b) ≡ true → (held o b ≡ true → HeldBy o b) → HeldBy (m ∷ o) b
    go true s h later = record { mapping = m; is_open = inl refl; holds = s }
    go false s h later = let r = later h in record { mapping = r.mapping; is_open = inr r.is_open; holds = r.holds }

pub held_in : (o : List Mapping) (b : ℕ) (m : Mapping) → In m o → holds_byte m b ≡ true → held o b ≡ true
unfolding held
held_in [] b m i s = elim i [ ]
held_in (k ∷ o) b m i s = go (holds_byte k b) refl i (λ j. held_in o b m j s)
  where
    go : (t : Bool) → holds_byte k b ≡ t → (m ≡ k) ⊎ In m o → (In m o → held o b ≡ true) → (t || held o b) ≡ true
    go true e j later = refl
    go false e (inl j) later = absurd (both (holds_byte m b) s (ap (λ (z : Mapping). holds_byte z b) j ∙ e))
    go false e (inr j) later = later j

-- byte b is in a buffer that is lent frames whose mapping below a card holds
pub record HeldLoan (loan : Loans) (p : List Mapping) (b : ℕ) : Type 0 where
  pub frame : ℕ
  pub buffer : Buffer
  pub lent : loan frame ≡ Some buffer
  pub inside : within buffer.address buffer.length b ≡ true
  pub below : held p (frame * 4096) ≡ true

module _ (frames : ℕ) (reserved : ℕ → Bool) (first count : ℕ) (o : List Mapping) (s : Standing frames reserved first count o) (b : ℕ) where
  clean : (m : Mapping) → In m o → covers m b ≡ true → within first count (b / 4096) ≡ false
  clean m i c =
      let w = within_true m.buffer.address m.buffer.length b c in
      (or_false (within first count (b / 4096)) (reserved (b / 4096)) ((s.each m i).clean b (record { from = w.0; to = w.1 }))).0

  own_down : (m : Mapping) → In m o → is_whole m ≡ true → down m ≡ m
  own_down m i w =
      let t = whole_true m.buffer.address m.buffer.length w in
      let ww : Whole m = record { starts = t.0; ends = t.1 } in
      let f = s.each m i in down_own m ww (f.own ww) f.offset_device

  -- the frames where a mapping lands are below its buffer
  below_covers : (m : Mapping) (x : ℕ) → covers (down m) x ≡ true → (first_frame m ≤ x / 4096) × (x / 4096 < first_frame m + page_count m)
  below_covers m x c = let w = within_true (m.landing / 4096 * 4096) (page_count m * 4096) x c in let low = w.0 in let high = w.1 in (omega arith, omega arith)

  -- a byte is held above: outside the pool it is held below, or it is in a buffer whose frames are
  pub held_splits : held o b ≡ true → ((within first count (b / 4096) ≡ false) × (held (lowered o) b ≡ true)) ⊎ HeldLoan (loan_of o) (lowered o) b
  held_splits e =
      let h = held_by o b e in
      let m = h.mapping in
      let p = and_parts (card_holds m.holder) (covers m b) h.holds in
      elim (cases_Bool (is_whole m)) [
        | inl w ↦ inl (clean m h.is_open p.1, held_in (lowered o) b m (subst (λ (z : Mapping). In z (lowered o)) (own_down m h.is_open w) (in_lowered m o h.is_open)) h.holds)
        | inr w ↦ (let f = s.each m h.is_open in
            let some = f.some in
            let c : covers (down m) (first_frame m * 4096) ≡ true = within_from (m.landing / 4096 * 4096) (page_count m * 4096) (first_frame m * 4096) (omega arith) (omega arith) in
            inr (record {
              frame = first_frame m;
              buffer = m.buffer;
              lent = own_loan frames reserved first count o s m h.is_open ∙ ap (λ (z : Bool). cond z None (Some m.buffer)) w;
              inside = p.1;
              below = held_in (lowered o) (first_frame m * 4096) (down m) (in_lowered m o h.is_open) (and_from (card_holds m.holder) (covers (down m) (first_frame m * 4096)) p.0 c);
            }))
      ]

  -- the other way round
  pub held_outside : within first count (b / 4096) ≡ false → held (lowered o) b ≡ true → held o b ≡ true
  held_outside out e =
      let h = held_by (lowered o) b e in
      let r = from_lowered h.mapping o h.is_open in
      let m = r.mapping in
      let here : holds_byte (down m) b ≡ true = subst (λ (z : Mapping). holds_byte z b ≡ true) r.same h.holds in
      let p = and_parts (card_holds m.holder) (covers (down m) b) here in
      elim (cases_Bool (is_whole m)) [
        | inl w ↦ held_in o b m r.is_open (subst (λ (z : Mapping). holds_byte z b ≡ true) (own_down m r.is_open w) here)
        | inr w ↦ (let l = below_covers m b p.1 in absurd (both (within first count (b / 4096)) (frames_in frames reserved first count m (b / 4096) (s.each m r.is_open) w l.0 l.1) out))
      ]

  pub held_lent : HeldLoan (loan_of o) (lowered o) b → held o b ≡ true
  held_lent t =
      let k = borrower o t.frame t.buffer t.lent in
      let n = k.mapping in
      let h = held_by (lowered o) (t.frame * 4096) t.below in
      let r = from_lowered h.mapping o h.is_open in
      let m = r.mapping in
      let here : holds_byte (down m) (t.frame * 4096) ≡ true = subst (λ (z : Mapping). holds_byte z (t.frame * 4096) ≡ true) r.same h.holds in
      let p = and_parts (card_holds m.holder) (covers (down m) (t.frame * 4096)) here in
      let l = below_covers m (t.frame * 4096) p.1 in
      let low = l.0 in
      let high = l.1 in
      let e = k.frame in
      let some = (s.each n k.is_open).some in
      let same : t.frame * 4096 / 4096 ≡ t.frame = omega arith in
      let inside : covers n b ≡ true = subst (λ (z : Buffer). within z.address z.length b ≡ true) (sym k.buffer) t.inside in
      let pool = frames_in frames reserved first count n t.frame (s.each n k.is_open) k.part (omega arith) (omega arith) in
      elim (cases_Bool (is_whole m)) [
        | inl w ↦ absurd (both (within first count t.frame) pool (frames_out frames reserved first count m t.frame (s.each m r.is_open) w (omega arith) (omega arith)))
        | inr w ↦ (let one = one_borrower frames reserved first count o s m n t.frame r.is_open k.is_open w k.part (omega arith) (omega arith) (omega arith) (omega arith) in
            let holder : card_holds n.holder ≡ true = ap (λ (z : Mapping). card_holds z.holder) one ∙ p.0 in
            held_in o b n k.is_open (and_from (card_holds n.holder) (covers n b) holder inside))
      ]
