-- Every call keeps to the lists that are possible above a layer.
use Rattle.std.proofs.Common.{◌≡◌, ℕ, ◌+◌, ◌*◌, ◌/◌, ◌%◌, ◌<◌, ◌≤◌, Bool, true, false, ◌||◌, List, [], Some, None, Ok, Option, sym, refl, ap, ◌∙◌, subst, inl, inr, arith}
use Rattle.std.proofs.lemmas.Bool.{cases_Bool, cases_eq}
use Rattle.units.specs.declared.mapping.Holder.{Holder}
use Rattle.units.specs.declared.mapping.Mapping.{Mapping}
use Rattle.units.specs.declared.mapping.Placement.{Placement}
use Rattle.units.specs.declared.mapping.Request.{Request}
use Rattle.units.specs.Buffers.{span, whole}
use Rattle.meaning.specs.Memory.{within}
use Rattle.meaning.specs.Mappings.{In, Whole, Lands, turned, insert, remove, turn, find}
use Rattle.meaning.specs.Worlds.{Setup, Kind, world}
use Rattle.meaning.specs.Calls.{Call}
use Rattle.meaning.specs.Effects.{new_mapping, opens_after}
use Rattle.meaning.proofs.Facts.{within_from}
use Rattle.meaning.proofs.Lists.{in_insert, insert_in, in_remove, in_turn, find_is_in, find_starts, pair_insert, pair_remove, pair_turn, remove_none, turn_none}
use Rattle.meaning.proofs.Verdicts.{Admitted}
use Rattle.meaning.proofs.Keeping.{Stable, opens_kept}
use Rattle.layer.specs.Lowering.{base_of, down, lowered}
use Rattle.layer.specs.Pools.{below_setup, pool_first, pool_count, in_pool, is_whole, frame_for}
use Rattle.layer.specs.Choosing.{frames_request, layer_choice, layer_kind}
use Rattle.layer.specs.Possible.{Fitting, Standing, Refused, Over, layer_possible}
use Rattle.layer.specs.Lawful.{Lawful}
use Rattle.layer.proofs.Finding.{missed}
use Rattle.layer.proofs.Passing.{grows, shrinks, turns}
use Rattle.layer.proofs.Lowered.{down_own, span_frames, lowered_insert, lowered_remove, lowered_turn}
use Rattle.layer.proofs.LawsAbove.{whole_holds, or_false, both, reserved_as, disjoint_over}
use Rattle.layer.proofs.Choosing.{moved_on, whole_true, whole_test, as_it_is, in_frames, accepted_by, frames_low, frames_high, frames_free}

-- A mapping that is turned is as it was beside ------------------------------------------------------------

module _ (frames : ℕ) (reserved : ℕ → Bool) (first count : ℕ) where
  abbrev Unshared : Mapping → Mapping → Type 0
  Unshared m n = (q : ℕ) → Lands m q → Lands n q → within first count (q / 4096) ≡ true → ⊥

  fitting_turned : (t : Holder) (m : Mapping) → Fitting frames reserved first count m → Fitting frames reserved first count (turned t m)
  fitting_turned t m f = record {
    some = f.some;
    short = f.short;
    inside = f.inside;
    offset_device = f.offset_device;
    offset_landing = f.offset_landing;
    own = λ w. f.own (record { starts = w.starts; ends = w.ends });
    pooled = λ n. f.pooled (λ w. n (record { starts = w.starts; ends = w.ends }));
    clean = λ b g. f.clean b (record { from = g.from; to = g.to });
  }

  unshared_turned : (t : Holder) (m n : Mapping) → Unshared m n → Unshared (turned t m) n × Unshared m (turned t n)
  unshared_turned t m n u = (
    (λ q a b e. u q (record { from = a.from; to = a.to }) b e),
    (λ q a b e. u q a (record { from = b.from; to = b.to }) e),
  )

  -- what a layer keeps, through the changes

  pub standing_insert : (m : Mapping) (o : List Mapping) → Fitting frames reserved first count m → ((n : Mapping) → In n o → Unshared m n)
      → Standing frames reserved first count o → Standing frames reserved first count (insert m o)
  standing_insert m o f u s = record {
    some = s.some;
    few = s.few;
    inside = s.inside;
    clear = s.clear;
    each = λ n i. elim (in_insert m n o i) [ inl e ↦ subst (Fitting frames reserved first count) (sym e) f | inr j ↦ s.each n j ];
    unshared = pair_insert Unshared m o (λ n i. (u n i, λ q a b e. u n i q b a e)) s.unshared;
  }

  pub standing_remove : (c v : ℕ) (o : List Mapping) → Standing frames reserved first count o → Standing frames reserved first count (remove c v o)
  standing_remove c v o s = record {
    some = s.some;
    few = s.few;
    inside = s.inside;
    clear = s.clear;
    each = λ n i. s.each n (in_remove c v n o i);
    unshared = pair_remove Unshared c v o s.unshared;
  }

  pub standing_turn : (t : Holder) (c v : ℕ) (o : List Mapping) → Standing frames reserved first count o → Standing frames reserved first count (turn t c v o)
  standing_turn t c v o s = record {
    some = s.some;
    few = s.few;
    inside = s.inside;
    clear = s.clear;
    each = λ n i. let r = in_turn t c v n o i in let f = s.each r.was r.is_open in
        elim r.same [ inl e ↦ subst (Fitting frames reserved first count) (sym e) f | inr e ↦ subst (Fitting frames reserved first count) (sym e) (fitting_turned t r.was f) ];
    unshared = pair_turn Unshared t c v o (unshared_turned t) s.unshared;
  }

-- Over a mapper -------------------------------------------------------------------------------------------

frame_of_byte : (a n b : ℕ) → a ≤ b → b < a + n → (a / 4096 ≤ b / 4096) × (b / 4096 < a / 4096 + span a n)
frame_of_byte a n b l h = (omega arith, omega arith)

module _ (K : Kind) (P : Setup → List Mapping → Type 0) (law : Lawful K P) (S : Setup) (o : List Mapping) (h : Over K P S o) where
  abbrev Fits : Mapping → Type 0
  Fits m = Fitting S.frames (K.reserved (below_setup S)) (pool_first S) (pool_count S) m

  abbrev Clash : Mapping → Mapping → Type 0
  Clash m n = Unshared S.frames (K.reserved (below_setup S)) (pool_first S) (pool_count S) m n

  opened_over : (m b : Mapping) → down m ≡ b → P (below_setup S) (insert b (lowered o)) → Fits m → ((n : Mapping) → In n o → Clash m n) → Over K P S (insert m o)
  opened_over m b e p f u = record {
    below = subst (P (below_setup S)) (ap (λ (z : Mapping). insert z (lowered o)) (sym e) ∙ sym (lowered_insert m o)) p;
    standing = standing_insert S.frames (K.reserved (below_setup S)) (pool_first S) (pool_count S) m o f u h.standing;
  }

  module _ (n : ℕ) (r : Request) (a : Admitted (world (layer_kind K) S n) r) where
    plain : (f : ℕ) → r.buffer.address / 4096 ≤ f → f < r.buffer.address / 4096 + span r.buffer.address r.buffer.length → (in_pool S f || K.reserved (below_setup S) f) ≡ false
    plain f l u = sym (reserved_as K.reserved S h.standing.some f) ∙ a.clean f l u

    clean_byte : (b : ℕ) → r.buffer.address ≤ b → b < r.buffer.address + r.buffer.length → (in_pool S (b / 4096) || K.reserved (below_setup S) (b / 4096)) ≡ false
    clean_byte b l u = let f = frame_of_byte r.buffer.address r.buffer.length b l u in plain (b / 4096) f.0 f.1

    -- what is admitted above is admitted below
    pub admitted_below : Admitted (world K (below_setup S) n) r
    admitted_below = record {
      card = a.card;
      direction = a.direction;
      some = a.some;
      short = a.short;
      memory = a.memory;
      inside = a.inside;
      clean = λ f l u. (or_false (in_pool S f) (K.reserved (below_setup S) f) (plain f l u)).1;
    }

    some_frames : 0 < span r.buffer.address r.buffer.length
    some_frames = let s = a.some in omega arith

    -- and so are the pool frames that the chooser gives for it
    pub admitted_frames : (k : ℕ) → frame_for S o (span r.buffer.address r.buffer.length) ≡ Some k → Admitted (world K (below_setup S) n) (frames_request r k)
    admitted_frames k e =
        let count = span r.buffer.address r.buffer.length in
        let pos = some_frames in
        let low = frames_low S o count k pos h.standing.some e in
        let high = frames_high S o count k pos h.standing.some e in
        let room = h.standing.inside in
        let short = a.short in
        let same = span_frames k count in
        record {
          card = a.card;
          direction = a.direction;
          some = omega arith;
          short = omega arith;
          memory = a.memory;
          inside = omega arith;
          clean = λ f l u. h.standing.clear f (within_from (pool_first S) (pool_count S) f (omega arith) (omega arith));
        }

    -- whole: it lands at its own address, as it does below
    whole_over : (q : Placement) → whole r.buffer.address r.buffer.length ≡ true → K.choice (below_setup S) (lowered o) r ≡ Ok q → Over K P S (insert (new_mapping r q) o)
    whole_over q w e =
        let m = new_mapping r q in
        let p = grows K P law (below_setup S) (lowered o) h.below n r q admitted_below e in
        let here = insert_in m (lowered o) in
        let t = whole_true r.buffer.address r.buffer.length w in
        let ww : Whole m = record { starts = t.0; ends = t.1 } in
        let pages = law.disjoint_pages (below_setup S) (insert m (lowered o)) p in
        let lands = law.landing (below_setup S) (insert m (lowered o)) p in
        let own : q.landing ≡ r.buffer.address = elim (cases_eq q.landing r.buffer.address) [ inl s ↦ s | inr d ↦ absurd ((lands.lands m here d).0 ww) ] in
        let device = pages.offset_device m here in
        opened_over m m (down_own m ww own device) p (record {
          some = a.some;
          short = a.short;
          inside = a.inside;
          offset_device = device;
          offset_landing = pages.offset_landing m here;
          own = λ x. own;
          pooled = λ x. absurd (x ww);
          clean = λ b g. clean_byte b g.from g.to;
        }) (λ k i x l g f.
        let b = whole_holds m x ww own l in
        both (in_pool S (x / 4096)) f (or_false (in_pool S (x / 4096)) (K.reserved (below_setup S) (x / 4096)) (clean_byte x b.from b.to)).0)

    -- not whole: the frames that it takes are mapped below as what goes down
    pub record InFrames (k : ℕ) (p : Placement) : Type 0 where
      pub possible : P (below_setup S) (insert (new_mapping (frames_request r k) p) (lowered o))
      pub own : p.landing ≡ k * 4096
      pub device : p.device.0 % 4096 ≡ 0
      pub same : down (new_mapping r (moved_on (r.buffer.address % 4096) p)) ≡ new_mapping (frames_request r k) p

    pub in_frames_below : (k : ℕ) (p : Placement) → frame_for S o (span r.buffer.address r.buffer.length) ≡ Some k
        → K.choice (below_setup S) (lowered o) (frames_request r k) ≡ Ok p → InFrames k p
    in_frames_below k p f e =
        let b = new_mapping (frames_request r k) p in
        let count = span r.buffer.address r.buffer.length in
        let possible = grows K P law (below_setup S) (lowered o) h.below n (frames_request r k) p (admitted_frames k f) e in
        let here = insert_in b (lowered o) in
        let ww : Whole b = record { starts = omega arith; ends = omega arith } in
        let pages = law.disjoint_pages (below_setup S) (insert b (lowered o)) possible in
        let lands = law.landing (below_setup S) (insert b (lowered o)) possible in
        let own : p.landing ≡ k * 4096 = elim (cases_eq p.landing (k * 4096)) [ inl z ↦ z | inr d ↦ absurd ((lands.lands b here d).0 ww) ] in
        let device : p.device.0 % 4096 ≡ k * 4096 % 4096 = pages.offset_device b here in
        let db : base_of (p.device.0 + r.buffer.address % 4096) ≡ p.device.0 = omega arith in
        let lb : base_of (p.landing + r.buffer.address % 4096) ≡ k * 4096 = omega arith in
        record {
          possible = possible;
          own = own;
          device = omega arith;
          same = λ i. record { card = r.card; direction = b.direction; buffer = record { address = lb i; length = count * 4096 }; device = record { 0 = db i }; landing = (lb ∙ sym own) i; holder = b.holder };
        }

    -- and it lands there
    frames_over : (p : Placement) (k : ℕ) → whole r.buffer.address r.buffer.length ≡ false → frame_for S o (span r.buffer.address r.buffer.length) ≡ Some k
        → K.choice (below_setup S) (lowered o) (frames_request r k) ≡ Ok p → Over K P S (insert (new_mapping r (moved_on (r.buffer.address % 4096) p)) o)
    frames_over p k w f e =
        let m = new_mapping r (moved_on (r.buffer.address % 4096) p) in
        let b = new_mapping (frames_request r k) p in
        let count = span r.buffer.address r.buffer.length in
        let pos = some_frames in
        let low = frames_low S o count k pos h.standing.some f in
        let high = frames_high S o count k pos h.standing.some f in
        let t = in_frames_below k p f e in
        let own = t.own in
        let device = t.device in
        let first : m.landing / 4096 ≡ k = omega arith in
        let part : Whole m → ⊥ = λ x. both (whole r.buffer.address r.buffer.length) (whole_test r.buffer.address r.buffer.length x.starts x.ends) w in
        opened_over m b t.same t.possible (record {
          some = a.some;
          short = a.short;
          inside = a.inside;
          offset_device = omega arith;
          offset_landing = omega arith;
          own = λ x. absurd (part x);
          pooled = λ x. (omega arith, omega arith);
          clean = λ y g. clean_byte y g.from g.to;
        }) (λ z i x l g t. apart z i k pos f x (omega (arith, l.from)) (omega (arith, l.to)) g t)
      where
        apart : (z : Mapping) → In z o → (k : ℕ) → 0 < span r.buffer.address r.buffer.length → frame_for S o (span r.buffer.address r.buffer.length) ≡ Some k
            → (x : ℕ) → k ≤ x / 4096 → x / 4096 < k + span r.buffer.address r.buffer.length → Lands z x → in_pool S (x / 4096) ≡ true → ⊥
        apart z i k pos f x l u g t = elim (cases_Bool (is_whole z)) [
          | inl y ↦ (let fit = h.standing.each z i in
              let w = whole_true z.buffer.address z.buffer.length y in
              let ww : Whole z = record { starts = w.0; ends = w.1 } in
              both (in_pool S (x / 4096)) t (or_false (in_pool S (x / 4096)) (K.reserved (below_setup S) (x / 4096)) (fit.clean x (whole_holds z x ww (fit.own ww) g))).0)
          | inr y ↦ frames_free S o (span r.buffer.address r.buffer.length) k pos h.standing.some f z i y (x / 4096) l u g.from g.to
        ]

    pub grows_over : (q : Placement) → layer_choice K.choice S o r ≡ Ok q → Over K P S (insert (new_mapping r q) o)
    grows_over q e = elim (accepted_by K.choice S o r q e) [
      | as_it_is s w c ↦ whole_over q w c
      | in_frames s w k p f c z ↦ subst (λ (y : Placement). Over K P S (insert (new_mapping r y) o)) (sym z) (frames_over p k w f c)
    ]

  pub some_over : (m : Mapping) → In m o → 0 < m.buffer.length
  some_over m i = (h.standing.each m i).some

  pub shrinks_over : (c v : ℕ) → Over K P S (remove c v o)
  shrinks_over c v = go (find o c v) refl
    where
      go : (f : Option Mapping) → find o c v ≡ f → Over K P S (remove c v o)
      go None e = subst (Over K P S) (sym (remove_none c v o (missed c v o e))) h
      go (Some m) e = record {
        below = subst (P (below_setup S)) (sym (lowered_remove S o (disjoint_over K P law S o h) some_over c v m (find_is_in c v o m e) (find_starts c v o m e)))
            (shrinks K P law (below_setup S) (lowered o) h.below c (base_of v));
        standing = standing_remove S.frames (K.reserved (below_setup S)) (pool_first S) (pool_count S) c v o h.standing;
      }

  pub turns_over : (t : Holder) (c v : ℕ) → Over K P S (turn t c v o)
  turns_over t c v = go (find o c v) refl
    where
      go : (f : Option Mapping) → find o c v ≡ f → Over K P S (turn t c v o)
      go None e = subst (Over K P S) (sym (turn_none t c v o (missed c v o e))) h
      go (Some m) e = record {
        below = subst (P (below_setup S)) (sym (lowered_turn S o (disjoint_over K P law S o h) some_over c v t m (find_is_in c v o m e) (find_starts c v o m e)))
            (turns K P law (below_setup S) (lowered o) h.below t c (base_of v));
        standing = standing_turn S.frames (K.reserved (below_setup S)) (pool_first S) (pool_count S) t c v o h.standing;
      }

-- A refused layer stays as it is --------------------------------------------------------------------------

refused_remove : (S : Setup) (o : List Mapping) (c v : ℕ) → Refused S o → Refused S (remove c v o)
refused_remove S o c v h = record { cards = h.cards; frames = h.frames; pool = h.pool; empty = ap (remove c v) h.empty ∙ remove_none c v [] (λ n i. elim i [ ]) }

refused_turn : (S : Setup) (o : List Mapping) (t : Holder) (c v : ℕ) → Refused S o → Refused S (turn t c v o)
refused_turn S o t c v h = record { cards = h.cards; frames = h.frames; pool = h.pool; empty = ap (turn t c v) h.empty ∙ turn_none t c v [] (λ n i. elim i [ ]) }

module _ (K : Kind) (P : Setup → List Mapping → Type 0) (law : Lawful K P) (S : Setup) (o : List Mapping) where
  stable : (n : ℕ) → Stable (world (layer_kind K) S n) (layer_possible K P S) o
  stable n = record {
    grows = λ r p a e h. elim h [ inl f ↦ (let c = a.card in let none = f.cards in absurd (omega arith)) | inr y ↦ inr (grows_over K P law S o y n r a p e) ];
    shrinks = λ c v h. elim h [ inl f ↦ inl (refused_remove S o c v f) | inr y ↦ inr (shrinks_over K P law S o y c v) ];
    turns = λ t c v h. elim h [ inl f ↦ inl (refused_turn S o t c v f) | inr y ↦ inr (turns_over K P law S o y t c v) ];
  }

  pub kept_over : (n : ℕ) (c : Call) → layer_possible K P S o → layer_possible K P S (opens_after (world (layer_kind K) S n) o c)
  kept_over n c h = opens_kept (world (layer_kind K) S n) (layer_possible K P S) o (stable n) h c
