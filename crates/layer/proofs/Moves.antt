-- What map writes above, as the moves of bytes that a layer makes.
use Rattle.std.proofs.Common.{◌≡◌, ℕ, ◌+◌, ◌-◌, ◌*◌, ◌/◌, ◌<◌, ◌≤◌, Bool, true, false, cond, ◌&&◌, sym, ap, ◌∙◌, inl, inr, arith}
use mathlib.Core.Path.{fun_ext}
use Rattle.std.proofs.lemmas.Bool.{cases_Bool, cond-true, cond-false, and_from}
use Rattle.units.specs.declared.mapping.Mapping.{Mapping}
use Rattle.meaning.specs.Memory.{Bytes, within, clear, copy}
use Rattle.meaning.specs.Mappings.{Whole, Holds, Lands, first_frame, page_count, lands_on}
use Rattle.meaning.specs.Effects.{copy_in}
use Rattle.meaning.proofs.Facts.{within_true, within_from}
use Rattle.layer.specs.Lowering.{base_of}
use Rattle.layer.proofs.LawsAbove.{both, whole_holds}

-- a whole buffer at its own address: nothing, whatever is reserved
pub copy_in_whole : (reserved : ℕ → Bool) (m : Mapping) (x : Bytes) → Whole m → m.landing ≡ m.buffer.address → copy_in reserved m x ≡ x
unfolding copy_in
copy_in_whole reserved m x w own = fun_ext (λ q. elim (cases_Bool (within m.landing m.buffer.length q)) [
  | inl t ↦ (let low = (within_true m.landing m.buffer.length q t).0 in
      let here : m.buffer.address + (q - m.landing) ≡ q = omega arith in
      cond-true (within m.landing m.buffer.length q) (x (m.buffer.address + (q - m.landing))) _ t ∙ ap x here)
  | inr f ↦ cond-false (within m.landing m.buffer.length q) (x (m.buffer.address + (q - m.landing))) _ f
      ∙ cond-false (lands_on m (q / 4096) && reserved (q / 4096)) 0 (x q) (outside q f)
])
  where
    outside : (q : ℕ) → within m.landing m.buffer.length q ≡ false → (lands_on m (q / 4096) && reserved (q / 4096)) ≡ false
    outside q f = elim (cases_Bool (lands_on m (q / 4096))) [
      | inl t ↦ (let l = within_true (first_frame m) (page_count m) (q / 4096) t in
          let h = whole_holds m q w own (record { from = l.0; to = l.1 }) in
          let from = h.from in
          let to = h.to in
          absurd (both (within m.landing m.buffer.length q) (within_from m.landing m.buffer.length q (omega arith) (omega arith)) f))
      | inr g ↦ ap (λ (z : Bool). z && reserved (q / 4096)) g
    ]

-- a buffer that lands in reserved frames, none of which it touches: the frames are cleared, and the buffer copied to its landing
pub copy_in_frames : (reserved : ℕ → Bool) (m : Mapping) (x : Bytes) → ((q : ℕ) → Lands m q → reserved (q / 4096) ≡ true) → ((b : ℕ) → Holds m b → reserved (b / 4096) ≡ false)
    → copy m.landing m.buffer.address m.buffer.length (clear (base_of m.landing) (page_count m * 4096) x) ≡ copy_in reserved m x
unfolding copy_in copy clear
copy_in_frames reserved m x lands clean = fun_ext (λ q. elim (cases_Bool (within m.landing m.buffer.length q)) [
  | inl t ↦ (let w = within_true m.landing m.buffer.length q t in
      let low = w.0 in
      let high = w.1 in
      let from : m.buffer.address ≤ m.buffer.address + (q - m.landing) = omega arith in
      let to : m.buffer.address + (q - m.landing) < m.buffer.address + m.buffer.length = omega arith in
      cond-true (within m.landing m.buffer.length q) _ _ t ∙ untouched (m.buffer.address + (q - m.landing)) (record { from = from; to = to })
      ∙ sym (cond-true (within m.landing m.buffer.length q) (x (m.buffer.address + (q - m.landing))) _ t))
  | inr f ↦ cond-false (within m.landing m.buffer.length q) _ _ f ∙ cleared q ∙ sym (cond-false (within m.landing m.buffer.length q) (x (m.buffer.address + (q - m.landing))) _ f)
])
  where
    frame_of : (q : ℕ) → within (base_of m.landing) (page_count m * 4096) q ≡ true → Lands m q
    frame_of q t =
        let w = within_true (base_of m.landing) (page_count m * 4096) q t in
        let low = w.0 in
        let high = w.1 in record { from = omega arith; to = omega arith }

    byte_of : (q : ℕ) → Lands m q → within (base_of m.landing) (page_count m * 4096) q ≡ true
    byte_of q l =
        let from = l.from in
        let to = l.to in within_from (base_of m.landing) (page_count m * 4096) q (omega arith) (omega arith)

    -- the buffer's bytes are not cleared
    untouched : (b : ℕ) → Holds m b → cond (within (base_of m.landing) (page_count m * 4096) b) 0 (x b) ≡ x b
    untouched b h = elim (cases_Bool (within (base_of m.landing) (page_count m * 4096) b)) [
      | inl t ↦ absurd (both (reserved (b / 4096)) (lands b (frame_of b t)) (clean b h))
      | inr f ↦ cond-false (within (base_of m.landing) (page_count m * 4096) b) 0 (x b) f
    ]

    cleared : (q : ℕ) → cond (within (base_of m.landing) (page_count m * 4096) q) 0 (x q) ≡ cond (lands_on m (q / 4096) && reserved (q / 4096)) 0 (x q)
    cleared q = elim (cases_Bool (lands_on m (q / 4096))) [
      | inl t ↦ (let l = within_true (first_frame m) (page_count m) (q / 4096) t in
          let here : Lands m q = record { from = l.0; to = l.1 } in
          cond-true (within (base_of m.landing) (page_count m * 4096) q) 0 (x q) (byte_of q here)
          ∙ sym (cond-true (lands_on m (q / 4096) && reserved (q / 4096)) 0 (x q) (and_from (lands_on m (q / 4096)) (reserved (q / 4096)) t (lands q here))))
      | inr g ↦ elim (cases_Bool (within (base_of m.landing) (page_count m * 4096) q)) [
        | inl t ↦ (let l = frame_of q t in absurd (both (lands_on m (q / 4096)) (within_from (first_frame m) (page_count m) (q / 4096) l.from l.to) g))
        | inr k ↦ cond-false (within (base_of m.landing) (page_count m * 4096) q) 0 (x q) k
            ∙ sym (cond-false (lands_on m (q / 4096) && reserved (q / 4096)) 0 (x q) (ap (λ (z : Bool). z && reserved (q / 4096)) g))
      ]
    ]
