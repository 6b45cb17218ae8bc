-- Copies and writes, byte by byte, of two memories; and where the bytes of a landing lie.
use Rattle.std.proofs.Common.{◌≡◌, ℕ, ◌+◌, ◌-◌, ◌*◌, ◌/◌, ◌%◌, ◌<◌, ◌≤◌, Bool, true, false, cond, ◌&&◌, ◌⊎◌, List, length, refl, ap, inl, inr, arith, slice_index}
use Rattle.std.proofs.lemmas.Bool.{cond-false, cases_Bool, cases_eq}
use Rattle.units.specs.declared.mapping.Mapping.{Mapping}
use Rattle.units.specs.Buffers.{span}
use Rattle.meaning.specs.Memory.{Bytes, within, copy, paste}
use Rattle.meaning.specs.Mappings.{Whole, Holds, Lands, lands_on, first_frame, page_count}
use Rattle.meaning.specs.Effects.{copy_in}
use Rattle.meaning.proofs.Facts.{within_true, within_from}

pub cond_same : {X : Type 0} (b : Bool) (p p' r r' : X) → (b ≡ true → p ≡ p') → (b ≡ false → r ≡ r') → cond b p r ≡ cond b p' r'
cond_same true p p' r r' f g = f refl
cond_same false p p' r r' f g = g refl

-- Moves ---------------------------------------------------------------------------------------------------

-- the same copy in both
pub copied : (to from n : ℕ) (x y : Bytes) (q : ℕ) → (to ≤ q → q < to + n → x (from + (q - to)) ≡ y (from + (q - to)))
    → x q ≡ y q → copy to from n x q ≡ copy to from n y q
unfolding copy
copied to from n x y q inside outside = cond_same (within to n q) (x (from + (q - to))) (y (from + (q - to))) (x q) (y q)
    (λ e. let h = within_true to n q e in inside h.0 h.1) (λ e. outside)

-- the same write in both
pub pasted : (a : ℕ) (t : List ℕ) (x y : Bytes) (q : ℕ) → x q ≡ y q → paste a t x q ≡ paste a t y q
unfolding paste
pasted a t x y q e = ap (cond (within a (length t) q) (slice_index t (q - a))) e

-- a write elsewhere
pub untouched : (a : ℕ) (t : List ℕ) (x : Bytes) (q : ℕ) → (a ≤ q → q < a + length t → ⊥) → paste a t x q ≡ x q
unfolding paste
untouched a t x q out = elim (cases_Bool (within a (length t) q)) [
  | inl e ↦ (let h = within_true a (length t) q e in absurd (out h.0 h.1))
  | inr e ↦ cond-false (within a (length t) q) (slice_index t (q - a)) (x q) e
]

-- the same mapping opened in both
pub copied_in : (reserved : ℕ → Bool) (m : Mapping) (x y : Bytes) (q : ℕ)
    → (m.landing ≤ q → q < m.landing + m.buffer.length → x (m.buffer.address + (q - m.landing)) ≡ y (m.buffer.address + (q - m.landing)))
    → ((lands_on m (q / 4096) && reserved (q / 4096)) ≡ false → x q ≡ y q) → copy_in reserved m x q ≡ copy_in reserved m y q
unfolding copy_in
copied_in reserved m x y q inside outside =
    cond_same (within m.landing m.buffer.length q) (x (m.buffer.address + (q - m.landing))) (y (m.buffer.address + (q - m.landing)))
    (cond (lands_on m (q / 4096) && reserved (q / 4096)) 0 (x q)) (cond (lands_on m (q / 4096) && reserved (q / 4096)) 0 (y q))
    (λ e. let h = within_true m.landing m.buffer.length q e in inside h.0 h.1)
    (λ e. cond_same (lands_on m (q / 4096) && reserved (q / 4096)) 0 0 (x q) (y q) (λ f. refl) outside)

-- Where a landing lies ------------------------------------------------------------------------------------

pub lands_or_not : (m : Mapping) (q : ℕ) → Lands m q ⊎ (lands_on m (q / 4096) ≡ false)
lands_or_not m q = elim (cases_Bool (lands_on m (q / 4096))) [
  | inl e ↦ (let h = within_true (first_frame m) (page_count m) (q / 4096) e in inl (record { from = h.0; to = h.1 }))
  | inr e ↦ inr e
]

pub lands_test : (m : Mapping) (q : ℕ) → Lands m q → lands_on m (q / 4096) ≡ true
lands_test m q h = within_from (first_frame m) (page_count m) (q / 4096) h.from h.to

-- landing bytes lie in landing frames
pub lands_byte : (m : Mapping) (q : ℕ) → m.landing % 4096 ≡ m.buffer.address % 4096 → m.landing ≤ q → q < m.landing + m.buffer.length → Lands m q
lands_byte m q e f t = omega arith

-- the frames of a whole buffer hold nothing else
pub whole_holds : (m : Mapping) (q : ℕ) → Whole m → m.landing ≡ m.buffer.address → Lands m q → Holds m q
whole_holds m q w e h = omega arith

-- a byte that a card reaches lies in the frame reached
pub lands_reached : (m : Mapping) (f j r q : ℕ) → f ≡ first_frame m + j → j < page_count m
    → f * 4096 + r ≤ q → q < f * 4096 + 4096 → Lands m q
lands_reached m f j r q e h a b = omega arith

pub frames_held : (a n b : ℕ) → a ≤ b → b < a + n → (a / 4096 ≤ b / 4096) × (b / 4096 < a / 4096 + span a n)
frames_held a n b f t = omega arith

pub whole_or_not : (m : Mapping) → Whole m ⊎ (Whole m → ⊥)
whole_or_not m = elim (cases_eq (m.buffer.address % 4096) 0) [
  | inl e ↦ elim (cases_eq (m.buffer.length % 4096) 0) [ inl f ↦ inl (record { starts = e; ends = f }) | inr f ↦ inr (λ w. f w.ends) ]
  | inr e ↦ inr (λ w. e w.starts)
]
