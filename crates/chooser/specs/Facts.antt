-- What holds of every choice of numbers whose value v gives, and worked examples.
use Rattle.std.specs.Prelude.{◌≡◌, ℕ, ◌<◌, List, [], ◌∷◌, Some, None}
use Rattle.chooser.specs.declared.gap.Range.{Range}
use Rattle.chooser.specs.Gaps.{Untouched, Chosen}
use Rattle.chooser.specs.Finding.{choice}

-- one answer at most
abbrev pub OneAnswer : {N : Type 0} → (N → ℕ) → Type 0
OneAnswer {N = N} v =
    (lo hi n : ℕ) (used : List (Range N)) → 0 < n →
    (x y : ℕ) → Chosen v lo hi used n x → Chosen v lo hi used n y → x ≡ y

-- the answer depends only on which numbers are free: not on the ranges' order, nor on how they are cut
abbrev pub AnyOrder : {N : Type 0} → (N → ℕ) → Type 0
AnyOrder {N = N} v =
    (lo hi n : ℕ) (us ws : List (Range N)) → 0 < n →
    ((x : ℕ) → Untouched v us x → Untouched v ws x) → ((x : ℕ) → Untouched v ws x → Untouched v us x) →
    choice v lo hi us n ≡ choice v lo hi ws n

abbrev pub span : ℕ → ℕ → Range ℕ
span a n = record { first = a; count = n }

-- gaps 1 to 2 and 5 to 6: the higher of equal gaps; gaps 1 to 3 and 7 to 8: the smaller gap, and no gap of 4
abbrev pub Examples : Type 0
Examples =
    (choice (λ k. k) 1 6 (span 3 2 ∷ []) 1 ≡ Some 6)
    × (choice (λ k. k) 1 8 (span 6 1 ∷ span 4 2 ∷ []) 1 ≡ Some 8)
    × (choice (λ k. k) 1 8 (span 6 1 ∷ span 4 2 ∷ []) 4 ≡ None)
