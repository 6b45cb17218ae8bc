-- What a search for a free table tells, and how many are free.
use Rattle.std.proofs.Common.{◌≡◌, ℕ, zero, suc, ◌<◌, inl, inr, false, List, [], ◌∷◌, length, set, Some, None, ◌≢◌, sym, ap, ◌∙◌, arith, position}
use Rattle.std.specs.List.{position_or_len}
use Rattle.std.proofs.lemmas.List.Sums.{fails_before_first, passes_at_first}
use Rattle.std.proofs.lemmas.Bool.{cases_lt, lt-ltb, le-ltb, both_ways, cases_Bool}
use Rattle.tree.specs.declared.place.Table.{Table}
use Rattle.tree.specs.declared.place.Table.TheVariants.{Missing, Free}
use Rattle.tree.specs.Places.{table_at, is_free}
use Rattle.tree.specs.Counts.{free_count}
use Rattle.tree.proofs.Standing.{free_is, free_below}

-- the table that a search finds is free
pub found_free : (ts : List Table) (t : ℕ) → position is_free ts ≡ Some t → table_at ts t ≡ Free
found_free ts t e =
    let p = position_or_len is_free ts in
    elim (cases_lt p (length ts)) [
      | inl b ↦ (
          let f : position is_free ts ≡ Some p = rw (lt-ltb p (length ts) b) in
          let s : p ≡ t = cc in
          ap (table_at ts) (sym s) ∙ free_is (table_at ts p) (passes_at_first is_free ts Missing b))
      | inr b ↦ (let f : position is_free ts ≡ None = rw (le-ltb p (length ts) b) in absurd (cc))
    ]

-- no table is free where a search finds none
pub none_free : (ts : List Table) → position is_free ts ≡ None → (t : ℕ) → table_at ts t ≢ Free
none_free ts e t h =
    let p = position_or_len is_free ts in
    let b = free_below ts t h in
    elim (cases_lt p (length ts)) [
      | inl i ↦ (let f : position is_free ts ≡ Some p = rw (lt-ltb p (length ts) i) in absurd (cc))
      | inr i ↦ both_ways (is_free (table_at ts t)) (fails_before_first is_free ts t Missing (omega arith)) (ap is_free h)
    ]

-- where some table is free, one is found by counting
pub free_at : (ts : List Table) → 0 < free_count ts → (t : ℕ) × (table_at ts t ≡ Free)
free_at [] b = absurd (omega arith)
free_at (x ∷ xs) b = elim (cases_Bool (is_free x)) [
  | inl e ↦ (0, free_is x e)
  | inr e ↦ (
      let c : free_count (x ∷ xs) ≡ free_count xs = rw e in
      let later = free_at xs (omega arith) in
      (suc later.0, later.1))
]

-- one free table fewer once it is taken
pub count_taken : (ts : List Table) (u : ℕ) (x : Table) → table_at ts u ≡ Free → is_free x ≡ false → suc (free_count (set ts u x)) ≡ free_count ts
count_taken [] u x e n = absurd (cc)
count_taken (y ∷ ys) zero x e n =
    let a : free_count (x ∷ ys) ≡ free_count ys = rw n in
    let b : free_count (y ∷ ys) ≡ suc (free_count ys) = rw (ap is_free e) in
    omega arith
count_taken (y ∷ ys) (suc u) x e n = let later = count_taken ys u x e n in elim (cases_Bool (is_free y)) [
  | inl f ↦ rw f (ap suc later)
  | inr f ↦ rw f later
]

-- and one more once a table is freed
pub count_freed : (ts : List Table) (u : ℕ) → u < length ts → is_free (table_at ts u) ≡ false → free_count (set ts u Free) ≡ suc (free_count ts)
count_freed [] u b n = absurd (omega arith)
count_freed (y ∷ ys) zero b n =
    let a : free_count (y ∷ ys) ≡ free_count ys = rw n in
    ap suc (sym a)
count_freed (y ∷ ys) (suc u) b n = let later = count_freed ys u (omega arith) n in elim (cases_Bool (is_free y)) [
  | inl f ↦ rw f (ap suc later)
  | inr f ↦ rw f later
]
