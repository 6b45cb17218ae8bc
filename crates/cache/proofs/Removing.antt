-- The loop that takes the entries of one card and page out of an array, in place.
use Rattle.std.proofs.Common.{◌≡◌, ℕ, ◌+◌, ◌<◌, ◌≤◌, Bool, true, false, not, List, length, get_or, take, set, sym, ap, ◌∙◌, arith}
use Rattle.std.specs.List.{filter}
use Rattle.std.proofs.lemmas.List.{get_or_default}
use Rattle.std.proofs.lemmas.List.Filters.{FiltersInPlace, FiltersInPlace-more_no, FiltersInPlace-more_set}
use Rattle.cache.specs.declared.cache.Translation.{Translation}
use Rattle.cache.specs.Entries.{is_of, without}

-- the entry at i is of the card and page, or is kept
abbrev pub Removes : ℕ → ℕ → List Translation → List Translation → ℕ → ℕ → Type 0
Removes c p xs ys k i = FiltersInPlace (λ x. not (is_of c p x)) xs ys k i

module _ (c p : ℕ) (xs ys : List Translation) (k i : ℕ) (r : Bool) (d : Translation) (h : Removes c p xs ys k i) (l : i < length ys) (e : r ≡ is_of c p (get_or ys i d)) where
  here : get_or ys i d ≡ get_or ys i (get_or ys i d)
  here = get_or_default ys i d (get_or ys i d) l

  pub passed_over : r ≡ true → Removes c p xs ys k (i + 1)
  passed_over t = FiltersInPlace-more_no {x = get_or ys i d} h l (ap not (sym e ∙ t)) here

  pub kept : r ≡ false → Removes c p xs (set ys k (get_or ys i d)) (k + 1) (i + 1)
  kept f = FiltersInPlace-more_set {x = get_or ys i d} h l (ap not (sym e ∙ f)) here

-- after the last of the first n entries
pub removed : (c p : ℕ) (xs ys : List Translation) (k n i : ℕ) → Removes c p xs ys k i → i ≤ n → n ≤ i → take k ys ≡ without c p (take n xs)
unfolding without
removed c p xs ys k n i h below above =
    let same : i ≡ n = omega arith in
    h.front ∙ ap (λ (j : ℕ). filter (λ x. not (is_of c p x)) (take j xs)) same
