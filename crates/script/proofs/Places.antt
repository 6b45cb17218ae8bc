-- Reading a record where it is whole, and how far it goes.
use Rattle.std.proofs.Common.{◌≡◌, ℕ, ◌+◌, ◌≤◌, List, length, Some, arith}
use Rattle.std.proofs.lemmas.Bool.Decides.{nat_tests}
use Rattle.script.specs.Format.{Parsed, end, refused, found, end_at, standing, item_at}

pub none_left : (s : List ℕ) (at : ℕ) → length s ≤ at → item_at s at ≡ end
none_left s at h = grind (arith, nat_tests)

pub whole : (s : List ℕ) (at : ℕ) → end_at s at ≤ length s → item_at s at ≡ standing s at (Some (end_at s at))
whole s at h = grind (arith, nat_tests)

-- the place after an item is three bytes or more on, and no more than n
abbrev pub Onward : ℕ → ℕ → Parsed → Type 0
Onward at n end = Unit {0}
Onward at n (refused fault) = Unit {0}
Onward at n (found item next) = (at + 3 ≤ next) × (next ≤ n)

pub item_onward : (s : List ℕ) (at : ℕ) → Onward at (length s) (item_at s at)
item_onward s at = grind (arith, nat_tests)
