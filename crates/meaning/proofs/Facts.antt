-- The words for a mapping, as tests and as facts.
use Rattle.std.proofs.Common.{◌≡◌, ℕ, ◌+◌, ◌<◌, ◌≤◌, true, arith}
use Rattle.std.proofs.lemmas.Bool.Decides.{nat_tests}
use Rattle.units.specs.declared.mapping.Mapping.{Mapping}
use Rattle.meaning.specs.Memory.{within}
use Rattle.meaning.specs.Mappings.{on_page, Pages}

pub within_true : (a n q : ℕ) → within a n q ≡ true → (a ≤ q) × (q < a + n)
within_true a n q e = grind (arith, nat_tests)

pub within_from : (a n q : ℕ) → a ≤ q → q < a + n → within a n q ≡ true
within_from a n q l h = grind (arith, nat_tests)

pub page_fact : (c p : ℕ) (m : Mapping) → on_page c p m ≡ true → (m.card.0 ≡ c) × Pages m p
page_fact c p m e = (grind (arith, nat_tests), record { from = grind (arith, nat_tests); to = grind (arith, nat_tests) })

pub page_test : (c p : ℕ) (m : Mapping) → m.card.0 ≡ c → Pages m p → on_page c p m ≡ true
page_test c p m e h = grind (arith, nat_tests)
