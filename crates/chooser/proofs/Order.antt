-- The preference is a total order on gaps that share no number.
use Rattle.std.proofs.Common.{◌≡◌, ◌<◌, ◌≤◌, true, ◌⊎◌, arith}
use Rattle.std.proofs.lemmas.Bool.Decides.{nat_tests}
use Rattle.chooser.specs.declared.gap.Gap.{Gap}
use Rattle.chooser.specs.Preference.{prefers, Order}

one_way : (a b : Gap) → prefers a b ≡ true → prefers b a ≡ true → ⊥
one_way a b p q = grind (arith, nat_tests)

onwards : (a b c : Gap) → prefers a b ≡ true → prefers b c ≡ true → prefers a c ≡ true
onwards a b c p q = grind (arith, nat_tests)

total : (a b : Gap) → a.first ≤ a.last → b.first ≤ b.last → (a.last < b.first) ⊎ (b.last < a.first) → (prefers a b ≡ true) ⊎ (prefers b a ≡ true)
total a b p q d = grind (arith, nat_tests)

pub prefers_order : Order prefers
prefers_order = record { one_way = one_way; onwards = onwards; total = total }
