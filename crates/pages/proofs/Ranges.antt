-- The numbers of a set-up that is accepted, as facts.
use Rattle.std.proofs.Common.{◌≡◌, ℕ, zero, suc, ◌^◌, ◌<◌, ◌≤◌, true, List, arith}
use Rattle.std.proofs.lemmas.Bool.Decides.{nat_tests}
use Rattle.units.specs.declared.number.Geometry.{Geometry}
use Rattle.units.specs.Geometry.{last_page, in_range}
use Rattle.meaning.specs.Worlds.{Setup}
use Rattle.pages.specs.Lawful.{Ranged}

pub range_facts : (g : Geometry) (fixed : List ℕ) → in_range g ≡ true → (let S : Setup = record { cards = g.cards; lasts = g.lasts; frames = g.frames; fixed = fixed } in Ranged S) × (0 < g.cards)
range_facts g fixed e = ((grind (arith, nat_tests), grind (arith, nat_tests), each), grind (arith, nat_tests))
  where
    each : (c : ℕ) → c < g.cards → (1 ≤ last_page g c) × (last_page g c < 2 ^ 36)
    each zero h = (grind (arith, nat_tests), grind (arith, nat_tests))
    each (suc zero) h = (grind (arith, nat_tests), grind (arith, nat_tests))
    each (suc (suc zero)) h = (grind (arith, nat_tests), grind (arith, nat_tests))
    each (suc (suc (suc zero))) h = (grind (arith, nat_tests), grind (arith, nat_tests))
    each (suc (suc (suc (suc c)))) h = let four : g.cards ≤ 4 = grind (arith, nat_tests) in absurd (omega arith)
