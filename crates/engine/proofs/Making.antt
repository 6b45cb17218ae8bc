-- What the bounds of a mapper say to an engine over it.
use Rattle.mapper.specs.declared.laws.Meaning.{Ghosts as Meaning}
use Rattle.std.proofs.Common.{◌≡◌, ℕ, ◌+◌, ◌-◌, ◌^◌, ◌<◌, ◌≤◌, min, true, List, length, get_or, set, Some, arith}
use mathlib.Core.Path.{fun_ext}
use Rattle.std.proofs.lemmas.Grind.{common_steps}
use Rattle.std.proofs.lemmas.Bool.Decides.{nat_tests}
use Rattle.units.specs.declared.fault.Fault.{Fault}
use Rattle.units.specs.declared.mapping.Mapping.{Mapping}
use Rattle.units.specs.declared.number.DeviceAddress.{DeviceAddress}
use Rattle.units.specs.declared.report.Report.{Report}
use Rattle.units.specs.Faults.{is_block_kind}
use Rattle.meaning.specs.Worlds.{World}
use Rattle.meaning.specs.Calls.{card_read, card_write, Answer, fails}
use Rattle.meaning.specs.Checks.{errs, verdict}
use Rattle.meaning.specs.Effects.{answered, noted}
use Rattle.engine.specs.Made.{blank, reports_of}

module _ {M : Type 0} (I : Meaning M) where
  pub few_cards : (m : M) → (I.setup m).cards ≤ 4
  few_cards m = (I.bounds (I.setup m) (I.opened m) (I.standing m)).cards

-- a block is of a card that there is
pub read_blocked : (W : World) (o : List Mapping) (c v n : ℕ) (t : List ℕ) (a : Answer) (f : Fault) → fails f ≡ answered (verdict W o (card_read c v n t)) a → is_block_kind f.kind ≡ true → c < W.cards
unfolding verdict
read_blocked W o c v n t a f e b = grind (arith, nat_tests)

pub write_blocked : (W : World) (o : List Mapping) (c v : ℕ) (t : List ℕ) (a : Answer) (f : Fault) → fails f ≡ answered (verdict W o (card_write c v t)) a → is_block_kind f.kind ≡ true → c < W.cards
unfolding verdict
write_blocked W o c v t a f e b = grind (arith, nat_tests)

-- a block is noted by a set of its card's report: one more, and the latest
pub noted_set : (l : List Report) (c k : ℕ) (d : DeviceAddress) (f : Fault) → is_block_kind f.kind ≡ true → c < length l → k ≡ min ((get_or l c blank).count + 1) (2 ^ 32 - 1)
    → reports_of (set l c (record { count = k; latest = Some (record { device = d; kind = f.kind; level = f.place }) })) ≡ noted c d.0 (errs f) (reports_of l)
unfolding reports_of
noted_set l c k d f b lt e = fun_ext (λ j. grind (arith, common_steps))
