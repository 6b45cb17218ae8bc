-- Directions, the numbers that name them, and the rights that they give a card.
use Rattle.std.specs.Prelude.{ℕ, zero, suc, Bool, true, false, Ok, Err, Result}
use Rattle.units.specs.declared.direction.Access.{Access}
use Rattle.units.specs.declared.direction.Access.TheVariants.{Read, Write}
use Rattle.units.specs.declared.direction.Direction.{Direction}
use Rattle.units.specs.declared.direction.Direction.TheVariants.{Both, ToCard, FromCard}
use Rattle.units.specs.declared.direction.Rights.{Rights}
use Rattle.units.specs.declared.fault.FaultKind.{FaultKind}
use Rattle.units.specs.declared.fault.FaultKind.TheVariants.{NoDirection}

abbrev pub code_of : Direction → ℕ
code_of Both = 0
code_of ToCard = 1
code_of FromCard = 2

-- the direction that a number names
abbrev pub coded : ℕ → Result Direction FaultKind
coded zero = Ok Both
coded (suc zero) = Ok ToCard
coded (suc (suc zero)) = Ok FromCard
coded (suc (suc (suc n))) = Err NoDirection

abbrev pub rights_of : Direction → Rights
rights_of Both = record { read = true; write = true }
rights_of ToCard = record { read = true; write = false }
rights_of FromCard = record { read = false; write = true }

abbrev pub allows : Access → Rights → Bool
allows Read r = r.read
allows Write r = r.write
