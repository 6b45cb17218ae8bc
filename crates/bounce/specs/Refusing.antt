-- Why a layer's set-up is refused.
use Rattle.std.specs.Prelude.{ℕ, Bool, cond, List, Some, None, Option, nat_lt}
use Rattle.units.specs.declared.fault.FaultKind.{FaultKind}
use Rattle.units.specs.declared.fault.FaultKind.TheVariants.{WrongPool}
use Rattle.units.specs.declared.mapping.Mapping.{Mapping}
use Rattle.meaning.specs.Worlds.{Setup}
use Rattle.layer.specs.Pools.{may_stand}

-- a pool may not stand where it was to
abbrev pub setup_refusal : Setup → (ℕ → Bool) → List Mapping → ℕ → ℕ → Option FaultKind
setup_refusal S reserved o first count = cond (may_stand S reserved o first count) None (Some WrongPool)

-- the refusal that a layer with so many pool frames tells, if any
abbrev pub told_by : ℕ → Option FaultKind
told_by count = cond (nat_lt 0 count) None (Some WrongPool)
