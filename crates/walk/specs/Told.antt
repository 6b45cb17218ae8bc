-- How the answers of code tell what a walk comes to.
use Rattle.std.specs.Prelude.{◌≡◌, ◌^◌, cond, Ok, Err, Result, Some, None, Option, nat_lt}
use Rattle.units.specs.declared.fault.Fault.{Fault}
use Rattle.units.specs.declared.fault.FaultKind.TheVariants.{Absent, Lacking}
use Rattle.units.specs.declared.mapping.Reach.{Reach}
use Rattle.entry.specs.declared.entry.Entry.{Entry}
use Rattle.walk.specs.Walks.{Walked, arrives, absent, lacking}

-- the entry where the walk arrives, or the fault, as this layer finds it, at the level where the walk ends before
abbrev pub Tells : Walked → Result Entry Fault → Type 0
Tells (arrives w) (Ok e) = e.word ≡ w
Tells (arrives w) (Err f) = ⊥
Tells (absent l) r = r ≡ Err (record { kind = Absent; layer = 0; place = l })
Tells (lacking l) r = r ≡ Err (record { kind = Lacking; layer = 0; place = l })

-- what is reached, if its number is one that a frame can have
abbrev pub with_frame : Option Reach → Option Reach
with_frame None = None
with_frame (Some r) = cond (nat_lt r.frame.0 (2 ^ 32)) (Some r) None
