-- What a walk's end says of an access.
use Rattle.units.specs.declared.fault.FaultKind.TheVariants.{Absent, Lacking}
use Rattle.meaning.specs.Checks.{Verdict, fine, fault}
use Rattle.walk.specs.Walks.{Walked, arrives, absent, lacking}

-- the access passes where the walk arrives, and is blocked at the level where it ends before
abbrev pub verdict_of : Walked → Verdict
verdict_of (arrives w) = fine
verdict_of (absent l) = fault Absent l
verdict_of (lacking l) = fault Lacking l
