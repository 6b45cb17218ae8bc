-- What the code's results tell, as answers and verdicts.
use Rattle.std.specs.Prelude.{◌≡◌, ℕ, List, Some, None, Ok, Err, Option, Result}
use Rattle.units.specs.declared.fault.Fault.{Fault}
use Rattle.units.specs.declared.fault.FaultKind.{FaultKind}
use Rattle.units.specs.declared.mapping.Mapping.{Mapping}
use Rattle.units.specs.declared.number.DeviceAddress.{DeviceAddress}
use Rattle.units.specs.declared.report.Report.{Report}
use Rattle.meaning.specs.Memory.{bytes_of}
use Rattle.meaning.specs.Calls.{Answer, fails, done, at, bytes, tells}
use Rattle.meaning.specs.Checks.{Verdict, fine, errs, fault}

abbrev pub tells_at : Result DeviceAddress Fault → Answer
tells_at (Ok v) = at v.0
tells_at (Err f) = fails f

abbrev pub tells_done : Result (Unit {0}) Fault → Answer
tells_done (Ok u) = done
tells_done (Err f) = fails f

-- a read whose answer buffer holds t afterwards
abbrev pub tells_bytes : Result (Unit {0}) Fault → List ℕ → Answer
tells_bytes (Ok u) t = bytes (bytes_of t)
tells_bytes (Err f) t = fails f

abbrev pub tells_report : Result Report Fault → Answer
tells_report (Ok r) = tells r
tells_report (Err f) = fails f

-- checks that answered so, and then v
abbrev pub passes : {X : Type 0} → Result X Fault → Verdict → Verdict
passes (Ok x) v = v
passes (Err f) v = errs f

-- the mapping found, where the checks let it pass, or the first error
abbrev pub Names : Verdict → Option Mapping → Result Mapping Fault → Type 0
Names w found (Ok m) = (w ≡ fine) × (found ≡ Some m)
Names w found (Err f) = w ≡ errs f

-- a lowest number at which a check fails, if any
abbrev pub lowest : FaultKind → Option ℕ → Verdict
lowest k None = fine
lowest k (Some p) = fault k p

-- one of two facts, by whether the answer is an error
abbrev pub IfFails : Answer → Type 0 → Type 0 → Type 0
IfFails (fails f) P Q = P
IfFails done P Q = Q
IfFails (at v) P Q = Q
IfFails (bytes f) P Q = Q
IfFails (tells r) P Q = Q
