use Rattle.std.proofs.Common.{◌-◌, length}
use Rattle.script.specs.Readers.{script_of, place_of}
use Rattle.session.proofs.Reading.{Read}
use Rattle.session.proofs.Session.read.Given as goal

abbrev pub invariant-loop-asked : goal.invariant-loop-asked
invariant-loop-asked l = Read l.script l.reader l.steps.items

abbrev pub decreases-loop-asked : goal.decreases-loop-asked
decreases-loop-asked l = length (script_of l.reader) - place_of l.reader
