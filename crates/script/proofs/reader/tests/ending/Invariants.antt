-- With each record the reader goes on within the script.
use Rattle.std.proofs.Common.{◌-◌, length}
use Rattle.script.specs.Readers.{script_of, place_of}
use Rattle.script.proofs.reader.tests.ending.Given as goal

abbrev pub decreases-loop : goal.decreases-loop
decreases-loop l = length (script_of l.reader) - place_of l.reader
