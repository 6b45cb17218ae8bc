-- What a reader holds, and what its answers stand for.
use Rattle.std.specs.Prelude.{ℕ, ◌+◌, ◌≤◌, List, length, Some, None, Ok, Err, Option, Result}
use Rattle.units.specs.declared.fault.Fault.{Fault}
use Rattle.script.specs.declared.reader.Reader.{Reader}
use Rattle.script.specs.declared.record.Record.{Record}
use Rattle.script.specs.Items.{Item, meant}
use Rattle.script.specs.Format.{Parsed, end, refused, found, item_at}

-- the script's bytes, the place where the reader stands, and what stands there
abbrev pub script_of : Reader → List ℕ
script_of r = r.script.now

abbrev pub place_of : Reader → ℕ
place_of r = r.position

abbrev pub ahead : Reader → Parsed
ahead r = item_at (script_of r) (place_of r)

-- a record and the place after it
abbrev pub parsed : Result (Option (Record × ℕ)) Fault → Parsed
parsed (Ok None) = end
parsed (Ok (Some p)) = found (meant p.0) p.1
parsed (Err fault) = refused fault

-- a record alone
abbrev pub answered : Result (Option Record) Fault → Result (Option Item) Fault
answered (Ok None) = Ok None
answered (Ok (Some r)) = Ok (Some (meant r))
answered (Err fault) = Err fault

-- the place after a record is three bytes on at least, and no more than n
abbrev pub Past : Result (Option (Record × ℕ)) Fault → ℕ → ℕ → Type 0
Past (Ok None) at n = Unit {0}
Past (Ok (Some p)) at n = (at + 3 ≤ p.1) × (p.1 ≤ n)
Past (Err fault) at n = Unit {0}

-- with each record the reader goes on, by three bytes at least, and stays within the script
abbrev pub Forward : Result (Option Record) Fault → Reader → Reader → Type 0
Forward (Ok None) old new = Unit {0}
Forward (Ok (Some r)) old new = (place_of old + 3 ≤ place_of new) × (place_of new ≤ length (script_of new))
Forward (Err fault) old new = Unit {0}
