-- What stands at a place in a script: a tag, the value's length in two bytes, and the value.
use Rattle.std.specs.Prelude.{ℕ, ◌+◌, cond, List, length, drop, Some, None, Ok, Err, Option, Result, nat_le, nat_lt, slice_index}
use Rattle.std.specs.List.{between}
use Rattle.units.specs.declared.fault.Fault.{Fault}
use Rattle.units.specs.declared.fault.FaultKind.{FaultKind}
use Rattle.units.specs.declared.fault.FaultKind.TheVariants.{CutShort}
use Rattle.script.specs.Items.{Item}
use Rattle.script.specs.Numbers.{little}
use Rattle.script.specs.Values.{Reading, item_of}

-- the script's end, a refusal, or an item and the place after it
pub data Parsed : Type 0 where
  end : Parsed
  refused : Fault → Parsed
  found : Item → ℕ → Parsed

-- the refusal of the record that begins at a place
abbrev pub refusal : FaultKind → ℕ → Parsed
refusal kind at = refused (record { kind = kind; layer = 0; place = at })

-- what was read of the record that begins at a place, and where the next begins
abbrev pub placed : ℕ → ℕ → Reading → Parsed
placed at next (Ok item) = found item next
placed at next (Err kind) = refusal kind at

-- where the record that begins at a place ends, by the length that it states
abbrev pub end_at : List ℕ → ℕ → ℕ
end_at script at = at + 3 + little 2 (drop (at + 1) script)

-- the same, unless the script ends before the record does
abbrev pub whole_end : List ℕ → ℕ → Option ℕ
whole_end script at = cond (nat_lt (length script) (at + 3)) None (cond (nat_lt (length script) (end_at script at)) None (Some (end_at script at)))

-- the record from a place to its end
abbrev pub standing : List ℕ → ℕ → Option ℕ → Parsed
standing script at None = refusal CutShort at
standing script at (Some next) = placed at next (item_of (slice_index script at) (between (at + 3) next script))

-- what stands at a place
abbrev pub item_at : List ℕ → ℕ → Parsed
item_at script at = cond (nat_le (length script) at) end (standing script at (whole_end script at))

-- what a reader answers there
abbrev pub answer_of : Parsed → Result (Option Item) Fault
answer_of end = Ok None
answer_of (refused fault) = Err fault
answer_of (found item next) = Ok (Some item)

-- where a reader goes from a place: on past an item, and else nowhere
abbrev pub on_from : ℕ → Parsed → ℕ
on_from at end = at
on_from at (refused fault) = at
on_from at (found item next) = next
