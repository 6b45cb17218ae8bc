-- What a whole script says: its items in their order, and the refusal that ends it, if any.
use Rattle.std.specs.Prelude.{ℕ, zero, suc, ◌-◌, List, [], ◌∷◌, length, take, Some, None, Option}
use Rattle.units.specs.declared.fault.Fault.{Fault}
use Rattle.script.specs.Items.{Item}
use Rattle.script.specs.Format.{Parsed, end, refused, found, item_at}

pub record Script : Type 0 where
  pub items : List Item
  pub refusal : Option Fault

-- what the rest of a script says, from what stands at a place and what is read from each later one
abbrev pub go_on : (ℕ → Script) → Parsed → Script
go_on from end = record { items = []; refusal = None }
go_on from (refused fault) = record { items = []; refusal = Some fault }
go_on from (found item next) = record { items = item ∷ (from next).items; refusal = (from next).refusal }

-- at most a number of turns of that; a turn takes three bytes at least
abbrev pub read_for : ℕ → List ℕ → ℕ → Script
read_for zero script at = record { items = []; refusal = None }
read_for (suc turns) script at = go_on (read_for turns script) (item_at script at)

-- what a script says from a place on: it has no more turns than bytes
abbrev pub read_from : List ℕ → ℕ → Script
read_from script at = read_for (length script - at) script at

-- what lent bytes say: the first 16,384 of them are the script
abbrev pub read_all : List ℕ → Script
read_all bytes = read_from (take 16384 bytes) 0
