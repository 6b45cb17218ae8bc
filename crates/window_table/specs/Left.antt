-- What an accepted call leaves of the windows, each in its place: the first free window takes a mapping, and one changes at most.
use Rattle.std.specs.Prelude.{◌≡◌, List}
use Rattle.units.specs.Holders.{holder_after}
use Rattle.mapper.specs.Tasks.{Task, opens, closes, turns, translates}
use Rattle.slots.specs.declared.slot.Slot.{Slot}
use Rattle.slots.specs.Slots.{FirstTaken, freed, passed}

abbrev pub WindowsLeft : List Slot → Task → List Slot → Type 0
WindowsLeft ws (opens r) ws' = FirstTaken ws ws'
WindowsLeft ws (closes c v) ws' = ws' ≡ freed c v ws
WindowsLeft ws (turns s c v) ws' = ws' ≡ passed (holder_after s) c v ws
WindowsLeft ws (translates c p a) ws' = ws' ≡ ws
