-- The numbers of the rack's set-up.
use Rattle.std.specs.Prelude.{List, [], ◌∷◌}
use Rattle.units.specs.declared.number.DevicePage.{DevicePage}
use Rattle.units.specs.declared.number.Geometry.{Geometry}

-- each card's last device page; a set-up of 2 cards does not read the other two
abbrev pub last_pages : List DevicePage
last_pages = record { 0 = 1048575 } ∷ record { 0 = 1048575 } ∷ record { 0 = 1048575 } ∷ record { 0 = 1048575 } ∷ []

-- 2 cards and 8 frames of memory
abbrev pub numbers : Geometry
numbers = record { cards = 2; lasts = last_pages; frames = 8 }
