-- How items are written as a script.
use Rattle.std.specs.Prelude.{ℕ, List, [], ◌∷◌, ◌++◌, length}
use Rattle.std.specs.List.{flat_map}
use Rattle.units.specs.declared.number.Card.{Card}
use Rattle.units.specs.declared.number.DeviceAddress.{DeviceAddress}
use Rattle.script.specs.Items.{Item, map, unmap, sync_for_cpu, sync_for_card, cpu_write, cpu_read, card_write, card_read}
use Rattle.script.specs.Numbers.{bytes_of}

-- the tag of each kind of record
abbrev pub tag_of : Item → ℕ
tag_of (map request) = 1
tag_of (unmap card direction device n) = 2
tag_of (sync_for_cpu card device) = 3
tag_of (sync_for_card card device) = 4
tag_of (cpu_write address bytes) = 5
tag_of (cpu_read address count) = 6
tag_of (card_write card device bytes) = 7
tag_of (card_read card device count) = 8

-- a card and the device address that it uses
abbrev pub target : Card → DeviceAddress → List ℕ
target card device = card.0 ∷ bytes_of 8 device.0

-- the fields of an item, in their order
abbrev pub fields_of : Item → List ℕ
fields_of (map r) = r.card.0 ∷ r.direction ∷ bytes_of 4 r.buffer.address ++ bytes_of 4 r.buffer.length
fields_of (unmap card direction device n) = card.0 ∷ direction ∷ bytes_of 8 device.0 ++ bytes_of 4 n
fields_of (sync_for_cpu card device) = target card device
fields_of (sync_for_card card device) = target card device
fields_of (cpu_write address bytes) = bytes_of 4 address ++ bytes
fields_of (cpu_read address count) = bytes_of 4 address ++ (count ∷ [])
fields_of (card_write card device bytes) = target card device ++ bytes
fields_of (card_read card device count) = target card device ++ (count ∷ [])

-- a record: tag, length and value
abbrev pub record_of : Item → List ℕ
record_of item = tag_of item ∷ bytes_of 2 (length (fields_of item)) ++ fields_of item

-- the records one after another
abbrev pub encode : List Item → List ℕ
encode items = flat_map record_of items
