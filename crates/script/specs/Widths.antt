-- Which items a record can hold: each field fits its width.
use Rattle.std.specs.Prelude.{ℕ, ◌^◌, ◌<◌, ◌≤◌, List, length}
use Rattle.std.specs.List.{AllByRecursion}
use Rattle.units.specs.declared.number.Card.{Card}
use Rattle.units.specs.declared.number.DeviceAddress.{DeviceAddress}
use Rattle.script.specs.Items.{Item, map, unmap, sync_for_cpu, sync_for_card, cpu_write, cpu_read, card_write, card_read}

-- a byte, an address or a length, and a device address
abbrev pub Byte : ℕ → Type 0
Byte n = n < 256

abbrev pub Word : ℕ → Type 0
Word n = n < 2 ^ 32

abbrev pub Target : Card → DeviceAddress → Type 0
Target card device = Byte card.0 × (device.0 < 2 ^ 64)

-- 1 to 64 bytes
abbrev pub Data : List ℕ → Type 0
Data bytes = (1 ≤ length bytes) × (length bytes ≤ 64) × AllByRecursion Byte bytes

abbrev pub Fitting : Item → Type 0
Fitting (map r) = Byte r.card.0 × Byte r.direction × Word r.buffer.address × Word r.buffer.length
Fitting (unmap card direction device n) = Target card device × Byte direction × Word n
Fitting (sync_for_cpu card device) = Target card device
Fitting (sync_for_card card device) = Target card device
Fitting (cpu_write address bytes) = Word address × Data bytes
Fitting (cpu_read address count) = Word address × Byte count
Fitting (card_write card device bytes) = Target card device × Data bytes
Fitting (card_read card device count) = Target card device × Byte count
