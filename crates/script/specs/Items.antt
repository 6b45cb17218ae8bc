-- What a script asks for: its records, with the data of a write as a list of bytes.
use Rattle.std.specs.Prelude.{ℕ, List}
use Rattle.units.specs.declared.mapping.Request.{Request}
use Rattle.units.specs.declared.mapping.Sync.TheVariants.{ForCpu, ForCard}
use Rattle.units.specs.declared.number.Card.{Card}
use Rattle.units.specs.declared.number.DeviceAddress.{DeviceAddress}
use Rattle.script.specs.declared.record.Record.{Record}
use Rattle.script.specs.declared.record.Record.TheVariants.{Map, Unmap, Sync, CpuWrite, CpuRead, CardWrite, CardRead}

pub data Item : Type 0 where
  map : Request → Item
  unmap : Card → ℕ → DeviceAddress → ℕ → Item
  sync_for_cpu : Card → DeviceAddress → Item
  sync_for_card : Card → DeviceAddress → Item
  cpu_write : ℕ → List ℕ → Item
  cpu_read : ℕ → ℕ → Item
  card_write : Card → DeviceAddress → List ℕ → Item
  card_read : Card → DeviceAddress → ℕ → Item

-- the item that a record stands for
abbrev pub meant : Record → Item
meant (Map r) = map r
meant (Unmap r) = unmap r.card r.direction r.device r.length
meant (Sync ForCpu c a) = sync_for_cpu c a
meant (Sync ForCard c a) = sync_for_card c a
meant (CpuWrite a b) = cpu_write a b.now
meant (CpuRead a n) = cpu_read a n
meant (CardWrite c a b) = card_write c a b.now
meant (CardRead c a n) = card_read c a n
