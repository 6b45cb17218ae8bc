-- What a record's value says, by its tag.
use Rattle.std.specs.Prelude.{ℕ, ◌+◌, Bool, cond, ◌&&◌, List, length, drop, Ok, Err, Result, ◌==◌, nat_le, slice_index}
use Rattle.units.specs.declared.fault.FaultKind.{FaultKind}
use Rattle.units.specs.declared.fault.FaultKind.TheVariants.{UnknownTag, WrongSize}
use Rattle.units.specs.declared.mapping.Sync.{Sync}
use Rattle.units.specs.declared.mapping.Sync.TheVariants.{ForCpu, ForCard}
use Rattle.units.specs.declared.number.Card.{Card}
use Rattle.units.specs.declared.number.DeviceAddress.{DeviceAddress}
use Rattle.script.specs.declared.record.Record.{Record}
use Rattle.script.specs.Items.{Item, meant, map, unmap, sync_for_cpu, sync_for_card, cpu_write, cpu_read, card_write, card_read}
use Rattle.script.specs.Numbers.{little}

-- an item, or why there is none
abbrev pub Reading : Type 0
Reading = Result Item FaultKind

-- what a record that was read stands for
abbrev pub told : Result Record FaultKind → Reading
told (Ok r) = Ok (meant r)
told (Err k) = Err k

-- an item whose value has n bytes
abbrev pub sized : ℕ → List ℕ → Item → Reading
sized n v item = cond (length v == n) (Ok item) (Err WrongSize)

-- a value has 1 to 64 bytes of data after n others
abbrev pub has_data : ℕ → List ℕ → Bool
has_data n v = nat_le (n + 1) (length v) && nat_le (length v) (n + 64)

-- an item whose value has data after n other bytes
abbrev pub trailed : ℕ → List ℕ → Item → Reading
trailed n v item = cond (has_data n v) (Ok item) (Err WrongSize)

-- the fields, by the place in the value where each begins
abbrev pub byte : List ℕ → ℕ → ℕ
byte v at = slice_index v at

abbrev pub word : List ℕ → ℕ → ℕ
word v at = little 4 (drop at v)

abbrev pub card : List ℕ → Card
card v = record { 0 = byte v 0 }

abbrev pub device : List ℕ → ℕ → DeviceAddress
device v at = record { 0 = little 8 (drop at v) }

-- the value of each kind of record
abbrev pub map_of : List ℕ → Reading
map_of v = sized 10 v (map (record { card = card v; direction = byte v 1; buffer = record { address = word v 2; length = word v 6 } }))

abbrev pub unmap_of : List ℕ → Reading
unmap_of v = sized 14 v (unmap (card v) (byte v 1) (device v 2) (word v 10))

-- the item that each of the two calls makes
abbrev pub synced : Sync → Card → DeviceAddress → Item
synced ForCpu c a = sync_for_cpu c a
synced ForCard c a = sync_for_card c a

abbrev pub sync_of : Sync → List ℕ → Reading
sync_of call v = sized 9 v (synced call (card v) (device v 1))

abbrev pub cpu_write_of : List ℕ → Reading
cpu_write_of v = trailed 4 v (cpu_write (word v 0) (drop 4 v))

abbrev pub cpu_read_of : List ℕ → Reading
cpu_read_of v = sized 5 v (cpu_read (word v 0) (byte v 4))

abbrev pub card_write_of : List ℕ → Reading
card_write_of v = trailed 9 v (card_write (card v) (device v 1) (drop 9 v))

abbrev pub card_read_of : List ℕ → Reading
card_read_of v = sized 10 v (card_read (card v) (device v 1) (byte v 9))

-- the item that a tag and a value make
abbrev pub item_of : ℕ → List ℕ → Reading
item_of tag v =
    cond (tag == 1) (map_of v)
    (cond (tag == 2) (unmap_of v)
    (cond (tag == 3) (sync_of ForCpu v)
    (cond (tag == 4) (sync_of ForCard v)
    (cond (tag == 5) (cpu_write_of v)
    (cond (tag == 6) (cpu_read_of v)
    (cond (tag == 7) (card_write_of v)
    (cond (tag == 8) (card_read_of v)
    (Err UnknownTag))))))))
