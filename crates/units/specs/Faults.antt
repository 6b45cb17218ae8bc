-- The refusals: their numbers, which of them are blocks, and how a layer passes one on.
use Rattle.std.specs.Prelude.{ℕ, ◌+◌, ◌-◌, ◌^◌, min, Bool, true, false, ◌&&◌, Ok, Err, Result, nat_le}
use Rattle.units.specs.declared.fault.Fault.{Fault}
use Rattle.units.specs.declared.fault.FaultKind.{FaultKind}
use Rattle.units.specs.declared.fault.FaultKind.TheVariants.{NoCard, NoDirection, WrongLength, OutsideMemory, ReservedFrame, NotOpen, OtherMapping, WrongHolder, NoFrames, NoPages, NoRecord, NoTables, CrossesPage, Absent, Lacking, WrongSetup, WrongPool, CutShort, UnknownTag, WrongSize}

abbrev pub number_of : FaultKind → ℕ
number_of NoCard = 1
number_of NoDirection = 2
number_of WrongLength = 3
number_of OutsideMemory = 4
number_of ReservedFrame = 5
number_of NotOpen = 6
number_of OtherMapping = 7
number_of WrongHolder = 8
number_of NoFrames = 9
number_of NoPages = 10
number_of NoRecord = 11
number_of NoTables = 12
number_of CrossesPage = 13
number_of Absent = 14
number_of Lacking = 15
number_of WrongSetup = 16
number_of WrongPool = 17
number_of CutShort = 18
number_of UnknownTag = 19
number_of WrongSize = 20

-- a card's access was blocked
abbrev pub is_block_kind : FaultKind → Bool
is_block_kind NoCard = false
is_block_kind NoDirection = false
is_block_kind WrongLength = false
is_block_kind OutsideMemory = false
is_block_kind ReservedFrame = false
is_block_kind NotOpen = false
is_block_kind OtherMapping = false
is_block_kind WrongHolder = false
is_block_kind NoFrames = false
is_block_kind NoPages = false
is_block_kind NoRecord = false
is_block_kind NoTables = false
is_block_kind CrossesPage = false
is_block_kind Absent = true
is_block_kind Lacking = true
is_block_kind WrongSetup = false
is_block_kind WrongPool = false
is_block_kind CutShort = false
is_block_kind UnknownTag = false
is_block_kind WrongSize = false

-- a choice refuses for want of frames, pages, records or tables, and for nothing else
abbrev pub is_choice_kind : FaultKind → Bool
is_choice_kind k = nat_le 9 (number_of k) && nat_le (number_of k) 12

-- the same fault, one layer further up; the layer number stops at its top
abbrev pub raised : Fault → Fault
raised f = record { kind = f.kind; layer = min (f.layer + 1) (2 ^ 32 - 1); place = f.place }

-- what a layer answers, of what the layer below answered
abbrev pub raises : {A : Type 0} → Result A Fault → Result A Fault
raises (Ok x) = Ok x
raises (Err f) = Err (raised f)
