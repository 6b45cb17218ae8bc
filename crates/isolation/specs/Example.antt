-- A worked example: a mapper that shields, and two runs over it that differ in one write of card 0.
use Rattle.std.specs.Prelude.{◌≡◌, ℕ, ◌+◌, ◌%◌, cond, List, [], ◌∷◌, Ok, Err, nat_le}
use Rattle.units.specs.declared.fault.FaultKind.TheVariants.{NoFrames, NoRecord, Absent}
use Rattle.units.specs.declared.mapping.Mapping.{Mapping}
use Rattle.units.specs.declared.mapping.Placement.{Placement}
use Rattle.units.specs.declared.mapping.Request.{Request}
use Rattle.units.specs.Buffers.{span, whole}
use Rattle.meaning.specs.Memory.{Bytes, within}
use Rattle.meaning.specs.Worlds.{Setup, Kind, Choice, World, world}
use Rattle.meaning.specs.Calls.{Call, map, unmap, cpu_write, card_read, card_write, Answer, fails, done, at}
use Rattle.meaning.specs.Runs.{answers}
use Rattle.isolation.specs.Lists.{at_set_up, left_by, struck, struck_answers}
use Rattle.isolation.specs.Shielding.{Shielded}
use Rattle.isolation.specs.Promise.{Accepted, Isolated}

-- whole buffers land where they are, and others in frames 6 and 7, which are reserved
abbrev pub in_place : Request → Placement
in_place r = record { device = record { 0 = 4096 }; landing = r.buffer.address }

abbrev pub in_pool : Request → Placement
in_pool r = record { device = record { 0 = 4096 + r.buffer.address % 4096 }; landing = 24576 + r.buffer.address % 4096 }

-- one mapping at a time
abbrev pub choice : List Mapping → Request → Choice
choice [] r = cond (whole r.buffer.address r.buffer.length) (Ok (in_place r)) (cond (nat_le (span r.buffer.address r.buffer.length) 2) (Ok (in_pool r))
    (Err (record { kind = NoFrames; layer = 0; place = span r.buffer.address r.buffer.length })))
choice (m ∷ o) r = Err (record { kind = NoRecord; layer = 0; place = 1 })

abbrev pub one_mapping : Kind
one_mapping = record { reserved = λ S f. within 6 2 f; choice = λ S o r. choice o r; level = λ S o c p. 0 }

-- 2 cards and 8 frames
abbrev pub small : Setup
small = record { cards = 2; lasts = record { 0 = 1048575 } ∷ record { 0 = 1048575 } ∷ []; frames = 8; fixed = [] }

abbrev pub here : World
here = world one_mapping small 32768

abbrev pub zeros : Bytes
zeros p = 0

-- 2 bytes lent to card 0 both ways, at device address 4,352
abbrev pub lent : Request
lent = record { card = record { 0 = 0 }; direction = 0; buffer = record { address = 256; length = 2 } }

-- a run with no access of card 0, and the same with a write of the second byte
abbrev pub unwritten : List Call
unwritten = cpu_write 256 (65 ∷ 66 ∷ []) ∷ map lent ∷ card_read 1 4352 1 (0 ∷ []) ∷ unmap 0 0 4352 2 ∷ []

abbrev pub written : List Call
written = cpu_write 256 (65 ∷ 66 ∷ []) ∷ map lent ∷ card_write 0 4353 (90 ∷ []) ∷ card_read 1 4352 1 (0 ∷ []) ∷ unmap 0 0 4352 2 ∷ []

-- the answers to all but card 0's write
abbrev pub told : List Answer
told = done ∷ at 4352 ∷ fails (record { kind = Absent; layer = 0; place = 0 }) ∷ done ∷ []

-- the promise holds of these runs, and the byte that was lent and written does differ after them
pub record Example : Type 0 where
  pub shields : (n : ℕ) → Shielded one_mapping small n
  pub same : struck 0 written ≡ struck 0 unwritten
  pub isolated : Isolated here 0 zeros written unwritten
  pub told_first : struck_answers 0 written (answers here (at_set_up zeros) written) ≡ told
  pub told_second : struck_answers 0 unwritten (answers here (at_set_up zeros) unwritten) ≡ told
  pub excepted : Accepted here 0 zeros written 257
  pub written_byte : (left_by here zeros written).memory 257 ≡ 90
  pub unwritten_byte : (left_by here zeros unwritten).memory 257 ≡ 66
