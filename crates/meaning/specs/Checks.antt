-- What each call checks, in order: the first error, with its kind, layer and place. No byte of memory and no report counts.
use Rattle.std.specs.Prelude.{ℕ, zero, suc, ◌+◌, ◌*◌, ◌/◌, ◌%◌, ◌^◌, Bool, cond, ◌&&◌, List, length, is_some, Some, None, Ok, Err, Option, ◌==◌, nat_le, nat_lt}
use Rattle.units.specs.declared.direction.Access.{Access}
use Rattle.units.specs.declared.direction.Access.TheVariants.{Read, Write}
use Rattle.units.specs.declared.fault.Fault.{Fault}
use Rattle.units.specs.declared.fault.FaultKind.{FaultKind}
use Rattle.units.specs.declared.fault.FaultKind.TheVariants.{NoCard, NoDirection, WrongLength, OutsideMemory, ReservedFrame, NotOpen, OtherMapping, WrongHolder, CrossesPage, Absent, Lacking}
use Rattle.units.specs.declared.mapping.Mapping.{Mapping}
use Rattle.units.specs.declared.mapping.Reach.{Reach}
use Rattle.units.specs.declared.mapping.Request.{Request}
use Rattle.units.specs.declared.mapping.Sync.{Sync}
use Rattle.units.specs.Buffers.{span}
use Rattle.units.specs.Directions.{allows, code_of}
use Rattle.units.specs.Holders.{turned_by}
use Rattle.meaning.specs.Mappings.{find, held}
use Rattle.meaning.specs.Worlds.{Choice, World}
use Rattle.meaning.specs.Calls.{Call, map, unmap, sync, cpu_read, cpu_write, card_read, card_write, report}

pub data Verdict : Type 0 where
  fine : Verdict
  errs : Fault → Verdict

-- a refusal found here
abbrev pub fault : FaultKind → ℕ → Verdict
fault k p = errs (record { kind = k; layer = 0; place = p })

abbrev pub ◌then◌ : Verdict → Verdict → Verdict
fine then v = v
errs f then v = errs f

infixr 20 ◌then◌
abbrev pub unless : Bool → FaultKind → ℕ → Verdict
unless b k p = cond b fine (fault k p)

-- One check each ------------------------------------------------------------------------------------------

abbrev pub is_card : World → ℕ → Verdict
is_card W c = unless (nat_lt c W.cards) NoCard c

abbrev pub is_direction : ℕ → Verdict
is_direction d = unless (nat_le d 2) NoDirection d

-- a buffer of some bytes that spans at most 8 frames
abbrev pub is_buffer : ℕ → ℕ → Verdict
is_buffer a n = unless (nat_lt 0 n && nat_le (span a n) 8) WrongLength n

-- an access of 1 to 64 bytes, with room for them
abbrev pub is_access : ℕ → ℕ → Verdict
is_access n room = unless (nat_lt 0 n && (nat_le n 64 && nat_le n room)) WrongLength n

-- memory of F frames, which n bytes from a do not pass
abbrev pub in_memory : World → ℕ → ℕ → Verdict
in_memory W a n = unless (W.size == W.frames * 4096 && nat_le (a + n) (W.frames * 4096)) OutsideMemory (W.frames * 4096)

-- memory of F frames
abbrev pub is_memory : World → Verdict
is_memory W = unless (W.size == W.frames * 4096) OutsideMemory (W.frames * 4096)

-- none of n numbers from f is such, else the lowest
unfoldable pub none_of : FaultKind → (ℕ → Bool) → ℕ → ℕ → Verdict
none_of k such f zero = fine
none_of k such f (suc n) = cond (such f) (fault k f) (none_of k such (suc f) n)

-- none of n frames from f is reserved, else the lowest
abbrev pub none_reserved : (ℕ → Bool) → ℕ → ℕ → Verdict
none_reserved reserved f n = none_of ReservedFrame reserved f n

-- none of n bytes from b is in a buffer that a card holds, else the lowest
abbrev pub none_held : List Mapping → ℕ → ℕ → Verdict
none_held o b n = none_of WrongHolder (held o) b n

-- the mapping found at v is the one that unmap describes
abbrev pub as_opened : Option Mapping → ℕ → ℕ → ℕ → Verdict
as_opened None v d n = fault NotOpen v
as_opened (Some m) v d n = unless (m.buffer.length == n && code_of m.direction == d) OtherMapping m.buffer.length

-- the mapping found at v has a holder that the sync turns
abbrev pub turnable : Option Mapping → ℕ → Sync → Verdict
turnable None v s = fault NotOpen v
turnable (Some m) v s = unless (is_some (turned_by m.holder s)) WrongHolder v

abbrev pub chosen : Choice → Verdict
chosen (Ok p) = fine
chosen (Err f) = errs f

-- n bytes from device address v lie in one page, and the address has 48 bits
abbrev pub one_page : ℕ → ℕ → Verdict
one_page v n = unless (nat_le (v % 4096 + n) 4096 && nat_lt v (2 ^ 48)) CrossesPage v

-- what is reached gives the right; a block names the level
abbrev pub allowed : Option Reach → ℕ → Access → Verdict
allowed None l a = fault Absent l
allowed (Some s) l a = unless (allows a s.rights) Lacking l

-- In their order ------------------------------------------------------------------------------------------

-- what map and would check before the choice is asked
abbrev pub admitted : World → Request → Verdict → Verdict
admitted W r v = is_card W r.card.0 then is_direction r.direction then is_buffer r.buffer.address r.buffer.length
    then in_memory W r.buffer.address r.buffer.length
    then none_reserved W.reserved (r.buffer.address / 4096) (span r.buffer.address r.buffer.length) then v

-- what unmap checks
abbrev pub unmap_checks : World → List Mapping → ℕ → ℕ → ℕ → ℕ → Verdict
unmap_checks W o c d v n = is_card W c then is_direction d then is_memory W then as_opened (find o c v) v d n

-- what a sync checks
abbrev pub sync_checks : World → List Mapping → Sync → ℕ → ℕ → Verdict
sync_checks W o s c v = is_card W c then is_memory W then turnable (find o c v) v s

-- what an access of the CPU checks, with room for so many bytes
abbrev pub cpu_checks : World → List Mapping → ℕ → ℕ → ℕ → Verdict
cpu_checks W o a n room = is_access n room then in_memory W a n then none_reserved W.reserved (a / 4096) (span a n) then none_held o a n

-- what an access of a card checks before its reach is judged
abbrev pub card_checks : World → ℕ → ℕ → ℕ → ℕ → Verdict → Verdict
card_checks W c v n room w = is_card W c then is_access n room then is_memory W then one_page v n then w

-- what card c reaches at device page p, judged for an access
abbrev pub judged : World → List Mapping → ℕ → ℕ → Access → Verdict
judged W o c p a = allowed (W.reach o c p) (W.level o c p) a

-- the first error of a call
unfoldable pub verdict : World → List Mapping → Call → Verdict
verdict W o (map r) = admitted W r (chosen (W.choice o r))
verdict W o (unmap c d v n) = unmap_checks W o c d v n
verdict W o (sync s c v) = sync_checks W o s c v
verdict W o (cpu_read a n t) = cpu_checks W o a n (length t)
verdict W o (cpu_write a t) = cpu_checks W o a (length t) (length t)
verdict W o (card_read c v n t) = card_checks W c v n (length t) (judged W o c (v / 4096) Read)
verdict W o (card_write c v t) = card_checks W c v (length t) (length t) (judged W o c (v / 4096) Write)
verdict W o (report c) = is_card W c
