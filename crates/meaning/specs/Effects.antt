-- What each call answers, and what it leaves of open mappings, memory, reports and answer buffer.
use Rattle.std.specs.Prelude.{ℕ, ◌+◌, ◌-◌, ◌*◌, ◌/◌, ◌%◌, ◌^◌, min, Bool, cond, ◌&&◌, List, Some, None, Ok, Err, Option, Result, ◌==◌}
use Rattle.units.specs.declared.direction.Direction.{Direction}
use Rattle.units.specs.declared.direction.Direction.TheVariants.{Both}
use Rattle.units.specs.declared.fault.FaultKind.{FaultKind}
use Rattle.units.specs.declared.mapping.Holder.TheVariants.{ByCard}
use Rattle.units.specs.declared.mapping.Mapping.{Mapping}
use Rattle.units.specs.declared.mapping.Placement.{Placement}
use Rattle.units.specs.declared.mapping.Reach.{Reach}
use Rattle.units.specs.declared.mapping.Request.{Request}
use Rattle.units.specs.declared.mapping.Sync.{Sync}
use Rattle.units.specs.declared.mapping.Sync.TheVariants.{ForCpu, ForCard}
use Rattle.units.specs.declared.report.Report.{Report}
use Rattle.units.specs.Directions.{coded, rights_of}
use Rattle.units.specs.Faults.{is_block_kind}
use Rattle.units.specs.Holders.{holder_after}
use Rattle.meaning.specs.Memory.{Bytes, bytes_of, within, copy, paste, read_into}
use Rattle.meaning.specs.Mappings.{lands_on, insert, remove, turn, find}
use Rattle.meaning.specs.Worlds.{Choice, World}
use Rattle.meaning.specs.Calls.{Call, map, unmap, sync, cpu_read, cpu_write, card_read, card_write, report, Answer, fails, done, at, bytes, tells}
use Rattle.meaning.specs.Checks.{Verdict, fine, errs, verdict}

abbrev pub on_fine : {X : Type 0} → Verdict → X → X → X
on_fine fine x y = x
on_fine (errs f) x y = y

abbrev pub on_found : {X : Type 0} → Option Mapping → X → (Mapping → X) → X
on_found None x f = x
on_found (Some m) x f = f m

abbrev pub on_choice : {X : Type 0} → Choice → X → (Placement → X) → X
on_choice (Err f) x g = x
on_choice (Ok p) x g = g p

-- Open mappings -------------------------------------------------------------------------------------------

-- the direction of a number that the checks let pass
abbrev pub direction_of : Result Direction FaultKind → Direction
direction_of (Ok d) = d
direction_of (Err k) = Both

-- what map opens, holder card
abbrev pub new_mapping : Request → Placement → Mapping
new_mapping r p = record {
  card = r.card;
  direction = direction_of (coded r.direction);
  buffer = r.buffer;
  device = p.device;
  landing = p.landing;
  holder = ByCard;
}

-- what a call that is let pass leaves open
abbrev pub accepted : World → List Mapping → Call → List Mapping
accepted W o (map r) = on_choice (W.choice o r) o (λ p. insert (new_mapping r p) o)
accepted W o (unmap c d v n) = remove c v o
accepted W o (sync s c v) = turn (holder_after s) c v o
accepted W o (cpu_read a n t) = o
accepted W o (cpu_write a t) = o
accepted W o (card_read c v n t) = o
accepted W o (card_write c v t) = o
accepted W o (report c) = o

-- Memory --------------------------------------------------------------------------------------------------

-- map: each landing byte becomes its buffer byte, and other bytes of reserved landing frames 0
unfoldable pub copy_in : (ℕ → Bool) → Mapping → Bytes → Bytes
copy_in reserved m x q = cond (within m.landing m.buffer.length q) (x (m.buffer.address + (q - m.landing)))
    (cond (lands_on m (q / 4096) && reserved (q / 4096)) 0 (x q))

-- where a card may write: each buffer byte becomes its landing byte
abbrev pub copy_back : Mapping → Bytes → Bytes
copy_back m x = cond (rights_of m.direction).write (copy m.buffer.address m.landing m.buffer.length x) x

-- where a card may read: each landing byte becomes its buffer byte
abbrev pub copy_again : Mapping → Bytes → Bytes
copy_again m x = cond (rights_of m.direction).read (copy m.landing m.buffer.address m.buffer.length x) x

-- unmap copies back, whoever is the holder
abbrev pub copy_at_unmap : Mapping → Bytes → Bytes
copy_at_unmap m x = copy_back m x

abbrev pub copy_at_sync : Sync → Mapping → Bytes → Bytes
copy_at_sync ForCpu m x = copy_back m x
copy_at_sync ForCard m x = copy_again m x

-- the memory address that a card finds at device address v
abbrev pub reached_byte : Option Reach → ℕ → ℕ
reached_byte None v = 0
reached_byte (Some s) v = s.frame.0 * 4096 + v % 4096

abbrev pub moved : World → List Mapping → Bytes → Call → Bytes
moved W o x (map r) = on_choice (W.choice o r) x (λ p. copy_in W.reserved (new_mapping r p) x)
moved W o x (unmap c d v n) = on_found (find o c v) x (λ m. copy_at_unmap m x)
moved W o x (sync s c v) = on_found (find o c v) x (λ m. copy_at_sync s m x)
moved W o x (cpu_read a n t) = x
moved W o x (cpu_write a t) = paste a t x
moved W o x (card_read c v n t) = x
moved W o x (card_write c v t) = paste (reached_byte (W.reach o c (v / 4096)) v) t x
moved W o x (report c) = x

-- Reports -------------------------------------------------------------------------------------------------

-- a block adds one to its card's count, which stops at the top, and becomes the latest; nothing else does
abbrev pub noted : ℕ → ℕ → Verdict → (ℕ → Report) → ℕ → Report
noted c v fine r k = r k
noted c v (errs f) r k = cond (k == c && is_block_kind f.kind)
    (record { count = min ((r k).count + 1) (2 ^ 32 - 1); latest = Some (record { device = record { 0 = v }; kind = f.kind; level = f.place }) }) (r k)

abbrev pub noting : Verdict → (ℕ → Report) → Call → ℕ → Report
noting w r (map q) = r
noting w r (unmap c d v n) = r
noting w r (sync s c v) = r
noting w r (cpu_read a n t) = r
noting w r (cpu_write a t) = r
noting w r (card_read c v n t) = noted c v w r
noting w r (card_write c v t) = noted c v w r
noting w r (report c) = r

-- A call whole --------------------------------------------------------------------------------------------

pub record State : Type 0 where
  pub opens : List Mapping
  pub memory : Bytes
  pub reports : ℕ → Report

-- what a call that is let pass answers
abbrev pub said : World → State → Call → Answer
said W s (map r) = on_choice (W.choice s.opens r) done (λ p. at p.device.0)
said W s (unmap c d v n) = done
said W s (sync k c v) = done
said W s (cpu_read a n t) = bytes (read_into t n a s.memory)
said W s (cpu_write a t) = done
said W s (card_read c v n t) = bytes (read_into t n (reached_byte (W.reach s.opens c (v / 4096)) v) s.memory)
said W s (card_write c v t) = done
said W s (report c) = tells (s.reports c)

abbrev pub answered : Verdict → Answer → Answer
answered fine a = a
answered (errs f) a = fails f

abbrev pub answer : World → State → Call → Answer
answer W s c = answered (verdict W s.opens c) (said W s c)

-- open after a call
abbrev pub opens_after : World → List Mapping → Call → List Mapping
opens_after W o c = on_fine (verdict W o c) (accepted W o c) o

abbrev pub after : World → State → Call → State
after W s c = record {
  opens = opens_after W s.opens c;
  memory = on_fine (verdict W s.opens c) (moved W s.opens s.memory c) s.memory;
  reports = noting (verdict W s.opens c) s.reports c;
}

-- the answer buffer t after a call answered a: a read's bytes, and on an error as it was
abbrev pub buffer_after : Answer → List ℕ → Bytes
buffer_after (fails f) t = bytes_of t
buffer_after done t = bytes_of t
buffer_after (at v) t = bytes_of t
buffer_after (bytes f) t = f
buffer_after (tells r) t = bytes_of t
