-- The calls, and what may be answered.
use Rattle.std.specs.Prelude.{ℕ, List}
use Rattle.units.specs.declared.fault.Fault.{Fault}
use Rattle.units.specs.declared.mapping.Request.{Request}
use Rattle.units.specs.declared.mapping.Sync.{Sync}
use Rattle.units.specs.declared.report.Report.{Report}
use Rattle.meaning.specs.Memory.{Bytes}

-- a read has its answer buffer as it was before
pub data Call : Type 0 where
  map : Request → Call
  unmap : (card direction device len : ℕ) → Call
  sync : Sync → (card device : ℕ) → Call
  cpu_read : (address count : ℕ) (buffer : List ℕ) → Call
  cpu_write : (address : ℕ) (bytes : List ℕ) → Call
  card_read : (card device count : ℕ) (buffer : List ℕ) → Call
  card_write : (card device : ℕ) (bytes : List ℕ) → Call
  report : (card : ℕ) → Call

-- `bytes f` is the answer buffer after a read
pub data Answer : Type 0 where
  fails : Fault → Answer
  done : Answer
  at : (device : ℕ) → Answer
  bytes : Bytes → Answer
  tells : Report → Answer
