-- What a call has a mapper do, for what the meaning does not show: words, cache, queue.
use Rattle.std.specs.Prelude.{◌≡◌, ℕ, ◌/◌, Some, None, Option}
use Rattle.units.specs.declared.direction.Access.{Access}
use Rattle.units.specs.declared.direction.Access.TheVariants.{Read, Write}
use Rattle.units.specs.declared.mapping.Request.{Request}
use Rattle.units.specs.declared.mapping.Sync.{Sync}
use Rattle.meaning.specs.Calls.{Call, map, unmap, sync, cpu_read, cpu_write, card_read, card_write, report, Answer}
use Rattle.meaning.specs.Told.{IfFails}

pub data Task : Type 0 where
  opens : Request → Task
  closes : (card device : ℕ) → Task
  turns : Sync → (card device : ℕ) → Task
  translates : (card page : ℕ) → Access → Task

-- the CPU's accesses and reports ask nothing of a mapper
abbrev pub task_of : Call → Option Task
task_of (map r) = Some (opens r)
task_of (unmap c d v n) = Some (closes c v)
task_of (sync s c v) = Some (turns s c v)
task_of (cpu_read a n t) = None
task_of (cpu_write a t) = None
task_of (card_read c v n t) = Some (translates c (v / 4096) Read)
task_of (card_write c v t) = Some (translates c (v / 4096) Write)
task_of (report c) = None

-- the mapper m becomes m' by a call with this task and answer: on an error, and where nothing is asked of it, it is as it was
abbrev pub Left : {M : Type 0} → (M → Task → M → Type 0) → M → M → Option Task → Answer → Type 0
Left leaves m m' None a = m' ≡ m
Left leaves m m' (Some t) a = IfFails a (m' ≡ m) (leaves m t m')
