-- The calls and answers that the code's values stand for, and a run of steps.
use Rattle.std.specs.Prelude.{◌≡◌, ℕ, List, [], ◌∷◌, length, Ok, Err, Result, vec_items}
use Rattle.units.specs.declared.fault.Fault.{Fault}
use Rattle.meaning.specs.Memory.{bytes_of}
use Rattle.meaning.specs.Worlds.{World}
use Rattle.meaning.specs.Calls.{Call, map, unmap, sync, cpu_read, cpu_write, card_read, card_write, report, Answer, fails, done, at, bytes, tells}
use Rattle.meaning.specs.Effects.{State, buffer_after}
use Rattle.meaning.specs.Runs.{answers, final}
use Rattle.mapper.specs.declared.laws.Meaning.{Ghosts as Meaning}
use Rattle.mapper.specs.Tasks.{task_of, Left}
use Rattle.engine.specs.declared.Engine.{Engine}
use Rattle.engine.specs.Made.{Made}
use Rattle.runs.specs.declared.command.Command.{Command}
use Rattle.runs.specs.declared.command.Command.TheVariants.{Map, Unmap, Sync, CpuRead, CpuWrite, CardRead, CardWrite, Report}
use Rattle.runs.specs.declared.command.Reply.{Reply}
use Rattle.runs.specs.declared.command.Reply.TheVariants.{Done, At, Bytes, Told}
use Rattle.runs.specs.declared.command.Step.{Step}

-- the call that a command makes, with answer buffer t
abbrev pub meant : Command → List ℕ → Call
meant (Map r) t = map r
meant (Unmap r) t = unmap r.card.0 r.direction r.device.0 r.length
meant (Sync s c v) t = sync s c.0 v.0
meant (CpuRead a n) t = cpu_read a n t
meant (CpuWrite a b) t = cpu_write a b.now
meant (CardRead c v n) t = card_read c.0 v.0 n t
meant (CardWrite c v b) t = card_write c.0 v.0 b.now
meant (Report c) t = report c.0

-- the answer that a reply gives, or a refusal, with answer buffer t afterwards
abbrev pub spoken : Result Reply Fault → List ℕ → Answer
spoken (Err f) t = fails f
spoken (Ok Done) t = done
spoken (Ok (At v)) t = at v.0
spoken (Ok Bytes) t = bytes (bytes_of t)
spoken (Ok (Told r)) t = tells r

-- a call made, with all that it leaves: mapper, reports, memory and answer buffer
pub record MadeOne {M : Type 0} (I : Meaning M) (e e' : Engine M) (x x' t t' : List ℕ) (c : Call) (a : Answer) : Type 0 where
  pub made : Made I e e' x x' c a
  pub buffer : bytes_of t' ≡ buffer_after a t

abbrev pub call_of : Step → Call
call_of s = meant s.command (vec_items s.out)

abbrev pub answer_of : Step → Answer
answer_of s = spoken s.reply (vec_items s.out)

unfoldable pub calls_of : List Step → List Call
calls_of [] = []
calls_of (s ∷ l) = call_of s ∷ calls_of l

unfoldable pub answers_of : List Step → List Answer
answers_of [] = []
answers_of (s ∷ l) = answer_of s ∷ answers_of l

unfoldable pub commands_of : List Step → List Command
commands_of [] = []
commands_of (s ∷ l) = s.command ∷ commands_of l

-- each step's answer buffer is what its answer leaves there, and as long as it was
unfoldable pub Buffered : List Step → List Step → Type 0
Buffered [] [] = Unit {0}
Buffered [] (t ∷ k) = ⊥
Buffered (s ∷ l) [] = ⊥
Buffered (s ∷ l) (t ∷ k) = (bytes_of (vec_items t.out) ≡ buffer_after (answer_of t) (vec_items s.out)) × (length (vec_items t.out) ≡ length (vec_items s.out)) × Buffered l k

-- the steps `before` were asked and the steps `past` are what they became, from state s to state t
pub record Ran (W : World) (s t : State) (before past : List Step) : Type 0 where
  pub asked : commands_of past ≡ commands_of before
  pub answered : answers_of past ≡ answers W s (calls_of before)
  pub left : t ≡ final W s (calls_of before)
  pub buffered : Buffered before past

-- the mapper m became m' step by step, and each step left of it what its call and answer leave
pub data LeftInTurn {M : Type 0} (I : Meaning M) : M → M → List Step → List Step → Type 0 where
  none : (m : M) → LeftInTurn I m m [] []
  next : {m m' m'' : M} {x y : Step} {before past : List Step} → Left I.leaves m m' (task_of (call_of x)) (answer_of y) → LeftInTurn I m' m'' before past
      → LeftInTurn I m m'' (x ∷ before) (y ∷ past)
