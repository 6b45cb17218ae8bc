-- What a call on the engine answers and leaves.
use Rattle.mapper.specs.declared.laws.Meaning.{Ghosts as Meaning}
use Rattle.std.specs.Prelude.{◌≡◌, ℕ, List, [], ◌∷◌, None, slice_index_or}
use Rattle.units.specs.declared.mapping.Mapping.{Mapping}
use Rattle.units.specs.declared.report.Report.{Report}
use Rattle.meaning.specs.Memory.{bytes_of}
use Rattle.meaning.specs.Calls.{Call, Answer}
use Rattle.meaning.specs.Effects.{State, answer, after, buffer_after}
use Rattle.mapper.specs.Tasks.{task_of, Left}
use Rattle.mapper.specs.Called.{here}
use Rattle.engine.specs.declared.Engine.{Engine}

-- nothing counted, no latest block
abbrev pub blank : Report
blank = record { count = 0; latest = None }

-- a new engine's reports
abbrev pub no_reports : List Report
no_reports = blank ∷ blank ∷ blank ∷ blank ∷ []

unfoldable pub reports_of : List Report → ℕ → Report
reports_of l c = slice_index_or l c blank

abbrev pub state : List Mapping → List ℕ → List Report → State
state o x r = record { opens = o; memory = bytes_of x; reports = reports_of r }

-- from the engine e and memory x to e' and x' by the call c, answered by a
pub record Made {M : Type 0} (I : Meaning M)
    (e e' : Engine M) (x x' : List ℕ) (c : Call) (a : Answer) : Type 0 where
  pub fixed : I.setup e'.mapper ≡ I.setup e.mapper
  pub answers : a ≡ answer (here I e.mapper x) (state (I.opened e.mapper) x e.reports) c
  pub becomes : state (I.opened e'.mapper) x' e'.reports ≡ after (here I e.mapper x) (state (I.opened e.mapper) x e.reports) c
  pub left : Left I.leaves e.mapper e'.mapper (task_of c) a

-- a read, and the answer buffer t becomes t'
pub record MadeRead {M : Type 0} (I : Meaning M)
    (e e' : Engine M) (x : List ℕ) (t t' : List ℕ) (c : Call) (a : Answer) : Type 0 where
  pub made : Made I e e' x x c a
  pub buffer : bytes_of t' ≡ buffer_after a t
