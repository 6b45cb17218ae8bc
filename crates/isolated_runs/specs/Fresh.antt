-- An engine as its set-up leaves it.
use Rattle.std.specs.Prelude.{◌≡◌, []}
use Rattle.mapper.specs.declared.laws.Meaning.{Ghosts as Meaning}
use Rattle.engine.specs.declared.Engine.{Engine}
use Rattle.engine.specs.Made.{no_reports}

-- nothing is open and nothing counted
pub record Fresh {M : Type 0} (I : Meaning M) (e : Engine M) : Type 0 where
  pub empty : I.opened e.mapper ≡ []
  pub uncounted : e.reports ≡ no_reports
