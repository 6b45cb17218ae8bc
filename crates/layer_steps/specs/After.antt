-- What an accepted call leaves of the pool.
use Rattle.mapper.specs.declared.laws.Meaning.{Ghosts as Meaning}
use Rattle.std.specs.Prelude.{◌≡◌, ℕ, cond, List, Some, None, Option}
use Rattle.units.specs.declared.mapping.Mapping.{Mapping}
use Rattle.units.specs.declared.mapping.Request.{Request}
use Rattle.units.specs.Buffers.{span, whole}
use Rattle.meaning.specs.Mappings.{first_frame, find}
use Rattle.meaning.specs.Effects.{on_found}
use Rattle.mapper.specs.Tasks.{Task, opens, closes, turns, translates}
use Rattle.layer.specs.Below.{task_below}
use Rattle.pool.specs.declared.pool.Pool.{Pool}
use Rattle.pool.specs.Lending.{lent, frames_of_pool}
use Rattle.layer_steps.specs.Tied.{setup_over, open_over}

abbrev pub lent_found : Pool → Request → Option ℕ → Pool
lent_found p r None = p
lent_found p r (Some k) = lent p k (Some r.buffer)

-- a buffer that is not whole is lent the frames that it takes, a mapping that is closed gives its frames back, and else nothing changes
abbrev pub pool_after : Pool → List Mapping → Task → Pool
pool_after p o (opens r) = cond (whole r.buffer.address r.buffer.length) p (lent_found p r (frames_of_pool p o (span r.buffer.address r.buffer.length)))
pool_after p o (closes c v) = on_found (find o c v) p (λ m. lent p (first_frame m) None)
pool_after p o (turns s c v) = p
pool_after p o (translates c q a) = p

-- what an accepted call leaves that the meaning does not show: below what its task there leaves, and the pool
abbrev pub LeftOver : {M : Type 0} → (I : Meaning M) → M → Pool → Task → M → Pool → Type 0
LeftOver I m q t m' q' = I.leaves m (task_below (setup_over I m q) (open_over I m q) t) m' × (q' ≡ pool_after q (open_over I m q) t)
