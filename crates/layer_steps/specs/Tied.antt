-- What ties a layer's pool to the mapper below.
use Rattle.mapper.specs.declared.laws.Meaning.{Ghosts as Meaning}
use Rattle.std.specs.Prelude.{◌≡◌, ℕ, ◌<◌, List}
use Rattle.units.specs.declared.mapping.Mapping.{Mapping}
use Rattle.meaning.specs.Worlds.{Setup}
use Rattle.layer.specs.Lowering.{lowered}
use Rattle.layer.specs.Lifting.{loan_of, opened_above}
use Rattle.layer.specs.Pools.{above}
use Rattle.layer.specs.Possible.{Standing}
use Rattle.pool.specs.declared.pool.Pool.{Pool}
use Rattle.pool.specs.Lending.{loan_in}

module _ {M : Type 0} (I : Meaning M) (m : M) (q : Pool) where
  abbrev pub setup_over : Setup
  setup_over = above (I.setup m) q.first.0 q.count

  abbrev pub open_over : List Mapping
  open_over = opened_above q.count (loan_in q) (I.opened m)

  -- where there is a pool, it stands, what is open above goes down to what is open below, and the loans are those of what is open above
  pub record Tied : Type 0 where
    pub stands : 0 < q.count → Standing (I.setup m).frames (I.kind.reserved (I.setup m)) q.first.0 q.count open_over
    pub same : 0 < q.count → lowered open_over ≡ I.opened m
    pub lends : 0 < q.count → (f : ℕ) → loan_in q f ≡ loan_of open_over f
