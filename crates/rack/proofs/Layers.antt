-- The pool of the shared rack may stand over its tables.
use Rattle.std.proofs.Common.{◌≡◌, ℕ, List, [], refl, ap, ◌∙◌}
use Rattle.units.specs.declared.mapping.Mapping.{Mapping}
use Rattle.units.specs.declared.number.Geometry.{Geometry}
use Rattle.meaning.specs.Checks.{none_of}
use Rattle.meaning.specs.Worlds.{Setup}
use Rattle.table_meaning.specs.Choosing.{setup_of, table_kind}
use Rattle.layer.specs.Pools.{above, granted_count}
use Rattle.pool.specs.declared.pool.Pool.{Pool}
use Rattle.pool.specs.Lending.{empty_pool}
use Rattle.rack.specs.Numbers.{numbers}
use Rattle.rack.specs.Shared.{shared_setup}

two_frames : granted_count (setup_of numbers 10) (table_kind.reserved (setup_of numbers 10)) [] 6 2 ≡ 2
unfolding none_of
two_frames = refl

module _ (g : Geometry) (T : ℕ) (e : g ≡ numbers) (f : T ≡ 10) where
  tables_setup : setup_of g T ≡ setup_of numbers 10
  tables_setup = ap (λ (x : Geometry). setup_of x T) e ∙ ap (setup_of numbers) f

  pub pool_granted : (o : List Mapping) → o ≡ [] → granted_count (setup_of g T) (table_kind.reserved (setup_of g T)) o 6 2 ≡ 2
  pool_granted o k = ap (λ (S : Setup). granted_count S (table_kind.reserved S) o 6 2) tables_setup
      ∙ ap (λ (l : List Mapping). granted_count (setup_of numbers 10) (table_kind.reserved (setup_of numbers 10)) l 6 2) k ∙ two_frames

  pub layer_setup : (q : Pool) → q ≡ empty_pool 6 2 → above (setup_of g T) q.first.0 q.count ≡ shared_setup
  layer_setup q k = ap (λ (S : Setup). above S q.first.0 q.count) tables_setup ∙ ap (λ (p : Pool). above (setup_of numbers 10) p.first.0 p.count) k
