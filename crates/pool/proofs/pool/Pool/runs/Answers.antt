use Rattle.std.proofs.Common.{arith}
use Rattle.std.proofs.lemmas.List.FromFn.{fill_by_all}
use Rattle.pool.specs.Lending.{run_of}
use Rattle.pool.proofs.pool.Pool.runs.Goals as goal

pub returns : goal.returns
returns c = fill_by_all (run_of c.args.self.now) c.loop-place.runs 16 (record { first = record { 0 = 0 }; count = 0 }) c.loop-place.invariant.0 (λ k h. c.loop-place.invariant.1 k (omega arith))
