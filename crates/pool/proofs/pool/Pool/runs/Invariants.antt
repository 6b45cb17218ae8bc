use Rattle.std.proofs.Common.{◌≡◌, ℕ, ◌<◌, length, get_or}
use Rattle.pool.specs.Lending.{run_of}
use Rattle.pool.proofs.pool.Pool.runs.Given as goal

abbrev pub invariant-loop-place : goal.invariant-loop-place
invariant-loop-place l = (length l.runs ≡ 16) × ((k : ℕ) → k < l.place → get_or l.runs k (record { first = record { 0 = 0 }; count = 0 }) ≡ run_of l.self k)
