use Rattle.std.proofs.Common.{◌≡◌, ◌*◌, ◌≤◌}
use Rattle.tree.specs.Counts.{lacking}
use Rattle.table_count.proofs.count.lacking.Given as goal

abbrev pub invariant-loop-n : goal.invariant-loop-n
invariant-loop-n l = (l.lacks ≡ lacking l.tables l.first l.n) × (l.lacks ≤ 3 * l.n)
