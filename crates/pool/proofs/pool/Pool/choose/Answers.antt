use Rattle.std.proofs.Common.{arith}
use Rattle.pool.proofs.Runs.{chosen}
use Rattle.pool.proofs.pool.Pool.choose.Goals as goal

pub returns : goal.returns
returns c = λ frames reserved o h pos. chosen c.args.self.now frames reserved o h c.saturating_sub.result c.args.n c.runs-runs.result c.choose.result c.runs-runs.ensures (omega (arith, c.saturating_sub.ensures, c.saturating_add.ensures)) pos c.choose.ensures.value
