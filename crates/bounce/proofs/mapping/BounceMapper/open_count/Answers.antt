use Rattle.std.proofs.Common.{◌∙◌}
use Rattle.layer_steps.proofs.Over.{count_here}
use Rattle.bounce.proofs.Calls.{some_frames}
use Rattle.bounce.proofs.mapping.BounceMapper.open_count.Goals as goal

pub returns-else-is_refused : goal.returns-else-is_refused
returns-else-is_refused g c =
    let b = c.args.self.now in
    let some = some_frames c.is_refused.result b.pool.count c.is_refused.ensures c.if-is_refused.false in
    c.open_count.ensures ∙ count_here g.M.Meaning b.lower b.pool b.tied some
