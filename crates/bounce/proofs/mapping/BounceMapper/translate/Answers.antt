use Rattle.std.proofs.Common.{refl, ap}
use Rattle.meaning.specs.Worlds.{Setup}
use Rattle.layer.specs.Lifting.{opened_above}
use Rattle.layer.specs.Lowering.{lowered}
use Rattle.layer.specs.Pools.{above, below_setup}
use Rattle.layer.proofs.Calls.{judged_above}
use Rattle.pool.specs.Lending.{loan_in}
use Rattle.layer_steps.specs.Tied.{setup_over, open_over}
use Rattle.layer_steps.proofs.Over.{over_here, set_here, opened_here}
use Rattle.bounce.proofs.Calls.{some_frames, no_frames, none_allowed, either_way, same_layer}
use Rattle.bounce.proofs.mapping.BounceMapper.translate.Goals as goal

pub returns-then-is_refused : goal.returns-then-is_refused
returns-then-is_refused g c =
    let b = c.args.self.now in
    let none = no_frames c.is_refused.result b.pool.count c.is_refused.ensures c.if-is_refused.true in
    record {
      fixed = refl;
      same = refl;
      judged = none_allowed b.pool.count (loan_in b.pool) (g.M.Meaning.opened b.lower) c.args.card.0 c.args.page.0
          (g.M.Meaning.kind.level (below_setup (setup_over g.M.Meaning b.lower b.pool)) (lowered (open_over g.M.Meaning b.lower b.pool)) c.args.card.0 c.args.page.0) c.args.access c.at.result none c.at.ensures;
      left = refl;
    }

pub returns : goal.returns
returns g c =
    let b = c.args.self.now in
    let some = some_frames c.is_refused.result b.pool.count c.is_refused.ensures c.if-is_refused.false in
    record {
      fixed = ap (λ (z : Setup). above z b.pool.first.0 b.pool.count) c.translate.ensures.fixed;
      same = ap (opened_above b.pool.count (loan_in b.pool)) c.translate.ensures.same;
      judged = judged_above g.M.Meaning (setup_over g.M.Meaning b.lower b.pool) (open_over g.M.Meaning b.lower b.pool) (over_here g.M.Meaning b.lower b.pool b.tied some) b.lower
          (set_here g.M.Meaning b.lower b.pool b.tied some) (opened_here g.M.Meaning b.lower b.pool b.tied some) c.args.card.0 c.args.page.0 c.args.access c.translate.result c.translate.ensures.judged;
      left = either_way c.translate.result c.translate.ensures.left (λ l. (l, refl)) (λ e. same_layer g.M.Meaning b _ e refl);
    }
