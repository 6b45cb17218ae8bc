use Rattle.std.proofs.Common.{Bool, not, ◌||◌, sym, ap, ◌∙◌}
use Rattle.pool.specs.Lending.{loan_in}
use Rattle.layer_steps.specs.Holding.{held_in_pool}
use Rattle.layer_steps.proofs.Holding.{held_none, held_over}
use Rattle.bounce.proofs.Calls.{some_frames, no_frames}
use Rattle.bounce.proofs.mapping.BounceMapper.is_held.Goals as goal

pub returns-then-is_held_below : goal.returns-then-is_held_below
returns-then-is_held_below g c =
    let b = c.args.self.now in
    let some = some_frames c.is_refused.result b.pool.count c.is_refused.ensures c.if-not-is_refused.true in
    c.if-is_held_below.true ∙ sym (ap (λ (z : Bool). z || held_in_pool b.pool (g.M.Meaning.opened b.lower) c.args.address) (sym c.is_held_below.ensures ∙ c.if-is_held_below.true))
    ∙ held_over g.M.Meaning b.lower b.pool b.tied some c.args.address

pub returns-else-is_held_below : goal.returns-else-is_held_below
returns-else-is_held_below g c =
    let b = c.args.self.now in
    let some = some_frames c.is_refused.result b.pool.count c.is_refused.ensures c.if-not-is_refused.true in
    c.is_held_in_pool.ensures ∙ sym (ap (λ (z : Bool). z || held_in_pool b.pool (g.M.Meaning.opened b.lower) c.args.address) (sym c.is_held_below.ensures ∙ c.if-is_held_below.false))
    ∙ held_over g.M.Meaning b.lower b.pool b.tied some c.args.address

pub returns-else-not-is_refused : goal.returns-else-not-is_refused
returns-else-not-is_refused g c =
    let b = c.args.self.now in
    ap not c.if-not-is_refused.false ∙ sym (held_none b.pool.count (loan_in b.pool) (g.M.Meaning.opened b.lower) c.args.address (no_frames c.is_refused.result b.pool.count c.is_refused.ensures c.if-not-is_refused.false))
