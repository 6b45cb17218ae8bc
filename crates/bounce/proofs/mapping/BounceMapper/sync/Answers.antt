use Rattle.std.proofs.Common.{Ok, ap, ◌∙◌, arith}
use Rattle.units.specs.Faults.{raises}
use Rattle.meaning.specs.Calls.{sync, done}
use Rattle.mapper.proofs.Calling.{passed}
use Rattle.layer.specs.Pools.{above}
use Rattle.layer_steps.proofs.Closing.{sync_buffer, sync_landing, sync_step}
use Rattle.bounce.specs.contracts.laws.BounceMeaning.TheImpl.{ghosts}
use Rattle.bounce.proofs.Calls.{sync_refused, exit, answers_done}
use Rattle.bounce.proofs.mapping.BounceMapper.sync.Goals as goal

pub returns-in_err-mapping : goal.returns-in_err-mapping
returns-in_err-mapping g c =
    sync_refused (ghosts g.row.M g.M.Mapper g.M.Mapper-dict g.M.Meaning g.M.Meaning-dict) c.args.self.now c.args.memory.now c.args.call c.args.card.0 c.args.device.0 c.from_residual.result c.in_err-mapping.field-0.0
    (exit c.from_residual.result c.in_err-mapping.field-0.0 c.from_residual.ensures.1) c.in_err-mapping.ensures

pub copy_at-requires-clause-buffer : goal.copy_at-requires-clause-buffer
copy_at-requires-clause-buffer g c =
    let b = c.args.self.now in
    sync_buffer g.M.Meaning b.lower b.pool b.tied c.args.memory.now c.args.call c.args.card.0 c.args.device.0 c.in_ok-mapping.mapping c.in_ok-mapping.ensures

pub copy_at-requires-clause-landing : goal.copy_at-requires-clause-landing
copy_at-requires-clause-landing g c =
    let b = c.args.self.now in
    sync_landing g.M.Meaning b.lower b.pool b.tied c.args.memory.now c.args.call c.args.card.0 c.args.device.0 c.in_ok-mapping.mapping c.in_ok-mapping.ensures

pub invariant_of-self : goal.invariant_of-self
invariant_of-self g c =
    let b = c.args.self.now in
    let t = sync_step g.M.Meaning b.lower b.pool b.tied c.args.memory.now c.args.call c.args.card.0 c.args.device.0 c.in_ok-mapping.mapping c.in_ok-mapping.ensures c.copy_at.new.memory (omega arith) c.sync.new.self c.sync.new.memory c.sync.result c.page_start.result.0 c.page_start.ensures c.copy_at.ensures c.sync.ensures in
    record { tied = t.1.tied }

pub returns : goal.returns
returns g c =
    let b = c.args.self.now in
    let t = sync_step g.M.Meaning b.lower b.pool b.tied c.args.memory.now c.args.call c.args.card.0 c.args.device.0 c.in_ok-mapping.mapping c.in_ok-mapping.ensures c.copy_at.new.memory (omega arith) c.sync.new.self c.sync.new.memory c.sync.result c.page_start.result.0 c.page_start.ensures c.copy_at.ensures c.sync.ensures in
    let s = t.1 in
    let B = ghosts g.row.M g.M.Mapper g.M.Mapper-dict g.M.Meaning g.M.Meaning-dict in
    answers_done B b _ c.args.memory.now c.sync.new.memory (sync c.args.call c.args.card.0 c.args.device.0) c.passed_on.result (Ok tt) (c.passed_on.ensures ∙ ap raises t.0)
    (passed B b _ c.args.memory.now c.sync.new.memory (sync c.args.call c.args.card.0 c.args.device.0) done (λ i. above (s.set i) (s.first i) (s.count i)) s.passes s.says s.opens s.moves s.left)
