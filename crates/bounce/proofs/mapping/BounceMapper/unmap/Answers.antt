use Rattle.std.proofs.Common.{arith}
use Rattle.meaning.specs.Calls.{unmap, done}
use Rattle.mapper.proofs.Calling.{passed}
use Rattle.layer.specs.Pools.{above}
use Rattle.layer_steps.proofs.Closing.{unmap_short, unmap_buffer, unmap_landing, unmap_only, unmap_frees, unmap_step}
use Rattle.bounce.specs.contracts.laws.BounceMeaning.TheImpl.{ghosts}
use Rattle.bounce.proofs.Calls.{unmap_refused, exit}
use Rattle.bounce.proofs.mapping.BounceMapper.unmap.Goals as goal

pub returns-in_err-mapping : goal.returns-in_err-mapping
returns-in_err-mapping g c =
    let r = c.args.request in
    unmap_refused (ghosts g.row.M g.M.Mapper g.M.Mapper-dict g.M.Meaning g.M.Meaning-dict) c.args.self.now c.args.memory.now r.card.0 r.direction r.device.0 r.length c.from_residual.result c.in_err-mapping.field-0.0
    (exit c.from_residual.result c.in_err-mapping.field-0.0 c.from_residual.ensures.1) c.in_err-mapping.ensures

pub copy_back-requires-clause-buffer : goal.copy_back-requires-clause-buffer
copy_back-requires-clause-buffer g c =
    let b = c.args.self.now in
    let r = c.args.request in
    unmap_buffer g.M.Meaning b.lower b.pool b.tied c.args.memory.now r.card.0 r.direction r.device.0 r.length c.in_ok-mapping.mapping c.in_ok-mapping.ensures

pub copy_back-requires-clause-landing : goal.copy_back-requires-clause-landing
copy_back-requires-clause-landing g c =
    let b = c.args.self.now in
    let r = c.args.request in
    unmap_landing g.M.Meaning b.lower b.pool b.tied c.args.memory.now r.card.0 r.direction r.device.0 r.length c.in_ok-mapping.mapping c.in_ok-mapping.ensures

pub overflow_mul-below : goal.overflow_mul-below
overflow_mul-below g c =
    let b = c.args.self.now in
    let r = c.args.request in
    let few = unmap_short g.M.Meaning b.lower b.pool b.tied c.args.memory.now r.card.0 r.direction r.device.0 r.length c.in_ok-mapping.mapping c.in_ok-mapping.ensures in
    omega (arith, c.span.ensures.value)

pub returns-in_err-passed_on : goal.returns-in_err-passed_on
returns-in_err-passed_on g c =
    let b = c.args.self.now in
    let r = c.args.request in
    absurd (unmap_only g.M.Meaning b.lower b.pool b.tied c.args.memory.now r.card.0 r.direction r.device.0 r.length c.in_ok-mapping.mapping c.in_ok-mapping.ensures c.copy_back.new.memory (omega arith) c.unmap.new.self c.unmap.new.memory c.unmap.result c.page_start.result.0 c.span.result c.page_start.ensures c.span.ensures.value c.unmap.ensures c.in_err-passed_on.field-0.0 c.in_err-passed_on.ensures)

pub release-requires : goal.release-requires
release-requires g c =
    let b = c.args.self.now in
    let r = c.args.request in
    unmap_frees g.M.Meaning b.lower b.pool b.tied c.args.memory.now r.card.0 r.direction r.device.0 r.length c.in_ok-mapping.mapping c.in_ok-mapping.ensures c.copy_back.new.memory (omega arith) c.unmap.new.self c.unmap.new.memory c.unmap.result c.page_start.result.0 c.span.result c.page_start.ensures c.span.ensures.value c.unmap.ensures c.of.result.0 c.of.ensures.value

pub invariant_of-self-2 : goal.invariant_of-self-2
invariant_of-self-2 g c =
    let b = c.args.self.now in
    let r = c.args.request in
    let s = unmap_step g.M.Meaning b.lower b.pool b.tied c.args.memory.now r.card.0 r.direction r.device.0 r.length c.in_ok-mapping.mapping c.in_ok-mapping.ensures c.copy_back.new.memory (omega arith) c.unmap.new.self c.unmap.new.memory c.unmap.result c.page_start.result.0 c.span.result c.page_start.ensures c.span.ensures.value c.unmap.ensures
    c.copy_back.ensures c.in_ok-passed_on.ensures c.release.new.pool c.of.result.0 c.of.ensures.value c.release.ensures.value c.release.ensures.loans in
    record { tied = s.tied }

pub returns : goal.returns
returns g c =
    let b = c.args.self.now in
    let r = c.args.request in
    let s = unmap_step g.M.Meaning b.lower b.pool b.tied c.args.memory.now r.card.0 r.direction r.device.0 r.length c.in_ok-mapping.mapping c.in_ok-mapping.ensures c.copy_back.new.memory (omega arith) c.unmap.new.self c.unmap.new.memory c.unmap.result c.page_start.result.0 c.span.result c.page_start.ensures c.span.ensures.value c.unmap.ensures
    c.copy_back.ensures c.in_ok-passed_on.ensures c.release.new.pool c.of.result.0 c.of.ensures.value c.release.ensures.value c.release.ensures.loans in
    passed (ghosts g.row.M g.M.Mapper g.M.Mapper-dict g.M.Meaning g.M.Meaning-dict) b _ c.args.memory.now c.unmap.new.memory (unmap r.card.0 r.direction r.device.0 r.length) done (λ i. above (s.set i) (s.first i) (s.count i)) s.passes s.says s.opens s.moves s.left
