use Rattle.std.proofs.Common.{sym, refl, ap, ◌∙◌}
use Rattle.meaning.specs.Calls.{at}
use Rattle.meaning.specs.Told.{tells_at}
use Rattle.layer_steps.proofs.Placing.{short, would_whole, frames_found, frames_missed, refused_would, frame_low, would_errs, would_places, passed_aligned}
use Rattle.bounce.specs.contracts.laws.BounceMeaning.TheImpl.{ghosts}
use Rattle.bounce.proofs.Calls.{would_refused, exit}
use Rattle.bounce.proofs.mapping.BounceMapper.would.Goals as goal

pub returns-in_err-admit : goal.returns-in_err-admit
returns-in_err-admit g c = would_refused (ghosts g.row.M g.M.Mapper g.M.Mapper-dict g.M.Meaning g.M.Meaning-dict) c.args.self.now c.args.memory.now c.args.request c.from_residual.result c.in_err-admit.field-0.0
    (exit c.from_residual.result c.in_err-admit.field-0.0 c.from_residual.ensures.1) c.in_err-admit.ensures

pub returns-then-is_whole : goal.returns-then-is_whole
returns-then-is_whole g c =
    let b = c.args.self.now in
    let x = c.args.memory.now in
    let r = c.args.request in
    let e = c.in_ok-admit.ensures in
    ap tells_at c.passed_on.ensures ∙ would_whole g.M.Meaning b.lower b.pool b.tied x r e (sym c.if-is_whole.ensures) c.would.result c.would.ensures

pub returns-in_err-frame : goal.returns-in_err-frame
returns-in_err-frame g c =
    let b = c.args.self.now in
    let x = c.args.memory.now in
    let r = c.args.request in
    let e = c.in_ok-admit.ensures in
    let f = c.in_err-frame.field-0.0 in
    ap tells_at (exit c.from_residual-in_err-frame.result f c.from_residual-in_err-frame.ensures.1)
    ∙ refused_would g.M.Meaning b.lower b.pool b.tied x r e f (frames_missed g.M.Meaning b.lower b.pool b.tied x r e c.span.result c.span.ensures.value (sym c.if-is_whole.ensures) f c.in_err-frame.ensures)

pub frames_request-requires-clause-frame : goal.frames_request-requires-clause-frame
frames_request-requires-clause-frame g c =
    let b = c.args.self.now in
    let x = c.args.memory.now in
    let r = c.args.request in
    let e = c.in_ok-admit.ensures in
    let free = frames_found g.M.Meaning b.lower b.pool b.tied x r e c.span.result c.span.ensures.value c.in_ok-frame.frame.0 c.in_ok-frame.ensures in
    frame_low g.M.Meaning b.lower b.pool b.tied x r e (sym c.if-is_whole.ensures) c.in_ok-frame.frame.0 free

pub frames_request-requires-clause-short : goal.frames_request-requires-clause-short
frames_request-requires-clause-short g c = let b = c.args.self.now in short g.M.Meaning b.lower b.pool b.tied c.args.memory.now c.args.request c.in_ok-admit.ensures

pub returns-in_err-device : goal.returns-in_err-device
returns-in_err-device g c =
    let b = c.args.self.now in
    let x = c.args.memory.now in
    let r = c.args.request in
    let e = c.in_ok-admit.ensures in
    let free = frames_found g.M.Meaning b.lower b.pool b.tied x r e c.span.result c.span.ensures.value c.in_ok-frame.frame.0 c.in_ok-frame.ensures in
    let f = c.in_err-device.field-0.0 in
    ap tells_at (exit c.from_residual-in_err-device.result f c.from_residual-in_err-device.ensures.1)
    ∙ refused_would g.M.Meaning b.lower b.pool b.tied x r e f (would_errs g.M.Meaning b.lower b.pool b.tied x r e (sym c.if-is_whole.ensures) c.in_ok-frame.frame.0 free c.frames_request.result c.frames_request.ensures c.would-2.result f c.in_err-device.ensures c.would-2.ensures)

pub further-requires : goal.further-requires
further-requires g c =
    let b = c.args.self.now in
    let x = c.args.memory.now in
    let r = c.args.request in
    let e = c.in_ok-admit.ensures in
    let free = frames_found g.M.Meaning b.lower b.pool b.tied x r e c.span.result c.span.ensures.value c.in_ok-frame.frame.0 c.in_ok-frame.ensures in
    passed_aligned g.M.Meaning b.lower b.pool b.tied x r e (sym c.if-is_whole.ensures) c.in_ok-frame.frame.0 free c.frames_request.result c.frames_request.ensures x refl c.would-2.result c.in_ok-device.device c.in_ok-device.ensures c.would-2.ensures

pub returns : goal.returns
returns g c =
    let b = c.args.self.now in
    let x = c.args.memory.now in
    let r = c.args.request in
    let e = c.in_ok-admit.ensures in
    let free = frames_found g.M.Meaning b.lower b.pool b.tied x r e c.span.result c.span.ensures.value c.in_ok-frame.frame.0 c.in_ok-frame.ensures in
    ap at c.further.ensures
    ∙ would_places g.M.Meaning b.lower b.pool b.tied x r e (sym c.if-is_whole.ensures) c.in_ok-frame.frame.0 free c.frames_request.result c.frames_request.ensures c.would-2.result c.in_ok-device.device c.in_ok-device.ensures c.would-2.ensures
