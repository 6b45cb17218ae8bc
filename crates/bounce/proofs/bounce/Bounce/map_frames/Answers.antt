use Rattle.std.proofs.Common.{ap, ◌∙◌, arith}
use Rattle.meaning.specs.Calls.{at}
use Rattle.mapper.proofs.Calling.{passed}
use Rattle.layer.specs.Pools.{above}
use Rattle.layer_steps.proofs.Placing.{short, inside, frame_low, frames_inside, refused_here, would_errs, passed_aligned, passed_step}
use Rattle.bounce.proofs.Calls.{choice_refused, exit}
use Rattle.bounce.proofs.bounce.Bounce.map_frames.Goals as goal

pub frames_request-below-requires-clause-frame : goal.frames_request-below-requires-clause-frame
frames_request-below-requires-clause-frame g c =
    let b = c.args.self.now in
    let x = c.args.memory.now in
    let r = c.args.request in
    let e = c.requires.admitted in
    frame_low g.M.Meaning b.lower b.pool b.tied x r e c.requires.part c.args.frame.0 c.requires.frames

pub frames_request-below-requires-clause-short : goal.frames_request-below-requires-clause-short
frames_request-below-requires-clause-short g c =
    let b = c.args.self.now in
    let x = c.args.memory.now in
    let r = c.args.request in
    let e = c.requires.admitted in
    short g.M.Meaning b.lower b.pool b.tied x r e

pub returns-in_err-passed_on : goal.returns-in_err-passed_on
returns-in_err-passed_on g c =
    let b = c.args.self.now in
    let x = c.args.memory.now in
    let r = c.args.request in
    let e = c.requires.admitted in
    let f = c.in_err-passed_on.field-0.0 in
    choice_refused _ b x r c.from_residual.result f (exit c.from_residual.result f c.from_residual.ensures.1)
    (refused_here g.M.Meaning b.lower b.pool b.tied x r e f (would_errs g.M.Meaning b.lower b.pool b.tied x r e c.requires.part c.args.frame.0 c.requires.frames c.frames_request-below.result c.frames_request-below.ensures c.would.result f c.in_err-passed_on.ensures c.would.ensures))

pub copy_in-requires-clause-buffer : goal.copy_in-requires-clause-buffer
copy_in-requires-clause-buffer g c =
    let b = c.args.self.now in
    let x = c.args.memory.now in
    let r = c.args.request in
    let e = c.requires.admitted in
    inside g.M.Meaning b.lower b.pool b.tied x r e

pub copy_in-requires-clause-frames : goal.copy_in-requires-clause-frames
copy_in-requires-clause-frames g c =
    let b = c.args.self.now in
    let x = c.args.memory.now in
    let r = c.args.request in
    let e = c.requires.admitted in
    frames_inside g.M.Meaning b.lower b.pool b.tied x r e c.requires.part c.args.frame.0 c.requires.frames

pub invariant_of-self-2 : goal.invariant_of-self-2
invariant_of-self-2 g c =
    let b = c.args.self.now in
    let x = c.args.memory.now in
    let r = c.args.request in
    let e = c.requires.admitted in
    let s = passed_step g.M.Meaning b.lower b.pool b.tied x r e c.requires.part c.args.frame.0 c.requires.frames c.frames_request-below.result c.frames_request-below.ensures c.copy_in.new.memory (omega arith) c.map.new.self c.lend.new.self c.map.new.memory c.map.result
    c.in_ok-device.device c.in_ok-device.ensures c.lend.ensures.value c.lend.ensures.loans c.copy_in.ensures c.map.ensures in
    record { tied = s.tied }

pub further-requires : goal.further-requires
further-requires g c =
    let b = c.args.self.now in
    let x = c.args.memory.now in
    let r = c.args.request in
    let e = c.requires.admitted in
    passed_aligned g.M.Meaning b.lower b.pool b.tied x r e c.requires.part c.args.frame.0 c.requires.frames c.frames_request-below.result c.frames_request-below.ensures c.copy_in.new.memory (omega arith) c.map.result c.in_ok-device.device c.in_ok-device.ensures c.map.ensures.answers

pub returns : goal.returns
returns g c =
    let b = c.args.self.now in
    let x = c.args.memory.now in
    let r = c.args.request in
    let e = c.requires.admitted in
    let s = passed_step g.M.Meaning b.lower b.pool b.tied x r e c.requires.part c.args.frame.0 c.requires.frames c.frames_request-below.result c.frames_request-below.ensures c.copy_in.new.memory (omega arith) c.map.new.self c.lend.new.self c.map.new.memory c.map.result
    c.in_ok-device.device c.in_ok-device.ensures c.lend.ensures.value c.lend.ensures.loans c.copy_in.ensures c.map.ensures in
    passed _ b _ x c.map.new.memory _ (at c.further.result.0) (λ i. above (s.set i) (s.first i) (s.count i)) s.passes (ap at c.further.ensures ∙ s.says) s.opens s.moves s.left
