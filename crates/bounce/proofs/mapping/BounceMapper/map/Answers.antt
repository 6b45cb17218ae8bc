use Rattle.std.proofs.Common.{Ok, Err, sym, refl, ap, ◌∙◌}
use Rattle.units.specs.Faults.{raised, raises}
use Rattle.meaning.specs.Calls.{map, at}
use Rattle.mapper.proofs.Calling.{passed}
use Rattle.layer.specs.Pools.{above}
use Rattle.layer_steps.proofs.Placing.{outcome, outcome_tied, accepts, refuses, frames_found, frames_missed, refused_here}
use Rattle.bounce.specs.contracts.laws.BounceMeaning.TheImpl.{ghosts}
use Rattle.bounce.proofs.Calls.{map_refused, choice_refused, refused_below, answers_at, exit, same_layer}
use Rattle.bounce.proofs.mapping.BounceMapper.map.Goals as goal

pub returns-in_err-admit : goal.returns-in_err-admit
returns-in_err-admit g c = map_refused (ghosts g.row.M g.M.Mapper g.M.Mapper-dict g.M.Meaning g.M.Meaning-dict) c.args.self.now c.args.memory.now c.args.request c.from_residual.result c.in_err-admit.field-0.0
    (exit c.from_residual.result c.in_err-admit.field-0.0 c.from_residual.ensures.1) c.in_err-admit.ensures

pub invariant_of-self : goal.invariant_of-self
invariant_of-self g c =
    let b = c.args.self.now in
    let x = c.args.memory.now in
    let r = c.args.request in
    let e = c.in_ok-admit.ensures in
    record { tied = outcome_tied g.M.Meaning b.lower b.pool b.tied x r e (sym c.if-is_whole.ensures) c.map.new.self c.map.new.memory c.map.result c.map.ensures }

pub returns-then-is_whole : goal.returns-then-is_whole
returns-then-is_whole g c =
    let b = c.args.self.now in
    let x = c.args.memory.now in
    let r = c.args.request in
    let e = c.in_ok-admit.ensures in
    let B = ghosts g.row.M g.M.Mapper g.M.Mapper-dict g.M.Meaning g.M.Meaning-dict in
    let y = c.map.new.memory in
    elim (outcome g.M.Meaning b.lower b.pool b.tied x r e (sym c.if-is_whole.ensures) c.map.new.self y c.map.result c.map.ensures) [
      | accepts v h s ↦ answers_at B b _ x y (map r) c.passed_on.result (raises (Ok v)) (c.passed_on.ensures ∙ ap raises h)
          (passed B b _ x y (map r) (at v.0) (λ i. above (s.set i) (s.first i) (s.count i)) s.passes s.says s.opens s.moves s.left)
      | refuses f h m v z ↦ answers_at B b _ x y (map r) c.passed_on.result (raises (Err f)) (c.passed_on.ensures ∙ ap raises h)
          (refused_below B b x _ y (map r) (raised f) (same_layer g.M.Meaning b _ m refl) z v)
    ]

pub returns-in_err-frame : goal.returns-in_err-frame
returns-in_err-frame g c =
    let b = c.args.self.now in
    let x = c.args.memory.now in
    let r = c.args.request in
    let e = c.in_ok-admit.ensures in
    let f = c.in_err-frame.field-0.0 in
    choice_refused (ghosts g.row.M g.M.Mapper g.M.Mapper-dict g.M.Meaning g.M.Meaning-dict) b x r c.from_residual-in_err-frame.result f (exit c.from_residual-in_err-frame.result f c.from_residual-in_err-frame.ensures.1)
    (refused_here g.M.Meaning b.lower b.pool b.tied x r e f (frames_missed g.M.Meaning b.lower b.pool b.tied x r e c.span.result c.span.ensures.value (sym c.if-is_whole.ensures) f c.in_err-frame.ensures))

pub map_frames-requires-clause-frames : goal.map_frames-requires-clause-frames
map_frames-requires-clause-frames g c =
    let b = c.args.self.now in
    let x = c.args.memory.now in
    let r = c.args.request in
    let e = c.in_ok-admit.ensures in
    frames_found g.M.Meaning b.lower b.pool b.tied x r e c.span.result c.span.ensures.value c.in_ok-frame.frame.0 c.in_ok-frame.ensures
