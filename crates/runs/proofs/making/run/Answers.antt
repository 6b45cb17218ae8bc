use Rattle.std.proofs.Common.{arith, refl}
use Rattle.std.proofs.lemmas.Grind.{common_steps}
use Rattle.runs.specs.Commands.{none}
use Rattle.runs.proofs.Pushing.{ran_none, ran_step, left_step}
use Rattle.runs.proofs.making.run.Goals as goal

pub loop-step-init : goal.loop-step-init
loop-step-init g c = record { fixed = refl; rest = refl; ran = ran_none _ _; left = none _ }

pub loop-step-preserved : goal.loop-step-preserved
loop-step-preserved g c =
    let run = c.loop-step.invariant in
    record {
      fixed = cc;
      rest = grind (arith, common_steps);
      ran = ran_step c.args.engine.now c.args.memory.now _ _ _ c.take_step.new.step _ run.fixed c.loop-step.auto.memory (omega arith) (omega arith) run.rest run.ran c.take_step.ensures.made c.take_step.ensures.asked c.take_step.ensures.size;
      left = left_step _ _ _ c.take_step.new.step _ (omega arith) (omega arith) run.rest run.left c.take_step.ensures.made.made.left;
    }
