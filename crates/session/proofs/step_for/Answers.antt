use Rattle.std.proofs.Common.{ap, ◌∙◌, replicate}
use Rattle.runs.specs.Commands.{meant}
use Rattle.session.proofs.step_for.Goals as goal

pub returns : goal.returns
returns c = ap (meant c.into.result) (c.in_ok-out.ensures.items_if_clones_equal (λ y e. e)) ∙ c.into.ensures (replicate 64 0)
