use Rattle.layer.proofs.Choosing.{choice_words}
use Rattle.layer_steps.specs.Tied.{setup_over}
use Rattle.layer_steps.proofs.Starting.{fresh_open, fresh_tied}
use Rattle.bounce.proofs.bounce.Bounce.over.Goals as goal

pub invariant_of-result : goal.invariant_of-result
invariant_of-result g c = record { tied = fresh_tied g.M.Meaning c.args.lower c.args.first.0 c.args.count c.granted-granted.result c.new.result c.new.ensures c.granted-granted.ensures }

pub returns-clause-empty : goal.returns-clause-empty
returns-clause-empty g c = fresh_open g.M.Meaning c.args.lower c.args.first.0 c.args.count c.granted-granted.result c.new.result c.new.ensures c.granted-granted.ensures

pub returns-clause-choosing : goal.returns-clause-choosing
returns-clause-choosing g c = λ o q pool some. choice_words g.M.Meaning.kind.choice (setup_over g.M.Meaning c.args.lower c.new.result) o q pool some
