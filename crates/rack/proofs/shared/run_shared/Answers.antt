use Rattle.rack.proofs.shared.run_shared.Goals as goal

pub returns-clause-left : goal.returns-clause-left
returns-clause-left c = record { first = c.shared_rack-engine.result.mapper; new = c.shared_rack-engine.ensures.new; left = c.run_isolated.ensures.left }
