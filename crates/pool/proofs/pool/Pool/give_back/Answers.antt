use Rattle.std.proofs.Common.{None, sym, ◌∙◌, arith}
use Rattle.pool.proofs.Lent.{changed_loans, none_lent}
use Rattle.pool.proofs.pool.Pool.give_back.Goals as goal

pub returns-then-has_record-clause-loans : goal.returns-then-has_record-clause-loans
returns-then-has_record-clause-loans c = λ f. changed_loans c.args.self.now (omega arith) c.args.frame.0 None (sym c.has_record.ensures ∙ c.if-has_record.true) f

pub returns-else-has_record-clause-loans : goal.returns-else-has_record-clause-loans
returns-else-has_record-clause-loans c = λ f. none_lent c.args.self.now c.args.frame.0 f (sym c.has_record.ensures ∙ c.if-has_record.false)
