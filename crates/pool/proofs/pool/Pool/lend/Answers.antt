use Rattle.std.proofs.Common.{Some, sym, ◌∙◌, arith}
use Rattle.pool.proofs.Lent.{changed_loans}
use Rattle.pool.proofs.pool.Pool.lend.Goals as goal

pub returns-then-has_record-clause-loans : goal.returns-then-has_record-clause-loans
returns-then-has_record-clause-loans c = λ t f. changed_loans c.args.self.now (omega arith) c.args.frame.0 (Some c.args.buffer) t f

pub returns-else-has_record-clause-loans : goal.returns-else-has_record-clause-loans
returns-else-has_record-clause-loans c = λ t f. let n = sym c.has_record.ensures ∙ c.if-has_record.false in absurd (cc)
