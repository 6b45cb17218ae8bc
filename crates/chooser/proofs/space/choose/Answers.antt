use Rattle.std.proofs.Common.{◌≡◌, None, rules}
use Rattle.std.proofs.lemmas.Result.{MatchResult-from_err}
use Rattle.chooser.specs.Preference.{prefers}
use Rattle.chooser.specs.Finding.{best_gap}
use Rattle.chooser.proofs.Order.{prefers_order}
use Rattle.chooser.proofs.Right.{none_right}
use Rattle.chooser.proofs.space.choose.Goals as goal

pub returns-in_err-gap-clause-meaning : goal.returns-in_err-gap-clause-meaning
returns-in_err-gap-clause-meaning g c =
    let v = g.N.Number.value in
    let none : best_gap v prefers (v c.args.lo.now) (v c.args.hi.now) c.args.used.now c.args.n ≡ None = search rules in
    λ _. MatchResult-from_err c.from_residual.result _ _ c.from_residual.ensures.0 (λ _. none_right v _ _ _ prefers prefers_order _ none)
