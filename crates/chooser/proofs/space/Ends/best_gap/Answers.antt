use Rattle.std.proofs.Common.{◌≡◌, rules}
use Rattle.std.proofs.lemmas.Iterator.{YieldsList-from_slice}
use Rattle.std.proofs.lemmas.Iterator.Consumers.{fold_from_yields_List}
use Rattle.chooser.specs.Preference.{prefers}
use Rattle.chooser.specs.Finding.{better, best_gap}
use Rattle.chooser.proofs.Folds.{behind, best_fold}
use Rattle.chooser.proofs.Answer.{best_below}
use Rattle.chooser.proofs.space.Ends.best_gap.Goals as goal

pub returns : goal.returns
returns g c =
    let v = g.N.Number.value in
    let used = c.args.self.now.used.now in
    let lo = v c.args.self.now.lo.now in
    let hi = v c.args.self.now.hi.now in
    let n = c.args.n in
    let folded = fold_from_yields_List _ (λ best r. better prefers n best (behind v lo hi used r)) _ _ c.fold.ensures.ran (YieldsList-from_slice used cc) (λ a x b q k. search rules) in
    let same = best_fold v prefers lo hi used n used c.better-lowest.result in
    let value : c.fold.result ≡ best_gap v prefers lo hi used n = cc in
    record { value = value; top = best_below v lo hi used n c.fold.result g.N.Number.top value c.gap_at.ensures.top }
