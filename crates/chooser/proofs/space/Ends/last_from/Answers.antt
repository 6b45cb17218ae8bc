use Rattle.std.proofs.Common.{rules}
use Rattle.std.proofs.lemmas.Iterator.{YieldsList-from_slice}
use Rattle.std.proofs.lemmas.Iterator.Consumers.{fold_from_yields_List}
use Rattle.chooser.specs.Finding.{cut_by}
use Rattle.chooser.proofs.Folds.{last_fold}
use Rattle.chooser.proofs.space.Ends.last_from.Goals as goal

pub returns : goal.returns
returns g c =
    let v = g.N.Number.value in
    let used = c.args.self.now.used.now in
    let start = c.args.start in
    let folded = fold_from_yields_List _ (λ last r. cut_by v r start last) _ _ c.fold.ensures.ran (YieldsList-from_slice used cc) (λ a x b q k. search rules) in
    let same = last_fold v used start c.to_u64.result in
    cc
