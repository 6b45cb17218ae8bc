use Rattle.std.proofs.Common.{rules}
use Rattle.std.proofs.lemmas.Iterator.{YieldsList-from_slice}
use Rattle.std.proofs.lemmas.Iterator.Search.{any_from_yields_List}
use Rattle.chooser.specs.Finding.{held}
use Rattle.chooser.proofs.Folds.{clear_any}
use Rattle.chooser.proofs.space.Ends.is_clear.Goals as goal

pub returns : goal.returns
returns g c =
    let v = g.N.Number.value in
    let used = c.args.self.now.used.now in
    let x = c.args.x in
    let found = any_from_yields_List (λ r. held v r x) _ _ _ c.any.ensures.ran (YieldsList-from_slice used cc) (λ y b q k. search rules) in
    let same = clear_any v used x in
    cc
