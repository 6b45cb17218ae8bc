use Rattle.std.proofs.Common.{rules, ◌≡◌, length, not, leb, ap, ◌∙◌, arith}
use borrow.Author.Tests.{tests}
use Rattle.std.proofs.lemmas.Iterator.{YieldsList-from_slice}
use Rattle.std.proofs.lemmas.Iterator.Search.{any_from_yields_List}
use Rattle.slots.specs.Slots.{is_free, opened_of}
use Rattle.slots.proofs.Looking.{full_any}
use Rattle.slots.proofs.table.SlotTable.is_full.Goals as goal

pub returns : goal.returns
returns g c =
    let ss = c.args.self.now.slots in
    let long : length ss ≡ g.row.N = omega arith in
    ap not (any_from_yields_List is_free _ _ c.any.result c.any.ensures.ran (YieldsList-from_slice ss cc) (λ x b q k. search (rules, tests))) ∙ full_any ss ∙ ap (λ k. leb k (length (opened_of ss))) long
