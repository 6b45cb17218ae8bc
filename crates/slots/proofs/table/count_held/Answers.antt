use Rattle.std.proofs.Common.{rules, not, ◌∙◌}
use borrow.Author.Tests.{tests}
use Rattle.std.proofs.lemmas.Iterator.{YieldsList-from_slice}
use Rattle.std.proofs.lemmas.Iterator.Consumers.{count_from_yields_List, YieldsList-from_filter}
use Rattle.slots.specs.Slots.{is_free}
use Rattle.slots.proofs.Looking.{count_filter}
use Rattle.slots.proofs.table.count_held.Goals as goal

pub returns : goal.returns
returns c =
    let ss = c.args.slots.now in
    count_from_yields_List _ c.count.result c.count.ensures.ran (YieldsList-from_filter _ (λ slot. not (is_free slot)) (YieldsList-from_slice ss (cc)) c.filter.ensures.closure (λ x b q k. search (rules, tests)))
    ∙ count_filter ss
