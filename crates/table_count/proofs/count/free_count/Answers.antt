use Rattle.std.proofs.Common.{rules, ◌∙◌}
use borrow.Author.Tests.{tests}
use Rattle.std.proofs.lemmas.Iterator.{YieldsList-from_slice}
use Rattle.std.proofs.lemmas.Iterator.Consumers.{count_from_yields_List, YieldsList-from_filter}
use Rattle.tree.specs.Places.{is_free}
use Rattle.table_count.proofs.Counting.{count_filter}
use Rattle.table_count.proofs.count.free_count.Goals as goal

pub returns : goal.returns
returns c =
    let ts = c.args.tables.now in
    count_from_yields_List _ c.count.result c.count.ensures.ran (YieldsList-from_filter _ is_free (YieldsList-from_slice ts (cc)) c.filter.ensures.closure (λ x b q k. search (rules, tests)))
    ∙ count_filter ts
