use Rattle.std.proofs.Common.{rules}
use Rattle.page_list.proofs.Skipping.{none_reached}
use Rattle.page_list.proofs.next.next_page.Goals as goal

pub returns-in-Err-clause-none : goal.returns-in-Err-clause-none
returns-in-Err-clause-none c cards here p low high =
    none_reached c.args.words.now c.args.card.0 c.args.page c.in-Err.fault c.in-Err.ensures (search rules) c.behind.result c.behind.ensures.alike cards p low high
