use Rattle.std.proofs.Common.{rules, ◌≡◌, length, arith}
use borrow.Author.Tests.{tests}
use Rattle.slots.proofs.Looking.{made_pages}
use Rattle.slots.proofs.table.SlotTable.used_pages.Goals as goal

pub returns : goal.returns
returns g c =
    let ss = c.args.self.now.slots in
    let long : length ss ≡ g.row.N = omega arith in
    made_pages _ _ c.args.card.0 ss c.from_fn.result (λ i y q l k. search (rules, tests)) g.row.N long c.from_fn.ensures.items
