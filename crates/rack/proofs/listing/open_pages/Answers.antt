use Rattle.std.proofs.lemmas.Result.{IfOk-weaker}
use Rattle.slots.specs.Slots.{opened_of}
use Rattle.rack.proofs.Walks.{open_listed}
use Rattle.rack.proofs.listing.open_pages.Goals as goal

pub returns : goal.returns
returns c =
    let t = c.args.tables.now in
    let o = opened_of t.records.slots in
    IfOk-weaker c.reached_pages.result _ _
    (λ v l. open_listed t.geometry t.count t.tables o t.words.now t.possible t.fits c.args.card.0 c.last_page-last.result.0 v.items c.last_page-last.ensures l)
    c.reached_pages.ensures
