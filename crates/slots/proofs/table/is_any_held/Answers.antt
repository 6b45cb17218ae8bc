use Rattle.std.proofs.Common.{rules, ◌∙◌, ◌&&◌}
use borrow.Author.Tests.{tests}
use Rattle.std.proofs.lemmas.Iterator.{YieldsList-from_slice}
use Rattle.std.proofs.lemmas.Iterator.Search.{any_from_yields_List}
use Rattle.meaning.specs.Mappings.{card_holds, covers}
use Rattle.slots.specs.Slots.{has}
use Rattle.slots.proofs.Looking.{held_any}
use Rattle.slots.proofs.table.is_any_held.Goals as goal

pub returns : goal.returns
returns c =
    let ss = c.args.slots.now in
    any_from_yields_List (has (λ m. card_holds m.holder && covers m c.args.address)) _ _ c.any.result c.any.ensures.ran (YieldsList-from_slice ss cc) (λ x b q k. search (rules, tests))
    ∙ held_any c.args.address ss
