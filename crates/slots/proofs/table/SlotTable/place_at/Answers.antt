use Rattle.std.proofs.Common.{rules}
use borrow.Author.Tests.{tests}
use Rattle.std.proofs.lemmas.Iterator.{YieldsList-from_slice}
use Rattle.std.proofs.lemmas.Iterator.Search.{position_from_yields_List}
use Rattle.meaning.specs.Mappings.{starts}
use Rattle.slots.specs.Slots.{has}
use Rattle.slots.proofs.table.SlotTable.place_at.Goals as goal

pub returns : goal.returns
returns g c = position_from_yields_List (has (starts c.args.card.0 c.args.device.0)) _ _ c.position.result c.position.ensures.ran (YieldsList-from_slice c.args.self.now.slots cc) (λ x b q k. search (rules, tests))
