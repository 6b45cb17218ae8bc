use Rattle.std.proofs.Common.{rules, refl}
use borrow.Author.Tests.{tests}
use Rattle.mapper.proofs.Lowest.{lowest_from_find}
use Rattle.mapper.proofs.Mapper.lowest_reserved.Goals as goal

pub returns : goal.returns
returns g c = lowest_from_find _ _ _ _ c.find.ensures.ran refl (λ x b q k. search (rules, tests))
