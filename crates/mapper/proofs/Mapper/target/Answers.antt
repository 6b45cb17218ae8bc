use Rattle.mapper.proofs.Calling.{target_found}
use Rattle.mapper.proofs.Mapper.target.Goals as goal

pub returns : goal.returns
returns g c = target_found g.Self.Meaning c.page.ensures c.in_ok-accessing.ensures c.offset.ensures c.in_ok-frame.ensures
