use Rattle.std.proofs.Common.{ap}
use Rattle.meaning.specs.Told.{tells_at}
use Rattle.driver.proofs.Standing.{map_stands, map_refused, map_all}
use Rattle.driver.proofs.cpu.CpuBuffer.map.Goals as goal

pub returns-in-Ok-clause-stands : goal.returns-in-Ok-clause-stands
returns-in-Ok-clause-stands g c = map_stands g.M.Meaning c.args.self.transfer c.in-Ok.device.0 c.map.ensures c.opening.ensures (ap tells_at c.in-Ok.is)

pub returns-in-Err-clause-stands : goal.returns-in-Err-clause-stands
returns-in-Err-clause-stands g c = map_refused g.M.Meaning c.in-Err.fault c.map.ensures (ap tells_at c.in-Err.is)

pub returns-in-Ok-clause-others : goal.returns-in-Ok-clause-others
returns-in-Ok-clause-others g c = map_all g.M.Meaning c.map.ensures

pub returns-in-Err-clause-others : goal.returns-in-Err-clause-others
returns-in-Err-clause-others g c = map_all g.M.Meaning c.map.ensures
