use Rattle.std.proofs.Common.{ap}
use Rattle.units.specs.declared.mapping.Holder.TheVariants.{ByCpu}
use Rattle.meaning.specs.Told.{tells_done}
use Rattle.driver.proofs.Standing.{unmap_none, unmap_refused, unmap_others}
use Rattle.driver.proofs.synced.SyncedBuffer.unmap.Goals as goal

pub returns-in-Ok-clause-stands : goal.returns-in-Ok-clause-stands
returns-in-Ok-clause-stands g c = unmap_none g.M.Meaning c.args.self.transfer c.args.self.device c.unmap.ensures c.closing.ensures (ap tells_done c.in-Ok.is)

pub returns-in-Err-clause-stands : goal.returns-in-Err-clause-stands
returns-in-Err-clause-stands g c = unmap_refused g.M.Meaning ByCpu c.args.self.transfer c.args.self.device c.in-Err.fault c.unmap.ensures c.closing.ensures (ap tells_done c.in-Err.is)

pub returns-in-Ok-clause-others : goal.returns-in-Ok-clause-others
returns-in-Ok-clause-others g c = unmap_others g.M.Meaning c.args.self.transfer c.args.self.device c.unmap.ensures c.closing.ensures

pub returns-in-Err-clause-others : goal.returns-in-Err-clause-others
returns-in-Err-clause-others g c = unmap_others g.M.Meaning c.args.self.transfer c.args.self.device c.unmap.ensures c.closing.ensures
