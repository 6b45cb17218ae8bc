use Rattle.std.proofs.Common.{refl, ap}
use Rattle.units.specs.declared.mapping.Holder.TheVariants.{ByCpu}
use Rattle.units.specs.declared.mapping.Sync.TheVariants.{ForCard}
use Rattle.meaning.specs.Told.{tells_done}
use Rattle.driver.proofs.Standing.{sync_stands, sync_refused, sync_others}
use Rattle.driver.proofs.synced.SyncedBuffer.sync_for_card.Goals as goal

pub returns-in-Ok-clause-stands : goal.returns-in-Ok-clause-stands
returns-in-Ok-clause-stands g c = sync_stands g.M.Meaning ForCard ByCpu c.args.self.transfer c.args.self.device.0 c.sync.ensures (ap tells_done c.in-Ok.is)

pub returns-in-Err-clause-stands : goal.returns-in-Err-clause-stands
returns-in-Err-clause-stands g c = sync_refused g.M.Meaning ForCard ByCpu c.args.self.transfer c.args.self.device.0 c.in-Err.fault refl c.sync.ensures (ap tells_done c.in-Err.is)

pub returns-in-Ok-clause-others : goal.returns-in-Ok-clause-others
returns-in-Ok-clause-others g c = sync_others g.M.Meaning ForCard c.args.self.transfer.card.0 c.args.self.device.0 c.sync.ensures

pub returns-in-Err-clause-others : goal.returns-in-Err-clause-others
returns-in-Err-clause-others g c = sync_others g.M.Meaning ForCard c.args.self.transfer.card.0 c.args.self.device.0 c.sync.ensures
