use Rattle.pages.proofs.Calls.{asked}
use Rattle.tables.specs.contracts.laws.TablesMeaning.TheImpl.{ghosts as means}
use Rattle.tables.proofs.mapping.TablesMapper.would.Goals as goal

pub place-requires-clause-card : goal.place-requires-clause-card
place-requires-clause-card c = (asked means c.args.self.now c.args.memory.now c.args.request c.in_ok-admit.ensures).card

pub place-requires-clause-some : goal.place-requires-clause-some
place-requires-clause-some c = (asked means c.args.self.now c.args.memory.now c.args.request c.in_ok-admit.ensures).some

pub place-requires-clause-short : goal.place-requires-clause-short
place-requires-clause-short c = (asked means c.args.self.now c.args.memory.now c.args.request c.in_ok-admit.ensures).short
