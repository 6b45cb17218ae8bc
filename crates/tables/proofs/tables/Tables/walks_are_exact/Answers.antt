use Rattle.slots.specs.Slots.{opened_of}
use Rattle.table_meaning.specs.Choosing.{setup_of}
use Rattle.table_meaning.proofs.Exact.{tables_reach, walk_judged}
use Rattle.table_meaning.proofs.Room.{room_is, lacking_is}
use Rattle.tables.proofs.tables.Tables.walks_are_exact.Goals as goal

pub returns-clause-reach : goal.returns-clause-reach
returns-clause-reach c = let s = c.args.self.now in tables_reach (setup_of s.geometry s.count) s.count s.tables (opened_of s.records.slots) s.words.now s.possible.0 s.fits

pub returns-clause-judged : goal.returns-clause-judged
returns-clause-judged c = let s = c.args.self.now in walk_judged (setup_of s.geometry s.count) s.count s.tables (opened_of s.records.slots) s.words.now s.possible.0 s.fits

pub returns-clause-room : goal.returns-clause-room
returns-clause-room c = let s = c.args.self.now in λ r p. room_is (setup_of s.geometry s.count) s.tables (opened_of s.records.slots) s.words.now s.fits r p

pub returns-clause-lacks : goal.returns-clause-lacks
returns-clause-lacks c = let s = c.args.self.now in λ r p. lacking_is (setup_of s.geometry s.count) s.tables (opened_of s.records.slots) s.words.now s.fits r p
