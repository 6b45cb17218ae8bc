use Rattle.std.proofs.Common.{arith}
use Rattle.cache.specs.Held.{held}
use Rattle.cache.proofs.Places.{added_behind, added_moving}
use Rattle.cache.proofs.cache.Cache.add.Goals as goal

pub returns-then-self-lt8 : goal.returns-then-self-lt8
unfolding held
returns-then-self-lt8 c = let s = c.args.self.now in added_behind s.entries s.count c.args.entry (omega arith) (omega arith)

pub returns-else-self-lt8 : goal.returns-else-self-lt8
unfolding held
returns-else-self-lt8 c =
    let s = c.args.self.now in
    added_moving s.entries c.copy_within.new.self s.count c.args.entry (omega arith) (omega arith) c.copy_within.ensures.after
