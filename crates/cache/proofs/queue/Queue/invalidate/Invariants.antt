use Rattle.std.proofs.Common.{◌≡◌}
use Rattle.cache.specs.Posted.{posted}
use Rattle.cache.specs.Descriptors.{posts}
use Rattle.cache.proofs.queue.Queue.invalidate.Given as goal

abbrev pub invariant-loop-i : goal.invariant-loop-i
invariant-loop-i l = posted l.self ≡ posts l.card l.first.0 l.i
