use Rattle.std.proofs.Common.{◌≡◌, drop}
use Rattle.cache.specs.Held.{held}
use Rattle.cache.specs.Descriptors.{after_wait, after_run}
use Rattle.cache.proofs.queue.run_to_wait.Given as goal

abbrev pub invariant-loop-i : goal.invariant-loop-i
invariant-loop-i l = record {
  queue : after_wait (drop l.i l.descriptors) ≡ after_wait l.descriptors;
  cache : after_run (drop l.i l.descriptors) (held l.cache) ≡ after_run l.descriptors (held l.fn.cache);
}
