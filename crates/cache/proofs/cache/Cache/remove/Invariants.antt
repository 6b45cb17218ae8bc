use Rattle.std.proofs.Common.{◌≡◌}
use Rattle.cache.proofs.Removing.{Removes}
use Rattle.cache.proofs.cache.Cache.remove.Given as goal

abbrev pub invariant-loop-i : goal.invariant-loop-i
invariant-loop-i l = record {
  count : l.self.count ≡ l.fn.self.count;
  removes : Removes l.fn.card.0 l.fn.page.0 l.fn.self.entries l.self.entries l.kept l.i;
}
