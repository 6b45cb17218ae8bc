use Rattle.tree.specs.Places.{Stay}
use Rattle.close_pages.specs.Closing.{Closed}
use Rattle.close_pages.proofs.closing.close_span.Given as goal

abbrev pub invariant-loop-i : goal.invariant-loop-i
invariant-loop-i l = Closed l.fn.tables l.fn.words l.tables l.words l.first l.i × Stay l.tables l.fn.tables
