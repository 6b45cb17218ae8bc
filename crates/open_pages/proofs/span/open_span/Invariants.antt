use Rattle.std.proofs.Common.{◌+◌}
use Rattle.units.specs.Directions.{rights_of}
use Rattle.entry.specs.Words.{word_of}
use Rattle.open_pages.proofs.Rows.{Opened}
use Rattle.open_pages.proofs.span.open_span.Given as goal

abbrev pub invariant-loop-j : goal.invariant-loop-j
invariant-loop-j l = Opened l.fn.tables l.tables l.fn.words l.words l.first l.count l.j (λ j. word_of (rights_of l.direction) (l.frame.0 + j))
