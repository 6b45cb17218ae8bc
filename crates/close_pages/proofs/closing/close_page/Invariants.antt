use Rattle.std.proofs.Common.{ℕ, List, ◌≢◌}
use Rattle.tree.specs.Places.{Stay}
use Rattle.tree.specs.Layout.{put, without, Fits}
use Rattle.close_pages.specs.Closing.{Closing}
use Rattle.close_pages.proofs.closing.close_page.Given as goal

abbrev pub invariant-loop-level : goal.invariant-loop-level
invariant-loop-level l =
    ((C T : ℕ) (leaf : ℕ → ℕ) (qs : List ℕ) → Fits C T l.fn.tables leaf qs l.fn.words → leaf l.page ≢ 0 → Closing l.level l.page C T l.tables (put leaf l.page 0) (without l.page qs) l.words)
    × Stay l.tables l.fn.tables
