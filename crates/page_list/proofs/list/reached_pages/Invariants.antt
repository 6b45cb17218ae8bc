use Rattle.std.proofs.Common.{ℕ, ◌-◌, ◌≤◌}
use Rattle.walk.specs.Told.{with_frame}
use Rattle.walk.specs.Walks.{reach_in}
use Rattle.page_list.specs.Lists.{Listed}
use Rattle.page_list.proofs.list.reached_pages.Given as goal

abbrev pub invariant-loop-page : goal.invariant-loop-page
invariant-loop-page l = record {
  inside : l.page ≤ l.end;
  listed : Listed (λ (p : ℕ). with_frame (reach_in l.cards l.words l.card.0 p)) l.page l.pages.items;
}

abbrev pub decreases-loop-page : goal.decreases-loop-page
decreases-loop-page l = l.end - l.page
