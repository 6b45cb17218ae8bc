-- A list that leaves no page out.
use Rattle.std.proofs.Common.{◌≡◌, ℕ, ◌<◌, List, Some, Option, sym, ◌∙◌}
use Rattle.units.specs.declared.mapping.Reach.{Reach}
use Rattle.page_list.specs.declared.list.PageReach.{PageReach}
use Rattle.page_list.specs.Lists.{Listed, AllListed}

-- nothing is found from n on, and what is found can be told in other words
pub all_listed : (found other : ℕ → Option Reach) (n : ℕ) (xs : List PageReach) → Listed found n xs → ((p : ℕ) → found p ≡ other p)
    → ((p : ℕ) (r : Reach) → other p ≡ Some r → p < n) → AllListed other xs
all_listed found other n xs l same below = record {
  sound = λ k d i. sym (same _) ∙ l.sound k d i;
  complete = λ p r e. l.complete p r (below p r e) (same p ∙ e);
  rising = l.rising;
}
