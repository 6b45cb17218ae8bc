use Rattle.std.proofs.Common.{sym, ◌∙◌, arith}
use Rattle.page_list.proofs.Growing.{listed_start, listed_pushed}
use Rattle.page_list.proofs.list.reached_pages.Goals as goal

pub loop-page-init : goal.loop-page-init
loop-page-init c = record { inside = omega arith; listed = listed_start _ _ c.new-pages.ensures.items }

pub loop-page-preserved-in-Some : goal.loop-page-preserved-in-Some
loop-page-preserved-in-Some c = record {
  inside = omega arith;
  listed = listed_pushed _ _ c.in-Some.reach _ _ c.loop-page.invariant.listed (sym c.reach.ensures ∙ c.in-Some.is) c.in_ok-push-in-Some.ensures.items;
}
