use Rattle.std.proofs.Common.{◌≡◌, ℕ, subst, arith}
use Rattle.close_pages.specs.Closing.{Closed}
use Rattle.close_pages.proofs.Spans.{closed_none, next_open, closed_more}
use Rattle.close_pages.proofs.closing.close_span.Goals as goal

pub loop-i-init : goal.loop-i-init
loop-i-init c = (closed_none _ _ _, λ t l k h. h)

pub close_page-requires : goal.close_page-requires
close_page-requires c = next_open _ _ _ _ _ _ _ c.requires.opened c.loop-i.invariant.0 c.loop-i-test.true

pub loop-i-preserved : goal.loop-i-preserved
loop-i-preserved c = (
  closed_more _ _ _ _ _ _ _ _ c.loop-i.invariant.0 c.close_page.ensures.closed,
  λ t l k h. c.loop-i.invariant.1 t l k (c.close_page.ensures.stay t l k h),
)

pub returns-clause-closed : goal.returns-clause-closed
returns-clause-closed c =
    let e : c.loop-i.i ≡ c.args.count = omega arith in
    subst (λ (n : ℕ). Closed c.args.tables.now c.args.words.now c.loop-i.tables c.loop-i.words c.args.first n) e c.loop-i.invariant.0
