use Rattle.std.proofs.Common.{◌≡◌, ◌+◌, ℕ, List, Some, sym, ap, ◌∙◌, subst, add-one, arith}
use Rattle.walk.specs.Indices.{prefix}
use Rattle.tree.specs.Places.{table_for}
use Rattle.tree.specs.Layout.{put, without}
use Rattle.close_pages.specs.Closing.{Closing}
use Rattle.close_pages.proofs.Clearing.{closing_starts, open_stands, open_room}
use Rattle.close_pages.proofs.Giving.{closing_done}
use Rattle.close_pages.proofs.closing.close_page.Goals as goal

pub returns-in_default-clause-closed : goal.returns-in_default-clause-closed
returns-in_default-clause-closed c = absurd (open_stands _ _ _ c.requires (ap (table_for c.args.tables.now 1) (sym c.prefix.ensures) ∙ (sym c.table_for.ensures ∙ c.in_default.is)))

pub clear_word-requires : goal.clear_word-requires
clear_word-requires c =
    let r = open_room _ _ _ _ _ _ c.requires (sym c.table_for.ensures ∙ c.in-Some.is) in
    record { low = omega arith; few = r.few; inside = r.words }

pub loop-level-init : goal.loop-level-init
loop-level-init c = (
  λ C T leaf qs F n.
      let p = c.args.page in
      let ts = c.args.tables.now in
      let e : table_for ts 1 (prefix 1 p) ≡ Some c.in-Some.table = ap (table_for ts 1) (sym c.prefix.ensures) ∙ (sym c.table_for.ensures ∙ c.in-Some.is) in
      subst (λ (xs : List ℕ). Closing 1 p C T ts (put leaf p 0) (without p qs) xs) (sym c.clear_word.ensures) (closing_starts C T ts leaf qs c.args.words.now p c.in-Some.table F e),
  λ t l k h. h,
)

pub give_back-requires-clause-closing : goal.give_back-requires-clause-closing
give_back-requires-clause-closing c =
    let h = c.requires in
    let z : c.args.page + 0 ≡ c.args.page = omega arith in
    record {
      cards = h.cards;
      tables = h.tables;
      leaf = put h.leaf c.args.page 0;
      pages = without c.args.page h.pages;
      closing = c.loop-level.invariant.0 h.cards h.tables h.leaf h.pages h.fits (λ f. h.each 0 (omega arith) (ap h.leaf z ∙ f));
    }

pub returns-then-not-give_back-clause-closed : goal.returns-then-not-give_back-clause-closed
returns-then-not-give_back-clause-closed c = λ C T leaf qs F n.
    c.give_back.ensures.kept c.if-not-give_back.true C T (put leaf c.args.page 0) (without c.args.page qs) (c.loop-level.invariant.0 C T leaf qs F n)

pub loop-level-preserved : goal.loop-level-preserved
loop-level-preserved c = (
  λ C T leaf qs F n.
      subst (λ (z : ℕ). Closing z c.args.page C T c.give_back.new.tables (put leaf c.args.page 0) (without c.args.page qs) c.give_back.new.words) (sym (add-one c.loop-level.level))
      (c.give_back.ensures.given c.if-not-give_back.false C T (put leaf c.args.page 0) (without c.args.page qs) (c.loop-level.invariant.0 C T leaf qs F n)),
  λ t l k h. c.loop-level.invariant.1 t l k (c.give_back.ensures.stay t l k h),
)

pub returns-clause-closed : goal.returns-clause-closed
returns-clause-closed c = λ C T leaf qs F n.
    let four : c.loop-level.level ≡ 4 = omega (arith, c.loop-level-test.false) in
    closing_done _ _ _ _ _ _ _
    (subst (λ (z : ℕ). Closing z c.args.page C T c.loop-level.tables (put leaf c.args.page 0) (without c.args.page qs) c.loop-level.words) four (c.loop-level.invariant.0 C T leaf qs F n))
