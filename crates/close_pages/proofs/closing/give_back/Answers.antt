use Rattle.std.proofs.Common.{◌≡◌, ◌+◌, set, Some, None, Option, sym, ap, ◌∙◌, subst, ℕ, suc, List, add-one, arith}
use Rattle.walk.specs.Indices.{prefix}
use Rattle.tree.specs.declared.place.Table.{Table}
use Rattle.tree.specs.declared.place.Table.TheVariants.{Free}
use Rattle.tree.specs.Places.{table_for}
use Rattle.close_pages.specs.Closing.{Closing}
use Rattle.close_pages.proofs.Words.{blank_words, filled_word}
use Rattle.close_pages.proofs.Giving.{closing_gives, closing_ends, closing_above, closing_room}
use Rattle.close_pages.proofs.closing.give_back.Goals as goal

above_is : (ts : List Table) (a p k : ℕ) (o r : Option ℕ) → k ≡ prefix (a + 1) p → o ≡ table_for ts (a + 1) k → o ≡ r → table_for ts (suc a) (prefix (suc a) p) ≡ r
above_is ts a p k o r e f g = ap (λ (z : ℕ). table_for ts z (prefix z p)) (sym (add-one a)) ∙ (ap (table_for ts (a + 1)) (sym e) ∙ (sym f ∙ g))

here_is : (ts : List Table) (a p k : ℕ) (o r : Option ℕ) → k ≡ prefix a p → o ≡ table_for ts a k → o ≡ r → table_for ts a (prefix a p) ≡ r
here_is ts a p k o r e f g = ap (table_for ts a) (sym e) ∙ (sym f ∙ g)

pub returns-in_default-table_for-clause-kept : goal.returns-in_default-table_for-clause-kept
returns-in_default-table_for-clause-kept c = λ never.
    absurd (closing_above _ _ _ _ c.requires.closing c.requires.high
    (above_is _ _ _ _ _ None c.prefix-2.ensures c.table_for-2.ensures c.in_default-table_for.is))

pub is_blank-requires : goal.is_blank-requires
is_blank-requires c =
    (closing_room _ _ _ _ c.requires.closing _ _ _ (sym c.table_for.ensures ∙ c.in-Some.is)).words

pub returns-then-not-is_blank-clause-kept : goal.returns-then-not-is_blank-clause-kept
returns-then-not-is_blank-clause-kept c = λ ends C T leaf qs closing.
    let r = closing_room _ _ _ _ c.requires.closing _ _ _ (sym c.table_for.ensures ∙ c.in-Some.is) in
    let f = filled_word _ _ r.words (sym c.is_blank.ensures ∙ c.if-not-is_blank.true) in
    closing_ends _ _ C T _ leaf qs _ closing c.requires.low c.requires.high c.in-Some.table
    (here_is _ _ _ _ _ (Some c.in-Some.table) c.prefix.ensures c.table_for.ensures c.in-Some.is) f.0 f.1 f.2

pub clear_word-requires : goal.clear_word-requires
clear_word-requires c =
    let r = closing_room _ _ _ _ c.requires.closing _ _ _ (sym c.table_for-2.ensures ∙ c.in-Some-table_for.is) in
    record { low = omega (arith, c.requires.high); few = r.few; inside = r.words }

pub offset_bounds-tables-table : goal.offset_bounds-tables-table
offset_bounds-tables-table c =
    let r = closing_room _ _ _ _ c.requires.closing _ _ _ (sym c.table_for.ensures ∙ c.in-Some.is) in
    omega (arith, r.few)

pub bounds-tables-table : goal.bounds-tables-table
bounds-tables-table c =
    (closing_room _ _ _ _ c.requires.closing _ _ _ (sym c.table_for.ensures ∙ c.in-Some.is)).listed

pub returns-clause-given : goal.returns-clause-given
returns-clause-given c = λ ends C T leaf qs closing.
    let a = c.args.level in
    let p = c.args.page in
    let ts = c.args.tables.now in
    let ws = c.args.words.now in
    let t = c.in-Some.table in
    let u = c.in-Some-table_for.above in
    let r = closing_room _ _ _ _ c.requires.closing _ _ _ (sym c.table_for.ensures ∙ c.in-Some.is) in
    subst (λ (xs : List ℕ). Closing (suc a) p C T (set ts t Free) leaf qs xs) (sym c.clear_word.ensures)
    (closing_gives a p C T ts leaf qs ws closing c.requires.low c.requires.high t (here_is ts a p _ _ (Some t) c.prefix.ensures c.table_for.ensures c.in-Some.is)
    (blank_words ws t r.words (sym c.is_blank.ensures ∙ c.if-not-is_blank.false))
    u (above_is ts a p _ _ (Some u) c.prefix-2.ensures c.table_for-2.ensures c.in-Some-table_for.is))
