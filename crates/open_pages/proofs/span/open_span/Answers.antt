use Rattle.std.proofs.Common.{◌≡◌, ℕ, ◌+◌, ◌≤◌, ◌*◌, ◌^◌, List, ◌++◌, arith, subst, add-one}
use Rattle.units.specs.Directions.{rights_of}
use Rattle.entry.specs.Words.{word_of}
use Rattle.tree.specs.Layout.{Fits, put_span}
use Rattle.tree.specs.Counts.{pages_from}
use Rattle.open_pages.proofs.Rows.{word_some, opened_none, still_fitted, still_room, opened_more}
use Rattle.open_pages.proofs.span.open_span.Goals as goal

pub loop-j-init : goal.loop-j-init
loop-j-init c = opened_none c.args.tables.now c.args.words.now c.args.first c.args.count (λ j. word_of (rights_of c.args.direction) (c.args.frame.0 + j))

pub open_page-requires-clause-fitted : goal.open_page-requires-clause-fitted
open_page-requires-clause-fitted c =
    still_fitted c.args.tables.now c.loop-j.tables c.args.words.now c.loop-j.words c.args.first c.args.count c.loop-j.j _ c.requires.fitted c.loop-j.invariant c.loop-j-test.true

pub open_page-requires-clause-room : goal.open_page-requires-clause-room
open_page-requires-clause-room c =
    still_room c.args.tables.now c.loop-j.tables c.args.words.now c.loop-j.words c.args.first c.args.count c.loop-j.j _ c.requires.fitted c.loop-j.invariant c.loop-j-test.true c.requires.room

pub open_page-requires-clause-present : goal.open_page-requires-clause-present
open_page-requires-clause-present c = rw c.page.ensures (word_some c.args.direction (c.args.frame.0 + c.loop-j.j))

pub loop-j-preserved : goal.loop-j-preserved
loop-j-preserved c =
    let w : ℕ → ℕ = λ j. word_of (rights_of c.args.direction) (c.args.frame.0 + j) in
    rw add-one (opened_more c.args.tables.now c.loop-j.tables c.args.words.now c.loop-j.words c.args.first c.args.count c.loop-j.j w c.requires.fitted c.loop-j.invariant c.loop-j-test.true c.open_page.new.tables c.open_page.new.words
    (λ C T leaf qs fits b. rw (← c.page.ensures) (c.open_page.ensures.opened C T leaf qs fits b)) c.open_page.ensures.stay c.open_page.ensures.taken)

pub returns-clause-opened : goal.returns-clause-opened
returns-clause-opened c =
    let e : c.loop-j.j ≡ c.args.count = omega arith in
    subst (λ (n : ℕ). (C T : ℕ) (leaf : ℕ → ℕ) (qs : List ℕ) → Fits C T c.args.tables.now leaf qs c.args.words.now → c.args.first + c.args.count ≤ C * 2 ^ 36
    → Fits C T c.loop-j.tables (put_span leaf c.args.first n (λ j. word_of (rights_of c.args.direction) (c.args.frame.0 + j))) (pages_from c.args.first n ++ qs) c.loop-j.words) e c.loop-j.invariant.fits
