use Rattle.std.proofs.Common.{◌+◌, Some, sym, ap, ◌∙◌, arith}
use Rattle.walk.specs.Indices.{prefix}
use Rattle.open_pages.proofs.Hanging.{Standing, hung_page, words_stand}
use Rattle.open_pages.proofs.Way.{fits_hung, root_stands, fitted_hangs, fits_opened}
use Rattle.open_pages.proofs.page.open_page.Goals as goal
use Rattle.open_pages.proofs.page.open_page.Goals.{After-table_below-first}

last : (c : After-table_below-first) → Standing c.table_below-first.new.tables c.table_below-first.new.words c.table_below-first.result
last c = words_stand c.table_below-first.new.tables c.table_below-first.new.words 1 (prefix 1 c.args.page) c.table_below-first.result c.table_below-first.ensures.hangs c.table_below-first.ensures.made.found

pub table_below-third-requires-clause-hangs : goal.table_below-third-requires-clause-hangs
table_below-third-requires-clause-hangs c = fitted_hangs c.args.tables.now c.args.words.now (c.args.page + 1) c.requires.fitted

pub table_below-third-requires-clause-stands : goal.table_below-third-requires-clause-stands
table_below-third-requires-clause-stands c =
    let f = c.requires.fitted in
    let b = f.before in
    root_stands f.cards f.tables c.args.tables.now f.leaf f.pages c.args.words.now c.args.page f.fits (omega arith) ∙ ap Some (sym c.prefix-root.ensures)

pub overflow_mul-words : goal.overflow_mul-words
overflow_mul-words c = omega (arith, (last (goal.at.overflow_mul-words c).After-table_below-first).few)

pub overflow_add-words : goal.overflow_add-words
overflow_add-words c = omega (arith, (last (goal.at.overflow_add-words c).After-table_below-first).few, c.index.ensures.below)

pub offset_bounds-words-first : goal.offset_bounds-words-first
offset_bounds-words-first c = omega (arith, (last (goal.at.offset_bounds-words-first c).After-table_below-first).few, c.index.ensures.below)

pub bounds-words-first : goal.bounds-words-first
bounds-words-first c = (last (goal.at.bounds-words-first c).After-table_below-first).words c.index.result c.index.ensures.below

pub returns-clause-opened : goal.returns-clause-opened
returns-clause-opened c C T leaf qs fits b =
    let q = c.args.page in
    let w = c.args.entry.word in
    let h₀ = fits_hung C T c.args.tables.now leaf qs c.args.words.now fits in
    let h₃ = c.table_below-first.ensures.hung C T leaf (c.table_below-second.ensures.hung C T leaf (c.table_below-third.ensures.hung C T leaf h₀)) in
    rw (c.index.ensures.value, c.word.ensures.value) (fits_opened c.args.tables.now c.table_below-third.new.tables c.table_below-second.new.tables c.table_below-first.new.tables q c.table_below-third.result c.table_below-second.result c.table_below-first.result
    c.table_below-third.ensures.made c.table_below-second.ensures.made c.table_below-first.ensures.made C T leaf qs c.args.words.now _ w c.requires.present fits
    (hung_page C T c.table_below-first.new.tables leaf c.table_below-first.new.words h₃ q c.table_below-first.result w c.table_below-first.ensures.made.found))
