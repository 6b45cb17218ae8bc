use Rattle.std.proofs.Common.{◌≡◌, suc, None, sym, ap, ◌∙◌, arith}
use Rattle.walk.specs.Indices.{prefix}
use Rattle.tree.specs.Places.{table_for}
use Rattle.tree.proofs.Looking.{found_free, none_free}
use Rattle.open_pages.proofs.Hanging.{Fresh, Standing, hung_taken, words_stand, hangs_taken, made_taken, stay_taken, fresh_few, some_free, one_taken}
use Rattle.open_pages.proofs.page.table_below.Goals as goal
use Rattle.open_pages.proofs.page.table_below.Goals.{In_default, In-Some-free_table}

vacant : (c : In_default) → table_for c.args.tables.now c.args.level (prefix c.args.level c.args.page) ≡ None
vacant c = ap (table_for c.args.tables.now c.args.level) (sym c.prefix-prefix.ensures) ∙ sym c.table_for.ensures ∙ c.in_default.is

fresh : (c : In-Some-free_table) → Fresh c.args.tables.now c.in-Some-free_table.fresh c.args.level (prefix c.args.level c.args.page) c.args.above
fresh c = record {
  free = found_free c.args.tables.now c.in-Some-free_table.fresh (sym c.free_table.ensures ∙ c.in-Some-free_table.is);
  low = c.requires.low;
  high = c.requires.high;
  vacant = ap (table_for c.args.tables.now c.args.level) (sym c.prefix-prefix.ensures) ∙ sym c.table_for.ensures ∙ c.in_default.is;
  above = c.requires.stands;
}

above : (c : In-Some-free_table) → Standing c.args.tables.now c.args.words.now c.args.above
above c = words_stand c.args.tables.now c.args.words.now (suc c.args.level) (prefix (suc c.args.level) c.args.page) c.args.above c.requires.hangs c.requires.stands

pub unreachable-requires : goal.unreachable-requires
unreachable-requires c = some_free c.args.tables.now c.args.level c.args.page (vacant (goal.at.unreachable-requires c).In_default) c.requires.room (none_free c.args.tables.now (sym c.free_table.ensures ∙ c.in_default-free_table.is))

pub overflow_cast-fresh : goal.overflow_cast-fresh
overflow_cast-fresh c = omega (arith, fresh_few c.args.tables.now c.args.words.now c.in-Some-free_table.fresh c.args.level (prefix c.args.level c.args.page) c.args.above c.requires.hangs (fresh (goal.at.overflow_cast-fresh c).In-Some-free_table))

pub overflow_mul-words : goal.overflow_mul-words
overflow_mul-words c = omega (arith, (above (goal.at.overflow_mul-words c).In-Some-free_table).few)

pub overflow_add-words : goal.overflow_add-words
overflow_add-words c = omega (arith, (above (goal.at.overflow_add-words c).In-Some-free_table).few)

pub offset_bounds-words-above : goal.offset_bounds-words-above
offset_bounds-words-above c = omega (arith, (above (goal.at.offset_bounds-words-above c).In-Some-free_table).few)

pub bounds-words-above : goal.bounds-words-above
bounds-words-above c = (above (goal.at.bounds-words-above c).In-Some-free_table).words c.index.result c.index.ensures.below

pub returns-clause-hangs : goal.returns-clause-hangs
returns-clause-hangs c = rw (c.prefix-prefix.ensures, c.index.ensures.value, c.word.ensures.value, c.table.ensures)
    (hangs_taken c.args.tables.now c.args.words.now c.in-Some-free_table.fresh c.args.level (prefix c.args.level c.args.page) c.args.above c.requires.hangs (fresh (goal.at.returns-clause-hangs c).In-Some-free_table))

pub returns-clause-hung : goal.returns-clause-hung
returns-clause-hung c C T leaf hung = rw (c.prefix-prefix.ensures, c.index.ensures.value, c.word.ensures.value, c.table.ensures)
    (hung_taken C T c.args.tables.now leaf c.args.words.now hung c.in-Some-free_table.fresh c.args.level (prefix c.args.level c.args.page) c.args.above (fresh (goal.at.returns-clause-hung c).In-Some-free_table))

pub returns-clause-made : goal.returns-clause-made
returns-clause-made c = rw c.prefix-prefix.ensures (made_taken c.args.tables.now c.args.words.now c.in-Some-free_table.fresh c.args.level (prefix c.args.level c.args.page) c.args.above c.requires.hangs (fresh (goal.at.returns-clause-made c).In-Some-free_table))

pub returns-clause-stay : goal.returns-clause-stay
returns-clause-stay c = rw c.prefix-prefix.ensures (stay_taken c.args.tables.now c.args.words.now c.in-Some-free_table.fresh c.args.level (prefix c.args.level c.args.page) c.args.above c.requires.hangs (fresh (goal.at.returns-clause-stay c).In-Some-free_table))

pub returns-clause-taken : goal.returns-clause-taken
returns-clause-taken c = rw c.prefix-prefix.ensures (one_taken c.args.tables.now c.in-Some-free_table.fresh c.args.level c.args.page c.args.above (fresh (goal.at.returns-clause-taken c).In-Some-free_table))
