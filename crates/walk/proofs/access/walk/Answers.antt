use Rattle.std.proofs.lemmas.Result.{err_from_is_err_and}
use Rattle.walk.proofs.Levels.{level_ends, level_passes, level_answers}
use Rattle.walk.proofs.Prefixes.{at}
use Rattle.walk.proofs.access.walk.Goals as goal

pub returns-in_err-upper : goal.returns-in_err-upper
returns-in_err-upper c =
    let told = err_from_is_err_and c.from_residual.result c.from_residual.ensures.1 in
    rw (told.1, told.2, ← c.from.ensures)
    (level_ends 3 c.args.access c.args.words.now _ _ c.args.page.0 _ (at c.page_indices.ensures 0) c.in_err-upper.ensures)

pub returns-in_err-middle : goal.returns-in_err-middle
returns-in_err-middle c =
    let told = err_from_is_err_and c.from_residual-in_err-middle.result c.from_residual-in_err-middle.ensures.1 in
    let upper = level_passes 2 c.args.access c.args.words.now _ _ _ c.args.page.0 _ (at c.page_indices.ensures 0) c.in_ok-upper.ensures c.number.ensures.value in
    rw (told.1, told.2, ← c.from.ensures, upper)
    (level_ends 2 c.args.access c.args.words.now _ _ c.args.page.0 _ (at c.page_indices.ensures 1) c.in_err-middle.ensures)

pub returns-in_err-lower : goal.returns-in_err-lower
returns-in_err-lower c =
    let told = err_from_is_err_and c.from_residual-in_err-lower.result c.from_residual-in_err-lower.ensures.1 in
    let upper = level_passes 2 c.args.access c.args.words.now _ _ _ c.args.page.0 _ (at c.page_indices.ensures 0) c.in_ok-upper.ensures c.number.ensures.value in
    let middle = level_passes 1 c.args.access c.args.words.now _ _ _ c.args.page.0 _ (at c.page_indices.ensures 1) c.in_ok-middle.ensures c.number-2.ensures.value in
    rw (told.1, told.2, ← c.from.ensures, upper, middle)
    (level_ends 1 c.args.access c.args.words.now _ _ c.args.page.0 _ (at c.page_indices.ensures 2) c.in_err-lower.ensures)

pub returns : goal.returns
returns c =
    let upper = level_passes 2 c.args.access c.args.words.now _ _ _ c.args.page.0 _ (at c.page_indices.ensures 0) c.in_ok-upper.ensures c.number.ensures.value in
    let middle = level_passes 1 c.args.access c.args.words.now _ _ _ c.args.page.0 _ (at c.page_indices.ensures 1) c.in_ok-middle.ensures c.number-2.ensures.value in
    let lower = level_passes 0 c.args.access c.args.words.now _ _ _ c.args.page.0 _ (at c.page_indices.ensures 2) c.in_ok-lower.ensures c.number-3.ensures.value in
    rw (← c.from.ensures, upper, middle, lower)
    (level_answers c.args.access c.args.words.now _ _ c.args.page.0 _ (at c.page_indices.ensures 3) c.step-4.ensures)
