use Rattle.std.proofs.Common.{ap, sym, ◌∙◌, inl, inr, arith}
use Rattle.std.proofs.lemmas.Result.{err_from_is_err_and}
use Rattle.meaning.specs.Checks.{errs}
use Rattle.tables.proofs.Accessing.{nowhere_judged, walk_errs, walk_finds, found_reach}
use Rattle.tables.proofs.tables.Tables.walk.Goals.{then-card-self-via-then-card-self, then-card-self-via-else-card-self+then-page-ge68719476736}
use Rattle.tables.proofs.tables.Tables.walk.Goals as goal

pub returns-then-card-self : goal.returns-then-card-self
returns-then-card-self c =
    nowhere_judged c.args.self.now c.args.card.0 c.args.page.0 c.args.access (elim c.then-card-self.branch [
      | then-card-self-via-then-card-self w ↦ inl w.if-card-self.true
      | then-card-self-via-else-card-self+then-page-ge68719476736 w ↦ inr w.if-page-ge68719476736.true
    ]) ∙ ap errs (sym c.at.ensures)

pub returns-in_err-entry : goal.returns-in_err-entry
returns-in_err-entry c =
    let told = err_from_is_err_and c.from_residual.result c.from_residual.ensures.1 in
    rw (told.1, told.2) (walk_errs c.args.self.now c.args.card.0 c.args.page.0 c.args.access c.if-card-self.false c.if-page-ge68719476736.false c.in_err-entry.field-0.0 c.in_err-entry.ensures)

pub overflow_cast-result : goal.overflow_cast-result
overflow_cast-result c =
    let f = walk_finds c.args.self.now c.args.card.0 c.args.page.0 c.args.access c.if-card-self.false c.if-page-ge68719476736.false c.in_ok-entry.entry c.in_ok-entry.ensures in
    let n = c.number.ensures.value in
    let same = f.number in
    let small = f.small in
    omega arith

pub returns : goal.returns
returns c =
    let f = walk_finds c.args.self.now c.args.card.0 c.args.page.0 c.args.access c.if-card-self.false c.if-page-ge68719476736.false c.in_ok-entry.entry c.in_ok-entry.ensures in
    found_reach c.args.self.now c.args.card.0 c.args.page.0 c.args.access c.if-card-self.false c.if-page-ge68719476736.false c.in_ok-entry.entry c.number.result c.rights.result f c.number.ensures.value c.rights.ensures
