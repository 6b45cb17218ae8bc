use Rattle.std.proofs.Common.{◌≡◌, ◌^◌, ◌<◌, ◌≤◌, ◌∙◌, sym, arith}
use Rattle.entry.specs.Words.{number_in}
use Rattle.walk.proofs.Reaching.{reached_none, reached_above, reached_some}
use Rattle.walk.proofs.pages.reach.Goals as goal

pub returns-in_err-entry : goal.returns-in_err-entry
returns-in_err-entry c =
    c.from_residual.ensures ∙ sym (reached_none c.args.cards c.args.words.now c.args.card.0 c.args.page.0 (omega arith) (omega arith)
    c.walk.result c.walk-2.result c.walk.ensures c.walk-2.ensures _ _ c.ok-read.ensures.value c.ok-write.ensures.value (sym c.or.ensures ∙ c.in_err-entry.was))

pub returns-in_err-frame : goal.returns-in_err-frame
returns-in_err-frame c =
    let above : 2 ^ 32 ≤ number_in c.in_ok-entry.entry.word = grind arith in
    c.from_residual-in_err-frame.ensures ∙ sym (reached_above c.args.cards c.args.words.now c.args.card.0 c.args.page.0 (omega arith) (omega arith)
    c.walk.result c.walk-2.result c.walk.ensures c.walk-2.ensures _ _ c.ok-read.ensures.value c.ok-write.ensures.value c.in_ok-entry.entry (sym c.or.ensures ∙ c.in_ok-entry.was) above)

pub returns : goal.returns
returns c =
    let below : number_in c.in_ok-entry.entry.word < 2 ^ 32 = grind arith in
    let same : c.in_ok-frame.frame ≡ number_in c.in_ok-entry.entry.word = grind arith in
    let e = reached_some c.args.cards c.args.words.now c.args.card.0 c.args.page.0 (omega arith) (omega arith)
    c.walk.result c.walk-2.result c.walk.ensures c.walk-2.ensures _ _ c.ok-read.ensures.value c.ok-write.ensures.value c.in_ok-entry.entry (sym c.or.ensures ∙ c.in_ok-entry.was) below in
    rw (same, c.is_some.ensures, c.is_some-2.ensures) (sym e)
