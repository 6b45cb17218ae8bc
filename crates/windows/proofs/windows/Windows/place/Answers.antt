use Rattle.std.proofs.Common.{Err, sym, ap, ◌∙◌}
use Rattle.std.proofs.lemmas.Result.{err_from_is_err_and}
use Rattle.units.specs.declared.fault.Fault.{Fault}
use Rattle.pages.specs.Pages.{no_pages_for}
use Rattle.window_table.proofs.Laws.{choice_full, choice_crowded, choice_found}
use Rattle.slots.proofs.Pages.{page_is}
use Rattle.window_table.specs.Choosing.{setup_of}
use Rattle.windows.proofs.windows.Windows.place.Goals as goal

pub returns-then-is_full : goal.returns-then-is_full
returns-then-is_full c =
    let e = page_is (setup_of c.args.self.now.geometry) c.args.self.now.table.slots c.args.request c.used_pages-used.result c.span.result c.requires.some c.used_pages-used.ensures c.span.ensures.value in
    ap (λ (f : Fault). Err f) c.at.ensures ∙ choice_crowded _ _ c.args.request c.in_ok-page.page.0 (e ∙ c.in_ok-page.ensures.value) (sym c.if-is_full.ensures)

pub returns : goal.returns
returns c =
    let e = page_is (setup_of c.args.self.now.geometry) c.args.self.now.table.slots c.args.request c.used_pages-used.result c.span.result c.requires.some c.used_pages-used.ensures c.span.ensures.value in
    choice_found _ _ c.args.request c.in_ok-page.page.0 (e ∙ c.in_ok-page.ensures.value) (sym c.if-is_full.ensures)

pub returns-in_err-page : goal.returns-in_err-page
returns-in_err-page c =
    let e = page_is (setup_of c.args.self.now.geometry) c.args.self.now.table.slots c.args.request c.used_pages-used.result c.span.result c.requires.some c.used_pages-used.ensures c.span.ensures.value in
    let told = err_from_is_err_and c.from_residual.result c.from_residual.ensures.1 in
    told.1 ∙ ap (λ (f : Fault). Err f) (told.2 ∙ c.in_err-page.ensures.value.1) ∙ ap no_pages_for c.span.ensures.value ∙ choice_full _ _ c.args.request (e ∙ c.in_err-page.ensures.value.0)
