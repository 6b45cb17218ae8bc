use Rattle.std.proofs.lemmas.Result.{err_from_is_err_and}
use Rattle.std.proofs.Common.{Err, sym, ap, ◌∙◌}
use Rattle.units.specs.declared.fault.Fault.{Fault}
use Rattle.pages.specs.Pages.{no_pages_for}
use Rattle.table_meaning.specs.Choosing.{setup_of}
use Rattle.table_meaning.proofs.Choice.{choice_full, choice_crowded, choice_short, choice_found}
use Rattle.slots.proofs.Pages.{page_is}
use Rattle.tables.proofs.tables.Tables.place.Goals as goal

pub returns-then-is_full : goal.returns-then-is_full
returns-then-is_full c =
    let s = c.args.self.now in
    let e = page_is (setup_of s.geometry s.count) s.records.slots c.args.request c.used_pages-used.result c.span.result c.requires.some c.used_pages-used.ensures c.span.ensures.value in
    ap (λ (f : Fault). Err f) c.at.ensures ∙ choice_crowded _ _ c.args.request c.in_ok-page.page.0 (e ∙ c.in_ok-page.ensures.value) (sym c.if-is_full.ensures)

pub returns : goal.returns
returns c =
    let s = c.args.self.now in
    let e = page_is (setup_of s.geometry s.count) s.records.slots c.args.request c.used_pages-used.result c.span.result c.requires.some c.used_pages-used.ensures c.span.ensures.value in
    choice_found _ _ c.args.request c.in_ok-page.page.0 (e ∙ c.in_ok-page.ensures.value) (sym c.if-is_full.ensures) c.in_ok-check_tables.ensures

pub returns-in_err-page : goal.returns-in_err-page
returns-in_err-page c =
    let s = c.args.self.now in
    let e = page_is (setup_of s.geometry s.count) s.records.slots c.args.request c.used_pages-used.result c.span.result c.requires.some c.used_pages-used.ensures c.span.ensures.value in
    let told = err_from_is_err_and c.from_residual.result c.from_residual.ensures.1 in
    told.1 ∙ ap (λ (f : Fault). Err f) (told.2 ∙ c.in_err-page.ensures.value.1) ∙ ap no_pages_for c.span.ensures.value ∙ choice_full _ _ c.args.request (e ∙ c.in_err-page.ensures.value.0)

pub returns-in_err-check_tables : goal.returns-in_err-check_tables
returns-in_err-check_tables c =
    let s = c.args.self.now in
    let e = page_is (setup_of s.geometry s.count) s.records.slots c.args.request c.used_pages-used.result c.span.result c.requires.some c.used_pages-used.ensures c.span.ensures.value in
    let told = err_from_is_err_and c.from_residual-in_err-check_tables.result c.from_residual-in_err-check_tables.ensures.1 in
    told.1 ∙ ap (λ (f : Fault). Err f) (told.2 ∙ c.in_err-check_tables.ensures.1)
    ∙ choice_short _ _ c.args.request c.in_ok-page.page.0 (e ∙ c.in_ok-page.ensures.value) (sym c.if-is_full.ensures) c.in_err-check_tables.ensures.0
