use Rattle.std.proofs.Common.{◌≡◌, ℕ, ◌<◌, refl, sym, ap, subst, ◌∙◌}
use Rattle.meaning.specs.Mappings.{first_page}
use Rattle.pages.specs.Lawful.{lawful}
use Rattle.pages.proofs.Calls.{asked}
use Rattle.cache.specs.Held.{held}
use Rattle.slots.specs.Slots.{opened_of}
use Rattle.table_meaning.specs.Coherent.{Coherent}
use Rattle.table_meaning.proofs.Choice.{choice_own}
use Rattle.table_meaning.proofs.Coherence.{coherent_insert}
use Rattle.tables.specs.contracts.laws.TablesMeaning.TheImpl.{ghosts as means}
use Rattle.tables.proofs.Calls.{setup_in, open_in, opened_call}
use Rattle.tables.proofs.Opening.{still_lawful, new_page, first_of, one_more, span_fitted, span_room, span_below, opened_fits}
use Rattle.tables.proofs.mapping.TablesMapper.map.Goals as goal

pub place-requires-clause-card : goal.place-requires-clause-card
place-requires-clause-card c = (asked means c.args.self.now c.args.memory.now c.args.request c.in_ok-admit.ensures).card

pub place-requires-clause-some : goal.place-requires-clause-some
place-requires-clause-some c = (asked means c.args.self.now c.args.memory.now c.args.request c.in_ok-admit.ensures).some

pub place-requires-clause-short : goal.place-requires-clause-short
place-requires-clause-short c = (asked means c.args.self.now c.args.memory.now c.args.request c.in_ok-admit.ensures).short

pub page_number-first-requires : goal.page_number-first-requires
page_number-first-requires c =
    let made : first_page c.new_mapping-mapping.result ≡ _ = ap first_page c.new_mapping-mapping.ensures in
    let b = new_page c.args.self.now c.args.memory.now c.args.request c.in_ok-placement.placement c.in_ok-admit.ensures (sym c.in_ok-placement.ensures) in
    subst (λ (z : ℕ). z < 68719476736) (sym (c.page.ensures ∙ made)) b

pub open_span-requires-clause-fitted : goal.open_span-requires-clause-fitted
open_span-requires-clause-fitted c =
    span_fitted c.args.self.now c.args.memory.now c.args.request c.in_ok-placement.placement c.in_ok-admit.ensures (sym c.in_ok-placement.ensures)
    c.new_mapping-mapping.result c.page_number-first.result c.span.result c.of.result.0 c.new_mapping-mapping.ensures (first_of c.new_mapping-mapping.result c.page.result.0 c.page_number-first.result c.page_number-first.ensures c.page.ensures) c.span.ensures.value c.of.ensures.value

pub open_span-requires-clause-room : goal.open_span-requires-clause-room
open_span-requires-clause-room c =
    span_room c.args.self.now c.args.memory.now c.args.request c.in_ok-placement.placement c.in_ok-admit.ensures (sym c.in_ok-placement.ensures)
    c.new_mapping-mapping.result c.page_number-first.result c.span.result c.of.result.0 c.new_mapping-mapping.ensures (first_of c.new_mapping-mapping.result c.page.result.0 c.page_number-first.result c.page_number-first.ensures c.page.ensures) c.span.ensures.value c.of.ensures.value

pub invariant_of-self : goal.invariant_of-self
invariant_of-self c =
    let s = c.args.self.now in
    let admit = c.in_ok-admit.ensures in
    let e = sym c.in_ok-placement.ensures in
    let p = c.in_ok-placement.placement in
    let S = setup_in s in
    let first = first_of c.new_mapping-mapping.result c.page.result.0 c.page_number-first.result c.page_number-first.ensures c.page.ensures in
    let opens = one_more s c.args.memory.now c.args.request p admit e c.new_mapping-mapping.result (opened_of c.open.new.self.slots) c.new_mapping-mapping.ensures c.open.ensures.opens in
    let law = still_lawful s c.args.memory.now c.args.request p admit e in
    let below = span_below s c.args.memory.now c.args.request p admit e c.new_mapping-mapping.result c.page_number-first.result c.span.result c.of.result.0 c.new_mapping-mapping.ensures first c.span.ensures.value c.of.ensures.value in
    record {
      possible = ((s.possible.0.0, ap (lawful S) opens ∙ law), s.possible.1);
      fits = opened_fits s c.args.memory.now c.args.request p admit e c.new_mapping-mapping.result c.page_number-first.result c.span.result c.of.result.0 c.new_mapping-mapping.ensures first c.span.ensures.value c.of.ensures.value
          c.open_span.new.tables c.open_span.new.words (opened_of c.open.new.self.slots) (c.open_span.ensures.opened _ _ _ _ s.fits below) opens;
      coherent = subst (Coherent (held s.cache)) (sym opens) (coherent_insert (held s.cache) (open_in s) s.coherent S _ law);
      idle = s.idle;
    }

pub returns : goal.returns
returns c =
    let s = c.args.self.now in
    let admit = c.in_ok-admit.ensures in
    let e = sym c.in_ok-placement.ensures in
    let p = c.in_ok-placement.placement in
    let opens = one_more s c.args.memory.now c.args.request p admit e c.new_mapping-mapping.result (opened_of c.open.new.self.slots) c.new_mapping-mapping.ensures c.open.ensures.opens in
    let first = first_of c.new_mapping-mapping.result c.page.result.0 c.page_number-first.result c.page_number-first.ensures c.page.ensures in
    let below = span_below s c.args.memory.now c.args.request p admit e c.new_mapping-mapping.result c.page_number-first.result c.span.result c.of.result.0 c.new_mapping-mapping.ensures first c.span.ensures.value c.of.ensures.value in
    let fits = opened_fits s c.args.memory.now c.args.request p admit e c.new_mapping-mapping.result c.page_number-first.result c.span.result c.of.result.0 c.new_mapping-mapping.ensures first c.span.ensures.value c.of.ensures.value
    c.open_span.new.tables c.open_span.new.words (opened_of c.open.new.self.slots) (c.open_span.ensures.opened _ _ _ _ s.fits below) opens in
    opened_call s _ c.args.memory.now refl c.args.request p admit e (choice_own (setup_in s) (open_in s) c.args.request p e) opens
    (record { stay = c.open_span.ensures.stay; laid = fits; records = record { mapping = _; became = c.open.ensures.first }; cache = refl; queue = refl })
