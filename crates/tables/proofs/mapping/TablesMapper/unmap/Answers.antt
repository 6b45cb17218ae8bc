use Rattle.std.proofs.Common.{ℕ, ◌<◌, ◌≤◌, refl, sym, ap, subst, ◌∙◌}
use Rattle.pages.specs.Lawful.{lawful}
use Rattle.cache.specs.Held.{held}
use Rattle.slots.specs.Slots.{opened_of}
use Rattle.tables.proofs.Calls.{setup_in, kept_in, closed_call}
use Rattle.tables.proofs.Opening.{first_of}
use Rattle.tables.proofs.Closing.{closed_page, closed_few, same_removed, closed_lawful, span_open, closed_fits, closes_left, entries_left, closed_unnamed, closed_coherent}
use Rattle.tables.proofs.mapping.TablesMapper.unmap.Goals as goal

pub page_number-requires : goal.page_number-requires
page_number-requires c =
    let b = closed_page c.args.self.now c.args.request.card.0 c.args.request.device.0 c.in_ok-mapping.mapping c.in_ok-mapping.ensures.1 in
    subst (λ (z : ℕ). z < 68719476736) (sym c.page-page.ensures) b

pub close_span-requires-clause-opened : goal.close_span-requires-clause-opened
close_span-requires-clause-opened c =
    let m = c.in_ok-mapping.mapping in
    span_open c.args.self.now c.args.request.card.0 c.args.request.device.0 m c.in_ok-mapping.ensures.1 c.page_number.result c.span-span.result
    (first_of m c.page-page.result.0 c.page_number.result c.page_number.ensures c.page-page.ensures) c.span-span.ensures.value

pub invalidate-requires-clause-few : goal.invalidate-requires-clause-few
invalidate-requires-clause-few c =
    subst (λ (z : ℕ). z ≤ 8) (sym c.span-span.ensures.value) (closed_few c.args.self.now c.args.request.card.0 c.args.request.device.0 c.in_ok-mapping.mapping c.in_ok-mapping.ensures.1)

pub release-requires : goal.release-requires
release-requires c =
    closed_unnamed c.args.self.now c.args.request.card.0 c.args.request.device.0 c.in_ok-mapping.mapping c.in_ok-mapping.ensures.1 (held c.invalidate.new.cache) c.page-page.result.0 c.span-span.result
    c.page-page.ensures c.span-span.ensures.value c.invalidate.ensures.cache

pub invariant_of-self : goal.invariant_of-self
invariant_of-self c =
    let s = c.args.self.now in
    let m = c.in_ok-mapping.mapping in
    let found = c.in_ok-mapping.ensures.1 in
    let S = setup_in s in
    let closes = c.release.ensures.closes S s.possible.0.1 in
    let first = first_of m c.page-page.result.0 c.page_number.result c.page_number.ensures c.page-page.ensures in
    record {
      possible = ((s.possible.0.0, ap (lawful S) closes ∙ closed_lawful s c.args.request.card.0 c.args.request.device.0 m found), s.possible.1);
      fits = closed_fits s c.args.request.card.0 c.args.request.device.0 m found c.page_number.result c.span-span.result first c.span-span.ensures.value
          c.close_span.new.tables c.close_span.new.words (opened_of c.release.new.records.slots) c.close_span.ensures.closed closes;
      coherent = closed_coherent s c.args.request.card.0 c.args.request.device.0 m found (held c.invalidate.new.cache) c.page-page.result.0 c.span-span.result
          c.page-page.ensures c.span-span.ensures.value c.invalidate.ensures.cache (opened_of c.release.new.records.slots) closes;
      idle = c.invalidate.ensures.queue;
    }

pub returns : goal.returns
returns c =
    let s = c.args.self.now in
    let r = c.args.request in
    let m = c.in_ok-mapping.mapping in
    let found = c.in_ok-mapping.ensures.1 in
    let closes = c.release.ensures.closes (setup_in s) s.possible.0.1 in
    let first = first_of m c.page-page.result.0 c.page_number.result c.page_number.ensures c.page-page.ensures in
    let fits = closed_fits s r.card.0 r.device.0 m found c.page_number.result c.span-span.result first c.span-span.ensures.value
    c.close_span.new.tables c.close_span.new.words (opened_of c.release.new.records.slots) c.close_span.ensures.closed closes in
    closed_call s _ c.args.memory.now refl r.card.0 r.direction r.device.0 r.length m c.in_ok-mapping.ensures.0 found
    (closes ∙ same_removed s r.card.0 r.device.0 m found)
    (closes_left s.geometry.cards s.count (kept_in s) _ r.card.0 r.device.0 m found (record {
      stay = c.close_span.ensures.stay;
      laid = fits;
      records = c.release.ensures.first;
      cache = entries_left s r.card.0 r.device.0 m found (held c.invalidate.new.cache) c.page-page.result.0 c.span-span.result c.page-page.ensures c.span-span.ensures.value c.invalidate.ensures.cache;
      queue = c.invalidate.ensures.queue;
    }))
