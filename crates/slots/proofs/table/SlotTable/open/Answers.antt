use Rattle.std.proofs.Common.{rules, ◌≡◌, length, get_or, set, sym, ap, ◌∙◌, arith}
use borrow.Author.Tests.{tests}
use Rattle.std.proofs.lemmas.Iterator.{YieldsList-from_slice}
use Rattle.std.proofs.lemmas.Iterator.Search.{position_from_yields_List}
use Rattle.slots.specs.declared.slot.Slot.{Slot}
use Rattle.slots.specs.Slots.{free_slot, holding, is_free, opened_of}
use Rattle.slots.proofs.Slots.{free_is, open_slot, count_full, count_room}
use Rattle.slots.proofs.Looking.{found_place, found_none, first_at, none_such}
use Rattle.slots.proofs.table.SlotTable.open.Goals as goal

pub returns-in-Some-clause-opens : goal.returns-in-Some-clause-opens
returns-in-Some-clause-opens g c =
    let ss = c.args.self.now.slots in
    let i = c.in-Some.i in
    let h = found_place is_free ss i (sym c.in-Some.is ∙ position_from_yields_List is_free _ _ c.position.result c.position.ensures.ran (YieldsList-from_slice ss cc) (λ x b q k. search (rules, tests))) in
    λ room apart. ap (λ (z : Slot). opened_of (set ss i z)) c.open.ensures ∙ open_slot ss i c.args.mapping h.0 (free_is (get_or ss i free_slot) h.1) apart

pub returns-in-Some-clause-full : goal.returns-in-Some-clause-full
returns-in-Some-clause-full g c =
    let ss = c.args.self.now.slots in
    let i = c.in-Some.i in
    let h = found_place is_free ss i (sym c.in-Some.is ∙ position_from_yields_List is_free _ _ c.position.result c.position.ensures.ran (YieldsList-from_slice ss cc) (λ x b q k. search (rules, tests))) in
    let l = count_room ss i h.0 h.1 in
    let e : length ss ≡ g.row.N = omega arith in
    λ full. absurd (omega arith)

pub returns-in_default-clause-opens : goal.returns-in_default-clause-opens
returns-in_default-clause-opens g c =
    let ss = c.args.self.now.slots in
    let h = found_none is_free ss (sym c.in_default.is ∙ position_from_yields_List is_free _ _ c.position.result c.position.ensures.ran (YieldsList-from_slice ss cc) (λ x b q k. search (rules, tests))) in
    let l = count_full ss h in
    let e : length ss ≡ g.row.N = omega arith in
    λ room apart. absurd (omega arith)

pub returns-in-Some-clause-first : goal.returns-in-Some-clause-first
returns-in-Some-clause-first g c =
    let ss = c.args.self.now.slots in
    let i = c.in-Some.i in
    let h = found_place is_free ss i (sym c.in-Some.is ∙ position_from_yields_List is_free _ _ c.position.result c.position.ensures.ran (YieldsList-from_slice ss cc) (λ x b q k. search (rules, tests))) in
    ap (λ (z : Slot). set ss i z) c.open.ensures ∙ first_at is_free (λ s. holding c.args.mapping) ss i h.0 h.1 h.2

pub returns-in_default-clause-first : goal.returns-in_default-clause-first
returns-in_default-clause-first g c =
    let ss = c.args.self.now.slots in
    none_such is_free (λ s. holding c.args.mapping) ss (found_none is_free ss (sym c.in_default.is ∙ position_from_yields_List is_free _ _ c.position.result c.position.ensures.ran (YieldsList-from_slice ss cc) (λ x b q k. search (rules, tests))))
