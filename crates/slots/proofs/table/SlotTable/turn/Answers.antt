use Rattle.std.proofs.Common.{Option, get_or, set, sym, ap, ◌∙◌}
use Rattle.meaning.specs.Mappings.{starts, turned}
use Rattle.meaning.specs.Effects.{on_found}
use Rattle.units.specs.declared.mapping.Mapping.{Mapping}
use Rattle.slots.specs.declared.slot.Slot.{Slot}
use Rattle.slots.specs.Slots.{free_slot, holding, has}
use Rattle.slots.proofs.Looking.{found_place, found_none, first_at, none_such, turned_at, not_turned, has_such}
use Rattle.slots.proofs.table.SlotTable.turn.Goals as goal

pub returns-in-Some-clause-turns : goal.returns-in-Some-clause-turns
returns-in-Some-clause-turns g c =
    let ss = c.args.self.now.slots in
    let such = has (starts c.args.card.0 c.args.device.0) in
    let h = found_place such ss c.in-Some.place (sym c.in-Some.is ∙ c.place_at.ensures) in
    λ S e. turned_at S ss e c.in-Some.place h.0 c.args.holder c.args.card.0 c.args.device.0 c.turn.new.self c.turn.ensures.held h.1

pub returns-in_default-clause-turns : goal.returns-in_default-clause-turns
returns-in_default-clause-turns g c =
    let ss = c.args.self.now.slots in
    let such = has (starts c.args.card.0 c.args.device.0) in
    let h = found_none such ss (sym c.in_default.is ∙ c.place_at.ensures) in
    λ S e. not_turned c.args.holder c.args.card.0 c.args.device.0 ss h

pub returns-in-Some-clause-first : goal.returns-in-Some-clause-first
returns-in-Some-clause-first g c =
    let ss = c.args.self.now.slots in
    let such = has (starts c.args.card.0 c.args.device.0) in
    let h = found_place such ss c.in-Some.place (sym c.in-Some.is ∙ c.place_at.ensures) in
    let s = has_such (starts c.args.card.0 c.args.device.0) (get_or ss c.in-Some.place free_slot) h.1 in
    let was = get_or ss c.in-Some.place free_slot in
    ap (λ (z : Slot). set ss c.in-Some.place z) (c.turn.ensures.held s.mapping s.holds ∙ sym (ap (λ (z : Option Mapping). on_found z was (λ m. holding (turned c.args.holder m))) s.holds))
    ∙ first_at such (λ s. on_found s.mapping s (λ m. holding (turned c.args.holder m))) ss c.in-Some.place h.0 h.1 h.2

pub returns-in_default-clause-first : goal.returns-in_default-clause-first
returns-in_default-clause-first g c =
    let ss = c.args.self.now.slots in
    let such = has (starts c.args.card.0 c.args.device.0) in
    none_such such (λ s. on_found s.mapping s (λ m. holding (turned c.args.holder m))) ss (found_none such ss (sym c.in_default.is ∙ c.place_at.ensures))
