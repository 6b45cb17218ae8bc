use Rattle.std.proofs.Common.{set, sym, ap, ◌∙◌}
use Rattle.meaning.specs.Mappings.{starts}
use Rattle.slots.specs.declared.slot.Slot.{Slot}
use Rattle.slots.specs.Slots.{free_slot, has}
use Rattle.slots.proofs.Looking.{found_place, found_none, first_at, none_such, closed_at, not_closed}
use Rattle.slots.proofs.table.SlotTable.close.Goals as goal

pub returns-in-Some-clause-closes : goal.returns-in-Some-clause-closes
returns-in-Some-clause-closes g c =
    let ss = c.args.self.now.slots in
    let such = has (starts c.args.card.0 c.args.device.0) in
    let h = found_place such ss c.in-Some.place (sym c.in-Some.is ∙ c.place_at.ensures) in
    λ S e. closed_at S ss e c.in-Some.place h.0 c.args.card.0 c.args.device.0 c.close.new.self c.close.ensures h.1

pub returns-in_default-clause-closes : goal.returns-in_default-clause-closes
returns-in_default-clause-closes g c =
    let ss = c.args.self.now.slots in
    let such = has (starts c.args.card.0 c.args.device.0) in
    let h = found_none such ss (sym c.in_default.is ∙ c.place_at.ensures) in
    λ S e. not_closed c.args.card.0 c.args.device.0 ss h

pub returns-in-Some-clause-first : goal.returns-in-Some-clause-first
returns-in-Some-clause-first g c =
    let ss = c.args.self.now.slots in
    let such = has (starts c.args.card.0 c.args.device.0) in
    let h = found_place such ss c.in-Some.place (sym c.in-Some.is ∙ c.place_at.ensures) in
    ap (λ (z : Slot). set ss c.in-Some.place z) c.close.ensures ∙ first_at such (λ s. free_slot) ss c.in-Some.place h.0 h.1 h.2

pub returns-in_default-clause-first : goal.returns-in_default-clause-first
returns-in_default-clause-first g c =
    let ss = c.args.self.now.slots in
    let such = has (starts c.args.card.0 c.args.device.0) in
    none_such such (λ s. free_slot) ss (found_none such ss (sym c.in_default.is ∙ c.place_at.ensures))
