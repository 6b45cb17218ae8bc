use Rattle.std.proofs.Common.{sym, ◌∙◌}
use Rattle.meaning.specs.Mappings.{starts}
use Rattle.slots.specs.Slots.{has}
use Rattle.slots.proofs.Looking.{found_place, found_none, found_at, not_found}
use Rattle.slots.proofs.table.SlotTable.mapping_at.Goals as goal

pub returns-in_err-place : goal.returns-in_err-place
returns-in_err-place g c =
    let ss = c.args.self.now.slots in
    let such = has (starts c.args.card.0 c.args.device.0) in
    λ S e. c.from_residual.ensures ∙ sym (not_found c.args.card.0 c.args.device.0 ss (found_none such ss (sym c.in_err-place.was ∙ c.place_at.ensures)))

pub returns : goal.returns
returns g c =
    let ss = c.args.self.now.slots in
    let such = has (starts c.args.card.0 c.args.device.0) in
    let f = found_place such ss _ (sym c.in_ok-place.was ∙ c.place_at.ensures) in
    λ S e. found_at S ss e _ f.0 c.args.card.0 c.args.device.0 f.1
