use Rattle.std.proofs.Common.{refl, ap, ◌∙◌}
use Rattle.units.specs.declared.mapping.Holder.{Holder}
use Rattle.meaning.specs.Mappings.{turn}
use Rattle.window_table.specs.Choosing.{setup_of}
use Rattle.slots.specs.Slots.{opened_of, passed}
use Rattle.windows.proofs.Calls.{turned_call}
use Rattle.windows.proofs.mapping.WindowsMapper.sync.Goals as goal

pub returns : goal.returns
returns c =
    let s = c.args.self.now in
    let o = opened_of s.table.slots in
    let e = c.turn.ensures.turns (setup_of s.geometry) s.kept in
    turned_call s _ c.args.memory.now refl c.args.call c.args.card.0 c.args.device.0 c.in_ok-turning.field-0 c.in_ok-turning.ensures.0 c.in_ok-turning.ensures.1
    (e ∙ ap (λ (h : Holder). turn h c.args.card.0 c.args.device.0 o) c.holder.ensures) (c.turn.ensures.first ∙ ap (λ (h : Holder). passed h c.args.card.0 c.args.device.0 s.table.slots) c.holder.ensures)
