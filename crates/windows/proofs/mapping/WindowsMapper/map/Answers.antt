use Rattle.std.proofs.Common.{sym, refl, ap, ◌∙◌}
use Rattle.pages.specs.Lawful.{lawful}
use Rattle.window_table.specs.Choosing.{setup_of}
use Rattle.slots.specs.Slots.{opened_of}
use Rattle.window_table.proofs.Laws.{choice_own}
use Rattle.windows.proofs.Calls.{opened_call, still_lawful, one_more}
use Rattle.windows.proofs.mapping.WindowsMapper.map.Goals as goal

pub invariant_of-self : goal.invariant_of-self
invariant_of-self c =
    let s = c.args.self.now in
    let admit = c.in_ok-admit.ensures in
    let e = sym c.in_ok-placement.ensures in
    let p = c.in_ok-placement.placement in
    let opens = one_more s c.args.memory.now c.args.request p admit e c.new_mapping.result (opened_of c.open.new.self.slots) c.new_mapping.ensures c.open.ensures.opens in
    record { ranged = s.ranged; kept = ap (lawful (setup_of s.geometry)) opens ∙ still_lawful s c.args.memory.now c.args.request p admit e }

pub returns : goal.returns
returns c =
    let s = c.args.self.now in
    let admit = c.in_ok-admit.ensures in
    let e = sym c.in_ok-placement.ensures in
    let p = c.in_ok-placement.placement in
    let opens = one_more s c.args.memory.now c.args.request p admit e c.new_mapping.result (opened_of c.open.new.self.slots) c.new_mapping.ensures c.open.ensures.opens in
    opened_call s _ c.args.memory.now refl c.args.request p admit e (choice_own (setup_of s.geometry) (opened_of s.table.slots) c.args.request p e) opens (record { mapping = _; became = c.open.ensures.first })
