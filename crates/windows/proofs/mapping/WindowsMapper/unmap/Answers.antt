use Rattle.std.proofs.Common.{refl}
use Rattle.window_table.specs.Choosing.{setup_of}
use Rattle.windows.proofs.Calls.{closed_call}
use Rattle.windows.proofs.mapping.WindowsMapper.unmap.Goals as goal

pub returns : goal.returns
returns c =
    let s = c.args.self.now in
    closed_call s _ c.args.memory.now refl c.args.request.card.0 c.args.request.direction c.args.request.device.0 c.args.request.length c.in_ok-closing.field-0 c.in_ok-closing.ensures.0 c.in_ok-closing.ensures.1
    (c.close.ensures.closes (setup_of s.geometry) s.kept) c.close.ensures.first
