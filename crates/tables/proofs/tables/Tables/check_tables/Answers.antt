use Rattle.std.proofs.Common.{ℕ, ap, ◌∙◌}
use Rattle.units.specs.declared.fault.Fault.{Fault}
use Rattle.units.specs.declared.fault.FaultKind.TheVariants.{NoTables}
use Rattle.slots.specs.Slots.{opened_of}
use Rattle.table_meaning.specs.Choosing.{setup_of}
use Rattle.table_meaning.proofs.Room.{enough_room, short_room}
use Rattle.tables.proofs.tables.Tables.check_tables.Goals as goal

pub returns-then-lacking-free_count : goal.returns-then-lacking-free_count
returns-then-lacking-free_count c =
    let s = c.args.self.now in
    enough_room (setup_of s.geometry s.count) s.tables (opened_of s.records.slots) s.words.now s.fits c.args.request c.args.page.0 c.lacking-lacking.result c.page_number-first.result c.span.result c.free_count.result
    c.lacking-lacking.ensures c.page_number-first.ensures c.span.ensures.value c.free_count.ensures c.if-lacking-free_count.true

pub returns-else-lacking-free_count : goal.returns-else-lacking-free_count
returns-else-lacking-free_count c =
    let s = c.args.self.now in
    let r = short_room (setup_of s.geometry s.count) s.tables (opened_of s.records.slots) s.words.now s.fits c.args.request c.args.page.0 c.lacking-lacking.result c.page_number-first.result c.span.result c.free_count.result
    c.lacking-lacking.ensures c.page_number-first.ensures c.span.ensures.value c.free_count.ensures c.if-lacking-free_count.false in
    (r.0, c.at.ensures ∙ ap (λ (n : ℕ). let f : Fault = record { kind = NoTables; layer = 0; place = n } in f) r.1)
