-- The call that a script's item asks for.
use Rattle.std.specs.Prelude.{List, ℕ}
use Rattle.units.specs.declared.mapping.Sync.TheVariants.{ForCpu, ForCard}
use Rattle.meaning.specs.Calls.{Call, map as map_call, unmap as unmap_call, sync, cpu_read as cpu_read_call, cpu_write as cpu_write_call, card_read as card_read_call, card_write as card_write_call}
use Rattle.script.specs.Items.{Item, map, unmap, sync_for_cpu, sync_for_card, cpu_write, cpu_read, card_write, card_read}

-- with answer buffer t
abbrev pub call_for : Item → List ℕ → Call
call_for (map r) t = map_call r
call_for (unmap c d v n) t = unmap_call c.0 d v.0 n
call_for (sync_for_cpu c v) t = sync ForCpu c.0 v.0
call_for (sync_for_card c v) t = sync ForCard c.0 v.0
call_for (cpu_write a b) t = cpu_write_call a b
call_for (cpu_read a n) t = cpu_read_call a n t
call_for (card_write c v b) t = card_write_call c.0 v.0 b
call_for (card_read c v n) t = card_read_call c.0 v.0 n t
