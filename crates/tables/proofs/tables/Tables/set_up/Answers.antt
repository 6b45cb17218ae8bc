use Rattle.std.proofs.Common.{sym, subst, List}
use Rattle.cache.specs.declared.cache.Translation.{Translation}
use Rattle.slots.specs.Slots.{opened_of}
use Rattle.table_meaning.specs.Coherent.{Coherent}
use Rattle.table_meaning.proofs.Granting.{setup_possible, setup_fits}
use Rattle.table_meaning.proofs.Coherence.{coherent_none}
use Rattle.tables.proofs.tables.Tables.set_up.Goals as goal

pub invariant_of-result : goal.invariant_of-result
invariant_of-result c =
    let g = c.args.geometry in
    let T = c.args.count in
    let ws = c.args.words.now in
    let o = opened_of c.new.result.slots in
    record {
      possible = setup_possible g c.granted-numbers.result T c.granted_tables-count.result o ws c.granted-numbers.ensures c.granted_tables-count.ensures c.new.ensures;
      fits = setup_fits g c.granted-numbers.result T c.granted_tables-count.result o ws c.granted-numbers.ensures c.granted_tables-count.ensures c.new.ensures c.first_tables.result c.clear.new.words c.first_tables.ensures c.clear.ensures;
      coherent = subst (λ (xs : List Translation). Coherent xs o) (sym c.new-2.ensures) (coherent_none o);
      idle = c.new-3.ensures;
    }
