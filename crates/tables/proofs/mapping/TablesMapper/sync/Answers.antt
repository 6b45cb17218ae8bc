use Rattle.std.proofs.Common.{refl, sym, ap, subst, List, ◌∙◌}
use Rattle.units.specs.declared.mapping.Holder.{Holder}
use Rattle.units.specs.declared.mapping.Mapping.{Mapping}
use Rattle.meaning.specs.Mappings.{turn}
use Rattle.pages.specs.Lawful.{lawful}
use Rattle.pages.proofs.Facts.{lawful_turn}
use Rattle.slots.specs.Slots.{passed}
use Rattle.cache.specs.Held.{held}
use Rattle.tree.specs.Layout.{Fits}
use Rattle.table_meaning.specs.Coherent.{Coherent}
use Rattle.table_meaning.specs.Opened.{leaf_of, pages_of}
use Rattle.table_meaning.proofs.Fitting.{fits_turn}
use Rattle.table_meaning.proofs.Coherence.{coherent_turn}
use Rattle.tables.proofs.Calls.{setup_in, open_in, turned_call}
use Rattle.tables.proofs.mapping.TablesMapper.sync.Goals as goal

pub invariant_of-self : goal.invariant_of-self
invariant_of-self c =
    let s = c.args.self.now in
    let o = open_in s in
    let S = setup_in s in
    let h = c.holder.result in
    let k = c.args.card.0 in
    let v = c.args.device.0 in
    let e = c.turn.ensures.turns S s.possible.0.1 in
    record {
      possible = ((s.possible.0.0, ap (lawful S) e ∙ lawful_turn S h k v o s.possible.0.1), s.possible.1);
      fits = subst (λ (z : List Mapping). Fits s.geometry.cards s.count s.tables (leaf_of z) (pages_of z) s.words.now) (sym e) (fits_turn S s.geometry.cards s.count s.tables o s.words.now s.possible.0.0 h k v s.possible.0.1 s.fits);
      coherent = subst (Coherent (held s.cache)) (sym e) (coherent_turn (held s.cache) o s.coherent h k v);
      idle = s.idle;
    }

pub returns : goal.returns
returns c =
    let s = c.args.self.now in
    let e = c.turn.ensures.turns (setup_in s) s.possible.0.1 in
    turned_call s _ c.args.memory.now refl c.args.call c.args.card.0 c.args.device.0 c.in_ok-turning.field-0 c.in_ok-turning.ensures.0 c.in_ok-turning.ensures.1
    (e ∙ ap (λ (h : Holder). turn h c.args.card.0 c.args.device.0 (open_in s)) c.holder.ensures)
    (record { tables = refl; words = refl; records = c.turn.ensures.first ∙ ap (λ (h : Holder). passed h c.args.card.0 c.args.device.0 s.records.slots) c.holder.ensures; cache = refl; queue = refl })
