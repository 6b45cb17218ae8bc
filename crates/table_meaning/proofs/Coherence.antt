-- The translation cache agrees with what is open through every change of both.
use Rattle.std.proofs.Common.{◌≡◌, ℕ, true, not, List, [], Some, sym, ◌∙◌, inl, inr}
use Rattle.std.specs.List.{All}
use Rattle.std.proofs.lemmas.Bool.{cases_Bool, not-true}
use Rattle.std.proofs.lemmas.List.Elements.{All-nil, filter_passes}
use Rattle.units.specs.declared.mapping.Holder.{Holder}
use Rattle.units.specs.declared.mapping.Mapping.{Mapping}
use Rattle.units.specs.declared.mapping.Reach.{Reach}
use Rattle.cache.specs.declared.cache.Translation.{Translation}
use Rattle.cache.specs.Entries.{added, cached, in_span, without_span}
use Rattle.cache.proofs.Entries.{span_gone, all_added, all_without_span, cached_holds}
use Rattle.meaning.specs.Mappings.{In, on_page, starts, first_page, page_count, insert, remove, turn, reach_of}
use Rattle.meaning.specs.Worlds.{Setup}
use Rattle.meaning.proofs.Facts.{page_fact}
use Rattle.meaning.proofs.Lists.{reach_insert_other}
use Rattle.meaning.proofs.Reaching.{through}
use Rattle.pages.specs.Lawful.{lawful}
use Rattle.pages.proofs.Facts.{lawful_uninsert, share_none}
use Rattle.table_meaning.specs.Coherent.{Coherent, Unnamed}
use Rattle.table_meaning.proofs.Leaves.{reach_remove, reach_turn}

pub coherent_none : (o : List Mapping) → Coherent [] o
coherent_none o = All-nil (λ (x : Translation). reach_of o x.card.0 x.page.0 ≡ Some x.reach)

module _ (xs : List Translation) (o : List Mapping) (h : Coherent xs o) where
  abbrev Agrees : Translation → Type 0
  Agrees x = reach_of o x.card.0 x.page.0 ≡ Some x.reach

  -- an entry that is found is what its card reaches
  pub coherent_found : (c p : ℕ) (s : Reach) → cached xs c p ≡ Some s → reach_of o c p ≡ Some s
  coherent_found c p s e = cached_holds Agrees xs c p s h e

  pub coherent_added : (x : Translation) → reach_of o x.card.0 x.page.0 ≡ Some x.reach → Coherent (added xs x) o
  coherent_added x e = all_added Agrees xs h x e

  -- what opens takes free pages, so that no entry was there
  pub coherent_insert : (S : Setup) (m : Mapping) → lawful S (insert m o) ≡ true → Coherent xs (insert m o)
  coherent_insert S m e k d l =
      let r = h k d l in
      let x = Rattle.std.specs.Prelude.slice_index_or xs k d in
      let t = through o x.card.0 x.page.0 x.reach r in
      let u = lawful_uninsert S m o e in
      reach_insert_other x.card.0 x.page.0 m o (elim (cases_Bool (on_page x.card.0 x.page.0 m)) [
        | inl here ↦ (let a = page_fact x.card.0 x.page.0 m here in
            let b = page_fact x.card.0 x.page.0 t.mapping t.page in
            absurd (share_none m t.mapping (u.apart t.mapping t.is_open) (a.0 ∙ sym b.0) x.page.0 a.1 b.1))
        | inr other ↦ other
      ]) ∙ r

  pub coherent_turn : (t : Holder) (c v : ℕ) → Coherent xs (turn t c v o)
  coherent_turn t c v k d l = reach_turn t c v _ _ o ∙ h k d l

  -- entries beside those of a mapping that is closed
  pub coherent_remove : (S : Setup) (m : Mapping) (c v : ℕ) → lawful S o ≡ true → In m o → starts c v m ≡ true
      → Coherent (without_span m.card.0 (first_page m) (page_count m) xs) (remove c v o)
  unfolding without_span
  coherent_remove S m c v e i s k d l =
      let r = all_without_span Agrees xs h m.card.0 (first_page m) (page_count m) k d l in
      let beside = filter_passes (λ (x : Translation). not (in_span m.card.0 (first_page m) (page_count m) x.card.0 x.page.0)) xs k d l in
      reach_remove S m o e c v _ _ i s (not-true _ beside) ∙ r

-- and none of a mapping whose pages were invalidated
pub unnamed_after : (m : Mapping) (xs : List Translation) → Unnamed (without_span m.card.0 (first_page m) (page_count m) xs) m
unnamed_after m xs c p e = span_gone m.card.0 (first_page m) (page_count m) c p xs e
