-- Walks of the words reach the pages of the open mappings.
use Rattle.std.proofs.Common.{◌≡◌, ℕ, ◌+◌, ◌^◌, ◌<◌, min, List, Some, None, Option, nat_lt, refl, ap, ◌∙◌, arith}
use Rattle.std.proofs.lemmas.Bool.{cond-true, lt-ltb}
use Rattle.units.specs.declared.mapping.Mapping.{Mapping}
use Rattle.units.specs.declared.mapping.Reach.{Reach}
use Rattle.units.specs.declared.number.Geometry.{Geometry}
use Rattle.units.specs.Geometry.{last_page}
use Rattle.meaning.specs.Mappings.{reach_of}
use Rattle.meaning.specs.Worlds.{last_of}
use Rattle.meaning.proofs.Facts.{page_fact}
use Rattle.meaning.proofs.Reaching.{through}
use Rattle.walk.specs.Told.{with_frame}
use Rattle.walk.specs.Walks.{reach_in}
use Rattle.tree.specs.declared.place.Table.{Table}
use Rattle.tree.specs.Layout.{Fits}
use Rattle.table_meaning.specs.Choosing.{setup_of, TablesPossible}
use Rattle.table_meaning.specs.Opened.{leaf_of, pages_of}
use Rattle.table_meaning.proofs.Exact.{reached_proper, tables_reach}
use Rattle.table_meaning.proofs.Laws.{tables_disjoint, tables_bounds}
use Rattle.page_list.specs.declared.list.PageReach.{PageReach}
use Rattle.page_list.specs.Lists.{Listed, AllListed}
use Rattle.page_list.proofs.Whole.{all_listed}

module _ (g : Geometry) (T : ℕ) (ts : List Table) (o : List Mapping) (ws : List ℕ) (h : TablesPossible (setup_of g T) o)
    (f : Fits g.cards T ts (leaf_of o) (pages_of o) ws) (c : ℕ) where
  framed : (p : ℕ) (r : Option Reach) → reach_of o c p ≡ r → with_frame r ≡ r
  framed p None e = refl
  framed p (Some s) e =
      let small = (reached_proper (setup_of g T) o h.0 c p s e).small in cond-true (nat_lt s.frame.0 (2 ^ 32)) (Some s) None (lt-ltb s.frame.0 (2 ^ 32) small)

  same : (p : ℕ) → with_frame (reach_in g.cards ws c p) ≡ reach_of o c p
  same p = ap with_frame (tables_reach (setup_of g T) T ts o ws h.0 f c p) ∙ framed p (reach_of o c p) refl

  below : (p : ℕ) (s : Reach) → reach_of o c p ≡ Some s → p < min (last_page g c + 1) (2 ^ 36)
  below p s e =
      let t = through o c p s e in
      let k = page_fact c p t.mapping t.page in
      let given = (tables_disjoint (setup_of g T) o h).pages_given t.mapping t.is_open p k.1 in
      let b = tables_bounds (setup_of g T) o h in
      let card = (b.each t.mapping t.is_open).card in
      let last = b.lasts t.mapping.card.0 card in
      let here : last_of (setup_of g T) t.mapping.card.0 ≡ last_page g c = ap (last_of (setup_of g T)) k.0 in
      omega arith

  -- the list of the pages up to the card's last
  pub open_listed : (last : ℕ) (xs : List PageReach) → last ≡ last_page g c → Listed (λ p. with_frame (reach_in g.cards ws c p)) (min (last + 1) (2 ^ 36)) xs
      → AllListed (reach_of o c) xs
  open_listed last xs e l = all_listed _ (reach_of o c) _ xs l same (λ p s i. let b = below p s i in omega arith)
