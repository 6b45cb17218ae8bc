-- The tables fit what is open through every change of it.
use Rattle.std.proofs.Common.{◌≡◌, ℕ, ◌+◌, ◌-◌, ◌*◌, true, cond, not, List, ◌++◌, ◌==◌, sym, refl, ap, ◌∙◌}
use Rattle.units.specs.declared.mapping.Holder.{Holder}
use Rattle.units.specs.declared.mapping.Mapping.{Mapping}
use Rattle.meaning.specs.Mappings.{In, key, page_count, starts, insert, remove, turn}
use Rattle.meaning.specs.Worlds.{Setup}
use Rattle.pages.specs.Lawful.{Ranged, lawful}
use Rattle.pages.proofs.Facts.{lawful_remove, lawful_turn}
use Rattle.tree.specs.declared.place.Table.{Table}
use Rattle.tree.specs.declared.place.Table.TheVariants.{Missing, Free, Used}
use Rattle.tree.specs.Places.{table_at, table_for}
use Rattle.tree.specs.Layout.{link, word_at, contains, put_span, without_span, Fits}
use Rattle.tree.specs.Counts.{pages_from}
use Rattle.tree.proofs.Sharing.{shared_same}
use Rattle.table_meaning.specs.Opened.{leaf_of, pages_of}
use Rattle.table_meaning.proofs.Leaves.{word_in, short_of, listed, leaf_insert, leaf_remove, leaf_turn}

same_word : (ts : List Table) (leaf leaf' : ℕ → ℕ) → ((q : ℕ) → leaf q ≡ leaf' q) → (x : Table) (i : ℕ) → word_at ts leaf x i ≡ word_at ts leaf' x i
same_word ts leaf leaf' h Missing i = refl
same_word ts leaf leaf' h Free i = refl
same_word ts leaf leaf' h (Used p) i = ap (λ (z : ℕ). cond (p.level == 1) z (link (table_for ts (p.level - 1) (p.prefix * 512 + i)))) (h (p.prefix * 512 + i))

-- tables that fit pages fit the same pages with the same words
pub fits_same : (C T : ℕ) (ts : List Table) (leaf leaf' : ℕ → ℕ) (qs rs ws : List ℕ) → Fits C T ts leaf qs ws
    → ((q : ℕ) → leaf q ≡ leaf' q) → ((q : ℕ) → contains q rs ≡ not (leaf' q == 0)) → Fits C T ts leaf' rs ws
fits_same C T ts leaf leaf' qs rs ws f h listed = record {
  directory = f.directory;
  laid = record { size = f.laid.size; words = λ t i b l. f.laid.words t i b l ∙ same_word ts leaf leaf' h (table_at ts t) i };
  listed = listed;
  served = λ l k low high. f.served l k low high ∙ shared_same qs rs (λ q. f.listed q ∙ ap (λ (z : ℕ). not (z == 0)) (h q) ∙ sym (listed q)) l k;
}

module _ (S : Setup) (C T : ℕ) (ts : List Table) (o : List Mapping) (ws : List ℕ) (ranged : Ranged S) where
  pub fits_insert : (m : Mapping) → lawful S (insert m o) ≡ true → Fits C T ts (put_span (leaf_of o) (key m) (page_count m) (word_in m)) (pages_from (key m) (page_count m) ++ pages_of o) ws
      → Fits C T ts (leaf_of (insert m o)) (pages_of (insert m o)) ws
  fits_insert m e f = fits_same C T ts _ (leaf_of (insert m o)) _ (pages_of (insert m o)) ws f (leaf_insert S m o ranged e) (listed (insert m o) (short_of S (insert m o) ranged e))

  pub fits_remove : (m : Mapping) (c v : ℕ) → lawful S o ≡ true → In m o → starts c v m ≡ true
      → Fits C T ts (put_span (leaf_of o) (key m) (page_count m) (λ j. 0)) (without_span (key m) (page_count m) (pages_of o)) ws
      → Fits C T ts (leaf_of (remove c v o)) (pages_of (remove c v o)) ws
  fits_remove m c v e i s f = fits_same C T ts _ (leaf_of (remove c v o)) _ (pages_of (remove c v o)) ws f (leaf_remove S m o ranged e c v i s)
      (listed (remove c v o) (short_of S (remove c v o) ranged (lawful_remove S c v o e)))

  pub fits_turn : (h : Holder) (c v : ℕ) → lawful S o ≡ true → Fits C T ts (leaf_of o) (pages_of o) ws
      → Fits C T ts (leaf_of (turn h c v o)) (pages_of (turn h c v o)) ws
  fits_turn h c v e f = fits_same C T ts (leaf_of o) (leaf_of (turn h c v o)) (pages_of o) (pages_of (turn h c v o)) ws f (λ q. sym (leaf_turn h c v o q))
      (listed (turn h c v o) (short_of S (turn h c v o) ranged (lawful_turn S h c v o e)))
