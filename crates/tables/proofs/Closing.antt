-- What unmap closes: its pages are open in the tables, and are then named by no entry of the cache.
use Rattle.std.proofs.Common.{◌≡◌, ℕ, ◌+◌, ◌^◌, ◌<◌, ◌≤◌, true, List, Some, sym, ap, ◌∙◌, subst, arith}
use Rattle.std.proofs.lemmas.Bool.Decides.{nat_tests}
use Rattle.units.specs.declared.mapping.Mapping.{Mapping}
use Rattle.meaning.specs.Mappings.{In, key, first_page, page_count, starts, find, remove}
use Rattle.meaning.proofs.Lists.{find_is_in, find_starts}
use Rattle.pages.specs.Lawful.{lawful}
use Rattle.pages.proofs.Facts.{Fitting, lawful_facts, lawful_remove}
use Rattle.cache.specs.declared.cache.Translation.{Translation}
use Rattle.cache.specs.Entries.{without_span}
use Rattle.tree.specs.declared.place.Table.{Table}
use Rattle.tree.specs.Layout.{Fits}
use Rattle.close_pages.specs.Closing.{AreOpen, Closed}
use Rattle.table_meaning.specs.Coherent.{Coherent, Unnamed}
use Rattle.table_meaning.specs.Opened.{leaf_of, pages_of}
use Rattle.table_meaning.proofs.Leaves.{Short, short_of, leaf_at, word_some}
use Rattle.table_meaning.proofs.Fitting.{fits_remove}
use Rattle.table_meaning.proofs.Coherence.{coherent_remove, unnamed_after}
use Rattle.cache.specs.Held.{held}
use Rattle.mapper.specs.Tasks.{closes}
use Rattle.tables.specs.Left.{Kept, Shrunk, TablesLeft}
use Rattle.tables.specs.Left as left
use Rattle.tables.specs.declared.tables.Tables.{Tables}
use Rattle.tables.proofs.Calls.{setup_in, open_in}

-- what unmap leaves, of the one mapping that is found
pub closes_left : (C T : ℕ) (x y : Kept) (c v : ℕ) (m : Mapping) → find (left.open_in x) c v ≡ Some m → Shrunk C T x y m → TablesLeft C T x (closes c v) y
closes_left C T x y c v m f h k e = let same : m ≡ k = cc in subst (λ (z : Mapping). Shrunk C T x y z) same h

module _ (w : Tables) (c v : ℕ) (m : Mapping) (found : find (open_in w) c v ≡ Some m) where
  is_open : In m (open_in w)
  is_open = find_is_in c v (open_in w) m found

  law : lawful (setup_in w) (open_in w) ≡ true
  law = w.possible.0.1

  fitting : Fitting (setup_in w) m
  fitting = (lawful_facts (setup_in w) (open_in w) law).each m is_open

  short : Short m
  short = short_of (setup_in w) (open_in w) w.possible.0.0 law m is_open

  own_start : starts m.card.0 m.device.0 m ≡ true
  own_start = grind (arith, nat_tests)

  pub closed_page : first_page m < 2 ^ 36
  closed_page = let s = short in let some = fitting.some in let pages : 0 < page_count m = omega arith in omega arith

  pub closed_few : page_count m ≤ 8
  closed_few = fitting.short

  -- the mapping that is found starts where it was asked for
  pub same_removed : remove m.card.0 m.device.0 (open_in w) ≡ remove c v (open_in w)
  same_removed =
      let s = find_starts c v (open_in w) m found in
      let card : m.card.0 ≡ c = grind (arith, nat_tests) in
      let device : m.device.0 ≡ v = grind (arith, nat_tests) in
      ap (λ (z : ℕ). remove z m.device.0 (open_in w)) card ∙ ap (λ (z : ℕ). remove c z (open_in w)) device

  pub closed_lawful : lawful (setup_in w) (remove m.card.0 m.device.0 (open_in w)) ≡ true
  closed_lawful = lawful_remove (setup_in w) m.card.0 m.device.0 (open_in w) law

  each_open : (j : ℕ) → j < page_count m → leaf_of (open_in w) (key m + j) ≡ 0 → ⊥
  each_open j b e = word_some m j (sym (leaf_at (setup_in w) m (open_in w) w.possible.0.0 law is_open j b) ∙ e)

  -- with first page and count as the code has them
  module _ (q n : ℕ) (first : q ≡ key m) (long : n ≡ page_count m) where
    pub pages_open : (j : ℕ) → j < n → leaf_of (open_in w) (q + j) ≡ 0 → ⊥
    pages_open j b e = each_open j (omega arith) (ap (λ (z : ℕ). leaf_of (open_in w) (z + j)) (sym first) ∙ e)

    pub span_open : AreOpen w.tables w.words.now q n
    span_open = record { cards = w.geometry.cards; tables = w.count; leaf = leaf_of (open_in w); pages = pages_of (open_in w); fits = w.fits; each = pages_open }

    -- what the tables fit once the span is closed and its record is free
    pub closed_fits : (ts : List Table) (ws : List ℕ) (o : List Mapping) → Closed w.tables w.words.now ts ws q n → o ≡ remove m.card.0 m.device.0 (open_in w)
        → Fits w.geometry.cards w.count ts (leaf_of o) (pages_of o) ws
    closed_fits ts ws o h same =
        let f = h w.geometry.cards w.count (leaf_of (open_in w)) (pages_of (open_in w)) w.fits pages_open in
        rw same (fits_remove (setup_in w) w.geometry.cards w.count ts (open_in w) ws w.possible.0.0 m m.card.0 m.device.0 law is_open own_start (rw (← first, ← long) f))

  -- the entries that are left once the span was invalidated
  module _ (xs : List Translation) (p n : ℕ) (page : p ≡ first_page m) (long : n ≡ page_count m) (left : xs ≡ without_span m.card.0 p n (held w.cache)) where
    pub entries_left : xs ≡ without_span m.card.0 (first_page m) (page_count m) (held w.cache)
    entries_left = left ∙ ap (λ (z : ℕ). without_span m.card.0 z n (held w.cache)) page ∙ ap (λ (z : ℕ). without_span m.card.0 (first_page m) z (held w.cache)) long

    pub closed_unnamed : Unnamed xs m
    closed_unnamed = subst (λ (z : List Translation). Unnamed z m) (sym entries_left) (unnamed_after m (held w.cache))

    pub closed_coherent : (o : List Mapping) → o ≡ remove m.card.0 m.device.0 (open_in w) → Coherent xs o
    closed_coherent o same = rw (same, entries_left) (coherent_remove (held w.cache) (open_in w) w.coherent (setup_in w) m m.card.0 m.device.0 law is_open own_start)
