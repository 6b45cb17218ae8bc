-- A table on the way to a page that is being closed: given back where all its words are 0, and otherwise in use.
use Rattle.std.proofs.Common.{◌≡◌, ℕ, zero, suc, ◌+◌, ◌-◌, ◌*◌, ◌/◌, ◌%◌, ◌<◌, ◌≤◌, true, false, eqb, List, set, Some, None, is_some, ◌≢◌, inl, inr, sym, refl, ap, ◌∙◌, arith}
use Rattle.std.proofs.Math.Path.{ap₂}
use Rattle.std.proofs.lemmas.Bool.{cases_eq, cases_lt, ne_eqb, eq-eqb, not_from_true, not_from_false, both_ways, false_from_ne_true}
use Rattle.walk.specs.Indices.{prefix, index}
use Rattle.walk.specs.Walks.{cell}
use Rattle.tree.specs.declared.place.Table.{Table}
use Rattle.tree.specs.declared.place.Table.TheVariants.{Free}
use Rattle.tree.specs.Places.{table_at, place, table_for}
use Rattle.tree.specs.Layout.{link, word_at, contains, shared, Laid, Fits}
use Rattle.tree.proofs.Standing.{found_stands, some_found, used_within, above_found, stands_found}
use Rattle.tree.proofs.Changing.{Frees, link_word, part_below, freed_directory, freed_none, freed_other}
use Rattle.tree.proofs.Sharing.{contains_shared, shared_page}
use Rattle.tree.proofs.Writing.{laid_freed}
use Rattle.close_pages.specs.Closing.{Closing, IsClosing}
use Rattle.close_pages.proofs.Words.{link_some, link_zero, link_present, Room, table_room}

-- the words of a table t at level a on the way to page p
module _ (a p C T : ℕ) (ts : List Table) (leaf : ℕ → ℕ) (qs ws : List ℕ) (closing : Closing a p C T ts leaf qs ws) (low : 1 ≤ a) (high : a < 4) (t : ℕ) (found : table_for ts a (prefix a p) ≡ Some t) where
  here : table_at ts t ≡ place a (prefix a p)
  here = (found_stands ts a (prefix a p) t found).1

  here_within : t < T
  here_within = used_within C T ts closing.directory t a (prefix a p) here

  -- a page that is open has a word in its table of level 1
  open_word : (q : ℕ) → a ≡ 1 → prefix a q ≡ prefix a p → cell ws t (q % 512) ≡ leaf q
  open_word q e f =
      let g : q / 512 ≡ prefix a p = sym (ap (λ (z : ℕ). prefix z q) e) ∙ f in
      let w : (q / 512) * 512 + q % 512 ≡ q = omega arith in
      closing.laid.words t (q % 512) here_within (omega arith)
      ∙ (ap (λ (x : Table). word_at ts leaf x (q % 512)) (here ∙ ap₂ place e (sym g)) ∙ ap leaf w)

  -- a table that hangs below has a word that leads to it
  link_at : (m j : ℕ) → 1 ≤ m → suc m ≡ a → j / 512 ≡ prefix a p → cell ws t (j % 512) ≡ link (table_for ts m j)
  link_at m j b e f =
      closing.laid.words t (j % 512) here_within (omega arith)
      ∙ (ap (λ (x : Table). word_at ts leaf x (j % 512)) (here ∙ sym (ap₂ place e f)) ∙ link_word ts leaf m j b)

  below_served : (m j : ℕ) → 1 ≤ m → suc m ≡ a → is_some (table_for ts m j) ≡ shared qs m j
  below_served m j b e = closing.served m j b (omega arith) (λ h. absurd (omega arith))

  -- Where each word is 0 ---------------------------------------------------------------------------------

  module _ (blank : (i : ℕ) → i < 512 → cell ws t i ≡ 0) where
    blank_bare : (s m j : ℕ) → table_at ts s ≡ place m j → suc m ≡ a → j / 512 ≡ prefix a p → ⊥
    blank_bare s m j h e f =
        let b = (closing.directory.levels s m j h).0 in
        link_some s (ap link (sym (stands_found C T ts s m j closing.directory h)) ∙ (sym (link_at m j b e f) ∙ blank (j % 512) (omega arith)))

    blank_pages : a ≡ 1 → (i : ℕ) → i < 512 → leaf (prefix a p * 512 + i) ≡ 0
    blank_pages e i b =
        let r : (prefix a p * 512 + i) % 512 ≡ i = omega arith in
        sym (open_word (prefix a p * 512 + i) e (ap (λ (z : ℕ). prefix z (prefix a p * 512 + i)) e ∙ part_below (prefix a p) i b)) ∙ (ap (cell ws t) r ∙ blank i b)

    blank_shares : (q : ℕ) → contains q qs ≡ true → prefix a q ≡ prefix a p → ⊥
    blank_shares q c f = elim (cases_eq a 1) [
      | inl e ↦ (
          let z : leaf q ≡ 0 = sym (open_word q e f) ∙ blank (q % 512) (omega arith) in
          both_ways (contains q qs) (closing.listed q ∙ not_from_true (eqb (leaf q) 0) (eq-eqb (leaf q) 0 z)) c)
      | inr n ↦ (
          let m = a - 1 in
          let b : 1 ≤ m = omega arith in
          let e : suc m ≡ a = omega arith in
          let g : prefix m q / 512 ≡ prefix a p = ap (λ (z : ℕ). prefix z q) e ∙ f in
          both_ways (is_some (table_for ts m (prefix m q)))
          (link_zero (table_for ts m (prefix m q)) (sym (link_at m (prefix m q) b e g) ∙ blank (prefix m q % 512) (omega arith)))
          (below_served m (prefix m q) b e ∙ contains_shared q qs m c))
    ]

    blank_unshared : shared qs a (prefix a p) ≡ false
    blank_unshared = false_from_ne_true (shared qs a (prefix a p)) (λ h. let f = shared_page qs a (prefix a p) h in blank_shares f.0 f.1 f.2)

    frees : Frees C T ts t a (prefix a p)
    frees = record { directory = closing.directory; stands = here; high = high; bare = blank_bare }

    module _ (u : ℕ) (above : table_for ts (suc a) (prefix (suc a) p) ≡ Some u) where
      up : table_at ts u ≡ place (suc a) (prefix a p / 512)
      up = (found_stands ts (suc a) (prefix (suc a) p) u above).1

      given_laid : Laid T (set ts t Free) leaf (set ws (u * 512 + index a p) 0)
      given_laid = laid_freed C T ts leaf ws t a (prefix a p) u frees closing.laid up blank_pages

      given_served : (l k : ℕ) → 1 ≤ l → l ≤ 3 → (suc a ≤ l → k ≢ prefix l p) → is_some (table_for (set ts t Free) l k) ≡ shared qs l k
      given_served l k b c n = elim (cases_eq l a) [
        | inl e ↦ elim (cases_eq k (prefix a p)) [
          | inl f ↦ ap is_some (ap₂ (table_for (set ts t Free)) e f ∙ freed_none C T ts t a (prefix a p) frees) ∙ sym (ap₂ (shared qs) e f ∙ blank_unshared)
          | inr g ↦ ap is_some (freed_other C T ts t a (prefix a p) frees l k (λ _. g)) ∙ closing.served l k b c (λ _ h. g (h ∙ ap (λ (z : ℕ). prefix z p) e))
        ]
        | inr g ↦ ap is_some (freed_other C T ts t a (prefix a p) frees l k (λ h _. g h)) ∙ closing.served l k b c (λ h. n (omega arith))
      ]

      -- The table is free and the word that led to it cleared, and the next level is at stake.
      pub closing_gives : Closing (suc a) p C T (set ts t Free) leaf qs (set ws (u * 512 + index a p) 0)
      closing_gives = record {
        directory = freed_directory C T ts t a (prefix a p) frees;
        laid = given_laid;
        listed = closing.listed;
        served = given_served;
        stands = ap is_some (freed_other C T ts t a (prefix a p) frees (suc a) (prefix (suc a) p) (λ h _. omega arith) ∙ above);
      }

  -- Where a word is not 0 --------------------------------------------------------------------------------

  module _ (i : ℕ) (inside : i < 512) (filled : cell ws t i ≢ 0) where
    at_word : (j : ℕ) → j ≡ prefix a p * 512 + i → cell ws t (j % 512) ≢ 0
    at_word j e z = let r : j % 512 ≡ i = omega arith in filled (ap (cell ws t) (sym r) ∙ z)

    above_word : (j : ℕ) → j ≡ prefix a p * 512 + i → j / 512 ≡ prefix a p
    above_word j e = ap (λ (z : ℕ). z / 512) e ∙ part_below (prefix a p) i inside

    -- it is the word of an open page
    page_filled : a ≡ 1 → (q : ℕ) → q ≡ prefix a p * 512 + i → (contains q qs ≡ true) × (prefix a q ≡ prefix a p)
    page_filled e q h =
        let f : prefix a q ≡ prefix a p = ap (λ (z : ℕ). prefix z q) e ∙ above_word q h in
        (closing.listed q ∙ not_from_false (eqb (leaf q) 0) (ne_eqb (leaf q) 0 (λ z. at_word q h (open_word q e f ∙ z))), f)

    -- or leads to a table, which is there for an open page
    link_filled : (m j : ℕ) → 1 ≤ m → suc m ≡ a → j ≡ prefix a p * 512 + i → (q : ℕ) × (contains q qs ≡ true) × (prefix a q ≡ prefix a p)
    link_filled m j b e h =
        let s = link_present (table_for ts m j) (λ z. at_word j h (link_at m j b e (above_word j h) ∙ z)) in
        let f = shared_page qs m j (sym (below_served m j b e) ∙ s) in
        let g : prefix m f.0 / 512 ≡ prefix a p = ap (λ (z : ℕ). z / 512) f.2 ∙ above_word j h in
        (f.0, f.1, ap (λ (z : ℕ). prefix z f.0) (sym e) ∙ g)

    filled_shares : (q : ℕ) × (contains q qs ≡ true) × (prefix a q ≡ prefix a p)
    filled_shares = elim (cases_eq a 1) [
      | inl e ↦ (let f = page_filled e (prefix a p * 512 + i) refl in (prefix a p * 512 + i, f.0, f.1))
      | inr n ↦ link_filled (a - 1) (prefix a p * 512 + i) (omega arith) (omega arith) refl
    ]

    stands_up : (d : ℕ) → a + d ≤ 4 → (s : ℕ) × (table_for ts (a + d) (prefix (a + d) p) ≡ Some s)
    stands_up zero b = (t, ap (λ (z : ℕ). table_for ts z (prefix z p)) (let e : a + zero ≡ a = omega arith in e) ∙ found)
    stands_up (suc d) b =
        let s = stands_up d (omega arith) in
        let u = above_found C T ts closing.directory (a + d) (prefix (a + d) p) s.0 (omega arith) s.1 in
        (u.0, ap (λ (z : ℕ). table_for ts z (prefix z p)) (let e : a + suc d ≡ suc (a + d) = omega arith in e) ∙ u.1)

    shares_up : (q : ℕ) → prefix a q ≡ prefix a p → (d : ℕ) → prefix (a + d) q ≡ prefix (a + d) p
    shares_up q f zero = let e : a + zero ≡ a = omega arith in ap (λ (z : ℕ). prefix z q) e ∙ (f ∙ sym (ap (λ (z : ℕ). prefix z p) e))
    shares_up q f (suc d) =
        let e : a + suc d ≡ suc (a + d) = omega arith in
        ap (λ (z : ℕ). prefix z q) e ∙ (ap (λ (z : ℕ). z / 512) (shares_up q f d) ∙ sym (ap (λ (z : ℕ). prefix z p) e))

    way_served : (l k : ℕ) → l ≤ 3 → a ≤ l → k ≡ prefix l p → is_some (table_for ts l k) ≡ shared qs l k
    way_served l k b c e =
        let up : a + (l - a) ≡ l = omega arith in
        let s = stands_up (l - a) (omega arith) in
        let q = filled_shares in
        let f : prefix l q.0 ≡ k = ap (λ (z : ℕ). prefix z q.0) (sym up) ∙ (shares_up q.0 q.2 (l - a) ∙ (ap (λ (z : ℕ). prefix z p) up ∙ sym e)) in
        ap is_some (ap (table_for ts l) e ∙ (sym (ap (λ (z : ℕ). table_for ts z (prefix z p)) up) ∙ s.1))
        ∙ sym (ap (shared qs l) (sym f) ∙ contains_shared q.0 qs l q.1)

    -- The table is still in use, and so are those above it: all fits.
    pub closing_ends : Fits C T ts leaf qs ws
    closing_ends = record {
      directory = closing.directory;
      laid = closing.laid;
      listed = closing.listed;
      served = λ l k b c. elim (cases_lt l a) [
        | inl d ↦ closing.served l k b c (λ h. absurd (omega arith))
        | inr d ↦ elim (cases_eq k (prefix l p)) [
          | inl e ↦ way_served l k c d e
          | inr n ↦ closing.served l k b c (λ _. n)
        ]
      ];
    }

-- past level 3 all fits, as a root is there for no page
pub closing_done : (p C T : ℕ) (ts : List Table) (leaf : ℕ → ℕ) (qs ws : List ℕ) → Closing 4 p C T ts leaf qs ws → Fits C T ts leaf qs ws
closing_done p C T ts leaf qs ws closing = record {
  directory = closing.directory;
  laid = closing.laid;
  listed = closing.listed;
  served = λ l k b c. closing.served l k b c (λ h. absurd (omega arith));
}

-- The tables of the level and of the one above are there ------------------------------------------------------

pub closing_above : (a p : ℕ) (ts : List Table) (ws : List ℕ) → IsClosing a p ts ws → a < 4 → table_for ts (suc a) (prefix (suc a) p) ≢ None
closing_above a p ts ws h b e =
    let s = some_found ts a (prefix a p) h.closing.stands in
    let u = above_found h.cards h.tables ts h.closing.directory a (prefix a p) s.0 b s.1 in
    absurd (cc)

pub closing_room : (a p : ℕ) (ts : List Table) (ws : List ℕ) → IsClosing a p ts ws → (l k t : ℕ) → table_for ts l k ≡ Some t → Room ts ws t
closing_room a p ts ws h l k t e = table_room h.cards h.tables ts h.leaf ws l k t h.closing.directory h.closing.laid e
