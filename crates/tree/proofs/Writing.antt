-- What one write of a word does to the words that tables hold.
use Rattle.std.proofs.Common.{◌≡◌, ℕ, suc, ◌+◌, ◌-◌, ◌*◌, ◌/◌, ◌%◌, ◌<◌, ◌⊎◌, inl, inr, List, length, set, None, ◌≢◌, sym, refl, ap, ◌∙◌, eqb, arith}
use Rattle.std.proofs.lemmas.List.{get_or-set_same, get_or-set_other, length-set}
use Rattle.std.proofs.lemmas.Bool.{cases_eq, eq-eqb, ne_eqb, cond-true, cond-false}
use Rattle.entry.specs.Words.{both, word_of}
use Rattle.walk.specs.Walks.{cell}
use Rattle.tree.specs.declared.place.Table.{Table}
use Rattle.tree.specs.declared.place.Table.TheVariants.{Missing, Free, Used}
use Rattle.tree.specs.Places.{table_at, place, table_for, Directory}
use Rattle.tree.specs.Layout.{link, word_at, Laid, put}
use Rattle.tree.proofs.Standing.{place_level, used_within, nothing_found}
use Rattle.tree.proofs.Changing.{at_set_other, part_below, Takes, taken_here, taken_apart, taken_word, taken_link, taken_fresh, Frees, freed_here, freed_word, freed_link}

pub cell_same : (ws : List ℕ) (t i w : ℕ) → t * 512 + i < length ws → cell (set ws (t * 512 + i) w) t i ≡ w
cell_same ws t i w b = get_or-set_same ws (t * 512 + i) w 0 b

pub cell_other : (ws : List ℕ) (t i u j w : ℕ) → i < 512 → j < 512 → (u ≡ t → j ≡ i → ⊥) → cell (set ws (t * 512 + i) w) u j ≡ cell ws u j
cell_other ws t i u j w b c n = get_or-set_other ws (t * 512 + i) (u * 512 + j) w 0 (λ e. let s : u ≡ t = omega arith in n s (omega arith))

-- both numbers are the same, or not
pair_cases : (u t j i : ℕ) → ((u ≡ t) × (j ≡ i)) ⊎ (u ≡ t → j ≡ i → ⊥)
pair_cases u t j i = elim (cases_eq u t) [
  | inl e ↦ elim (cases_eq j i) [ inl f ↦ inl (e, f) | inr f ↦ inr (λ _ g. f g) ]
  | inr e ↦ inr (λ g _. e g)
]

pub put_same : (leaf : ℕ → ℕ) (q w : ℕ) → put leaf q w q ≡ w
unfolding put
put_same leaf q w = cond-true (eqb q q) w (leaf q) (eq-eqb q q refl)

pub put_other : (leaf : ℕ → ℕ) (q w x : ℕ) → x ≢ q → put leaf q w x ≡ leaf x
unfolding put
put_other leaf q w x n = cond-false (eqb x q) w (leaf x) (ne_eqb x q n)

-- a table's words depend on the pages' words only at level 1
pub word_leaf : (ts : List Table) (leaf leaf' : ℕ → ℕ) (x : Table) (j : ℕ) → ((k : ℕ) → x ≡ place 1 k → leaf' (k * 512 + j) ≡ leaf (k * 512 + j)) → word_at ts leaf' x j ≡ word_at ts leaf x j
word_leaf ts leaf leaf' Missing j h = refl
word_leaf ts leaf leaf' Free j h = refl
word_leaf ts leaf leaf' (Used p) j h = elim (cases_eq p.level 1) [
  | inl e ↦ rw (eq-eqb p.level 1 e) (h p.prefix (ap (λ (z : ℕ). place z p.prefix) e))
  | inr e ↦ rw (ne_eqb p.level 1 e)
]

module _ (C T : ℕ) (ts : List Table) (leaf : ℕ → ℕ) (ws : List ℕ) where
  -- each word of a table in use is one of the list
  pub word_below : (t l k i : ℕ) → Directory C T ts → Laid T ts leaf ws → table_at ts t ≡ place l k → i < 512 → t * 512 + i < length ws
  word_below t l k i d laid h b = let e = laid.size in let w = used_within C T ts d t l k h in omega arith

  -- the word of a page is written into its table of level 1
  pub laid_page : (t k i w : ℕ) → Directory C T ts → Laid T ts leaf ws → table_at ts t ≡ place 1 k → i < 512 → Laid T ts (put leaf (k * 512 + i) w) (set ws (t * 512 + i) w)
  laid_page t k i w d laid h b = record {
    size = let e = length-set ws (t * 512 + i) w in let s = laid.size in omega arith;
    words = λ u j bu bj. elim (pair_cases u t j i) [
      | inl e ↦ (
          let x : table_at ts u ≡ place 1 k = ap (table_at ts) e.0 ∙ h in
          ap (λ (z : ℕ). cell (set ws (t * 512 + i) w) z j) e.0 ∙ ap (cell (set ws (t * 512 + i) w) t) e.1 ∙ cell_same ws t i w (word_below t 1 k i d laid h b)
          ∙ sym (ap (λ (z : Table). word_at ts (put leaf (k * 512 + i) w) z j) x ∙ ap (λ (z : ℕ). put leaf (k * 512 + i) w (k * 512 + z)) e.1 ∙ put_same leaf (k * 512 + i) w))
      | inr n ↦ cell_other ws t i u j w b bj n ∙ laid.words u j bu bj ∙ sym (word_leaf ts leaf (put leaf (k * 512 + i) w) (table_at ts u) j (λ m x.
          put_other leaf (k * 512 + i) w (m * 512 + j) (λ s.
          let same : m ≡ k = omega arith in
          n (d.once u t 1 k (x ∙ ap (place 1) same) h) (omega arith))))
    ];
  }

  -- a free table is taken, and the word above leads to it
  pub laid_taken : (u l k a : ℕ) → Takes C T ts u l k → Laid T ts leaf ws → table_at ts a ≡ place (suc l) (k / 512) → (l ≡ 1 → (i : ℕ) → i < 512 → leaf (k * 512 + i) ≡ 0)
      → Laid T (set ts u (place l k)) leaf (set ws (a * 512 + k % 512) (word_of both u))
  laid_taken u l k a takes laid h z =
      let ts' : List Table = set ts u (place l k) in
      let ws' : List ℕ = set ws (a * 512 + k % 512) (word_of both u) in
      let below : k % 512 < 512 = omega arith in
      let apart : a ≢ u = taken_apart C T ts u l k takes a (suc l) (k / 512) h in
      record {
        size = let e = length-set ws (a * 512 + k % 512) (word_of both u) in let s = laid.size in omega arith;
        words = λ t i bt bi. elim (cases_eq t u) [
          | inl e ↦ (
              let old : cell ws t i ≡ 0 = laid.words t i bt bi ∙ ap (λ (v : Table). word_at ts leaf v i) (ap (table_at ts) e ∙ takes.free) in
              let new : table_at ts' t ≡ place l k = ap (table_at ts') e ∙ taken_here C T ts u l k takes in
              cell_other ws a (k % 512) t i (word_of both u) below bi (λ g _. apart (sym g ∙ e)) ∙ old
              ∙ sym (ap (λ (v : Table). word_at ts' leaf v i) new ∙ taken_fresh C T ts u l k takes leaf i bi (λ one. z one i bi)))
          | inr e ↦ (
              let new : table_at ts' t ≡ table_at ts t = at_set_other ts u t (place l k) e in
              elim (pair_cases t a i (k % 512)) [
                | inl g ↦ ap (λ (v : ℕ). cell ws' v i) g.0 ∙ ap (cell ws' a) g.1 ∙ cell_same ws a (k % 512) (word_of both u) (word_below a (suc l) (k / 512) (k % 512) takes.directory laid h below)
                    ∙ sym (ap (λ (v : Table). word_at ts' leaf v i) (new ∙ ap (table_at ts) g.0 ∙ h) ∙ ap (word_at ts' leaf (place (suc l) (k / 512))) g.1 ∙ taken_link C T ts u l k takes leaf)
                | inr n ↦ cell_other ws a (k % 512) t i (word_of both u) below bi n ∙ laid.words t i bt bi
                    ∙ sym (ap (λ (v : Table). word_at ts' leaf v i) new ∙ taken_word C T ts u l k takes leaf (table_at ts t) i bi (λ p s. n (takes.directory.once t a (suc l) (k / 512) p h) s))
              ])
        ];
      }

  -- a table with no word is freed, and the word above leads to it no more
  pub laid_freed : (u l k a : ℕ) → Frees C T ts u l k → Laid T ts leaf ws → table_at ts a ≡ place (suc l) (k / 512) → (l ≡ 1 → (i : ℕ) → i < 512 → leaf (k * 512 + i) ≡ 0)
      → Laid T (set ts u Free) leaf (set ws (a * 512 + k % 512) 0)
  laid_freed u l k a frees laid h z =
      let ts' : List Table = set ts u Free in
      let ws' : List ℕ = set ws (a * 512 + k % 512) 0 in
      let below : k % 512 < 512 = omega arith in
      let apart : a ≢ u = λ e. (let p : place (suc l) (k / 512) ≡ place l k = sym h ∙ ap (table_at ts) e ∙ frees.stands in let q = place_level (suc l) (k / 512) l k p in omega arith) in
      record {
        size = let e = length-set ws (a * 512 + k % 512) 0 in let s = laid.size in omega arith;
        words = λ t i bt bi. elim (cases_eq t u) [
          | inl e ↦ (
              let old : cell ws t i ≡ 0 = laid.words t i bt bi ∙ ap (λ (v : Table). word_at ts leaf v i) (ap (table_at ts) e ∙ frees.stands) ∙ bare_word u l k frees z i bi in
              cell_other ws a (k % 512) t i 0 below bi (λ g _. apart (sym g ∙ e)) ∙ old
              ∙ sym (ap (λ (v : Table). word_at ts' leaf v i) (ap (table_at ts') e ∙ freed_here C T ts u l k frees)))
          | inr e ↦ (
              let new : table_at ts' t ≡ table_at ts t = at_set_other ts u t Free e in
              elim (pair_cases t a i (k % 512)) [
                | inl g ↦ ap (λ (v : ℕ). cell ws' v i) g.0 ∙ ap (cell ws' a) g.1 ∙ cell_same ws a (k % 512) 0 (word_below a (suc l) (k / 512) (k % 512) frees.directory laid h below)
                    ∙ sym (ap (λ (v : Table). word_at ts' leaf v i) (new ∙ ap (table_at ts) g.0 ∙ h) ∙ ap (word_at ts' leaf (place (suc l) (k / 512))) g.1 ∙ freed_link C T ts u l k frees leaf)
                | inr n ↦ cell_other ws a (k % 512) t i 0 below bi n ∙ laid.words t i bt bi
                    ∙ sym (ap (λ (v : Table). word_at ts' leaf v i) new ∙ freed_word C T ts u l k frees leaf (table_at ts t) i bi (λ p s. n (frees.directory.once t a (suc l) (k / 512) p h) s))
              ])
        ];
      }
    where
      bare_word : (u l k : ℕ) → Frees C T ts u l k → (l ≡ 1 → (i : ℕ) → i < 512 → leaf (k * 512 + i) ≡ 0) → (i : ℕ) → i < 512 → word_at ts leaf (place l k) i ≡ 0
      bare_word u l k frees z i b = elim (cases_eq l 1) [
        | inl e ↦ cond-true (eqb l 1) (leaf (k * 512 + i)) (link (table_for ts (l - 1) (k * 512 + i))) (eq-eqb l 1 e) ∙ z e i b
        | inr e ↦ (
            let lo = (frees.directory.levels u l k frees.stands).0 in
            let none : table_for ts (l - 1) (k * 512 + i) ≡ None = nothing_found ts (l - 1) (k * 512 + i) (λ t p. frees.bare t (l - 1) (k * 512 + i) p (omega arith) (part_below k i b)) in
            cond-false (eqb l 1) (leaf (k * 512 + i)) (link (table_for ts (l - 1) (k * 512 + i))) (ne_eqb l 1 e) ∙ ap link none)
      ]
