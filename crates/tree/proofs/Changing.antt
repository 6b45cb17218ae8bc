-- What changes in a directory where a free table is taken, and where a used one becomes free.
use Rattle.std.proofs.Common.{◌≡◌, ℕ, suc, ◌+◌, ◌-◌, ◌*◌, ◌/◌, ◌%◌, ◌<◌, ◌≤◌, ◌⊎◌, inl, inr, List, length, set, Some, None, ◌≢◌, sym, refl, ap, ◌∙◌, eqb, arith}
use Rattle.std.proofs.lemmas.List.{get_or-set_same, get_or-set_other}
use Rattle.std.proofs.lemmas.Bool.{cases_eq, eq-eqb, ne_eqb, cond-true, cond-false}
use Rattle.std.proofs.lemmas.Nat.{div-mul-add}
use Rattle.entry.specs.Words.{both, word_of}
use Rattle.tree.specs.declared.place.Table.{Table}
use Rattle.tree.specs.declared.place.Table.TheVariants.{Missing, Free, Used}
use Rattle.tree.specs.Places.{table_at, place, table_for, Directory}
use Rattle.tree.specs.Layout.{link, word_at}
use Rattle.tree.proofs.Standing.{place_level, place_prefix, missing_place, free_place, free_missing, used_below, free_below, found_stands, none_stands, search_ends, nothing_found, stands_found, used_within, free_within, below_none, above_stands, stands_some}

pub at_set : (ts : List Table) (u : ℕ) (x : Table) → u < length ts → table_at (set ts u x) u ≡ x
at_set ts u x b = get_or-set_same ts u x Missing b

pub at_set_other : (ts : List Table) (u t : ℕ) (x : Table) → t ≢ u → table_at (set ts u x) t ≡ table_at ts t
at_set_other ts u t x n = get_or-set_other ts u t x Missing n

pub part_below : (k i : ℕ) → i < 512 → (k * 512 + i) / 512 ≡ k
part_below k i b = div-mul-add k 512 i b

-- words of which table may change where one at place l k comes or goes: only the one above it, at k % 512
same_word : (ts ts' : List Table) (l k : ℕ) → 1 ≤ l → ((m j : ℕ) → (m ≡ l → j ≡ k → ⊥) → table_for ts' m j ≡ table_for ts m j)
    → (leaf : ℕ → ℕ) (x : Table) (i : ℕ) → i < 512 → (x ≡ place (suc l) (k / 512) → i ≡ k % 512 → ⊥) → word_at ts' leaf x i ≡ word_at ts leaf x i
same_word ts ts' l k low same leaf Missing i b n = refl
same_word ts ts' l k low same leaf Free i b n = refl
same_word ts ts' l k low same leaf (Used p) i b n = elim (cases_eq p.level 1) [
  | inl e ↦ rw (eq-eqb p.level 1 e)
  | inr e ↦ (
      let q = part_below p.prefix i b in
      let f : table_for ts' (p.level - 1) (p.prefix * 512 + i) ≡ table_for ts (p.level - 1) (p.prefix * 512 + i) = same (p.level - 1) (p.prefix * 512 + i) (λ g h.
      let up : p.level ≡ suc l = omega arith in
      let here : p.prefix ≡ k / 512 = sym q ∙ ap (λ (z : ℕ). z / 512) h in
      n (ap (λ (z : ℕ). place z p.prefix) up ∙ ap (place (suc l)) here) (omega arith)) in
      rw (ne_eqb p.level 1 e) (ap link f))
]

-- the word above place l k that leads to it
pub link_word : (ts : List Table) (leaf : ℕ → ℕ) (l k : ℕ) → 1 ≤ l → word_at ts leaf (place (suc l) (k / 512)) (k % 512) ≡ link (table_for ts l k)
link_word ts leaf l k low =
    let e : suc l - 1 ≡ l = omega arith in
    let f : k / 512 * 512 + k % 512 ≡ k = omega arith in
    cond-false (eqb (suc l) 1) (leaf (k / 512 * 512 + k % 512)) (link (table_for ts (suc l - 1) (k / 512 * 512 + k % 512))) (ne_eqb (suc l) 1 (λ h. omega arith))
    ∙ ap (λ (z : ℕ). link (table_for ts z (k / 512 * 512 + k % 512))) e ∙ ap (λ (z : ℕ). link (table_for ts l z)) f

-- Taking -------------------------------------------------------------------------------------------------

-- table u is free and may be taken for place l k: none stands there, and one stands above
pub record Takes (C T : ℕ) (ts : List Table) (u l k : ℕ) : Type 0 where
  pub directory : Directory C T ts
  pub free : table_at ts u ≡ Free
  pub low : 1 ≤ l
  pub high : l < 4
  pub vacant : table_for ts l k ≡ None
  pub above : (a : ℕ) × (table_at ts a ≡ place (suc l) (k / 512))

module _ (C T : ℕ) (ts : List Table) (u l k : ℕ) (takes : Takes C T ts u l k) where
  pub taken_here : table_at (set ts u (place l k)) u ≡ place l k
  taken_here = at_set ts u (place l k) (free_below ts u takes.free)

  pub taken_apart : (t m j : ℕ) → table_at ts t ≡ place m j → t ≢ u
  taken_apart t m j h e = free_place m j (sym takes.free ∙ ap (table_at ts) (sym e) ∙ h)

  pub taken_stays : (t m j : ℕ) → table_at ts t ≡ place m j → table_at (set ts u (place l k)) t ≡ place m j
  taken_stays t m j h = at_set_other ts u t (place l k) (taken_apart t m j h) ∙ h

  -- what stands then, stood before, or is the table taken
  pub taken_before : (t m j : ℕ) → table_at (set ts u (place l k)) t ≡ place m j → (table_at ts t ≡ place m j) ⊎ ((t ≡ u) × (m ≡ l) × (j ≡ k))
  taken_before t m j h = elim (cases_eq t u) [
    | inl e ↦ (
        let p : place l k ≡ place m j = sym taken_here ∙ ap (table_at (set ts u (place l k))) (sym e) ∙ h in
        inr (e, sym (place_level l k m j p), sym (place_prefix l k m j p)))
    | inr e ↦ inl (sym (at_set_other ts u t (place l k) e) ∙ h)
  ]

  pub taken_directory : Directory C T (set ts u (place l k))
  taken_directory = let d = takes.directory in record {
    there = λ t b. elim (cases_eq t u) [
      | inl e ↦ (λ m. missing_place l k (sym m ∙ ap (table_at (set ts u (place l k))) e ∙ taken_here))
      | inr e ↦ (λ m. d.there t b (sym (at_set_other ts u t (place l k) e) ∙ m))
    ];
    past = λ t b. let w = free_within C T ts d u takes.free in at_set_other ts u t (place l k) (λ e. omega arith) ∙ d.past t b;
    few = d.few;
    roots = λ c b. taken_stays c 4 c (d.roots c b);
    levels = λ t m j h. elim (taken_before t m j h) [
      | inl s ↦ d.levels t m j s
      | inr s ↦ (let lo = takes.low in let hi = takes.high in let e = s.1 in (omega arith, omega arith))
    ];
    only_roots = λ t j h. elim (taken_before t 4 j h) [
      | inl s ↦ d.only_roots t j s
      | inr s ↦ (let hi = takes.high in let e = s.1 in absurd (omega arith))
    ];
    once = λ t v m j h i. elim (taken_before t m j h) [
      | inl s ↦ elim (taken_before v m j i) [
        | inl r ↦ d.once t v m j s r
        | inr r ↦ absurd (none_stands ts l k takes.vacant t (s ∙ ap (λ (z : ℕ). place z j) r.1 ∙ ap (place l) r.2))
      ]
      | inr s ↦ elim (taken_before v m j i) [
        | inl r ↦ absurd (none_stands ts l k takes.vacant v (r ∙ ap (λ (z : ℕ). place z j) s.1 ∙ ap (place l) s.2))
        | inr r ↦ s.0 ∙ sym r.0
      ]
    ];
    hung = λ t m j h b. elim (taken_before t m j h) [
      | inl s ↦ (let a = above_stands C T ts d t m j s b in stands_some (set ts u (place l k)) a.0 (suc m) (j / 512) (taken_stays a.0 (suc m) (j / 512) a.1))
      | inr s ↦ (
          let a = takes.above in
          stands_some (set ts u (place l k)) a.0 (suc m) (j / 512) (taken_stays a.0 (suc l) (k / 512) a.1 ∙ ap (λ (z : ℕ). place (suc z) (k / 512)) (sym s.1) ∙ ap (λ (z : ℕ). place (suc m) (z / 512)) (sym s.2)))
    ];
  }

  pub taken_found : table_for (set ts u (place l k)) l k ≡ Some u
  taken_found = stands_found C T (set ts u (place l k)) u l k taken_directory taken_here

  pub taken_other : (m j : ℕ) → (m ≡ l → j ≡ k → ⊥) → table_for (set ts u (place l k)) m j ≡ table_for ts m j
  taken_other m j n = elim (search_ends ts m j) [
    | inl s ↦ stands_found C T (set ts u (place l k)) s.0 m j taken_directory (taken_stays s.0 m j (found_stands ts m j s.0 s.1).1) ∙ sym s.1
    | inr e ↦ nothing_found (set ts u (place l k)) m j (λ t h. elim (taken_before t m j h) [
      | inl s ↦ none_stands ts m j e t s
      | inr s ↦ n s.1 s.2
    ]) ∙ sym e
  ]

  -- the words of all tables but the one taken, and but the word that leads to it
  pub taken_word : (leaf : ℕ → ℕ) (x : Table) (i : ℕ) → i < 512 → (x ≡ place (suc l) (k / 512) → i ≡ k % 512 → ⊥) → word_at (set ts u (place l k)) leaf x i ≡ word_at ts leaf x i
  taken_word leaf x i b n = same_word ts (set ts u (place l k)) l k takes.low taken_other leaf x i b n

  -- the word that leads to the table taken
  pub taken_link : (leaf : ℕ → ℕ) → word_at (set ts u (place l k)) leaf (place (suc l) (k / 512)) (k % 512) ≡ word_of both u
  taken_link leaf = link_word (set ts u (place l k)) leaf l k takes.low ∙ ap link taken_found

  -- the words of the table taken: nothing hangs below it yet
  pub taken_fresh : (leaf : ℕ → ℕ) (i : ℕ) → i < 512 → (l ≡ 1 → leaf (k * 512 + i) ≡ 0) → word_at (set ts u (place l k)) leaf (place l k) i ≡ 0
  taken_fresh leaf i b z = elim (cases_eq l 1) [
    | inl e ↦ cond-true (eqb l 1) (leaf (k * 512 + i)) (link (table_for (set ts u (place l k)) (l - 1) (k * 512 + i))) (eq-eqb l 1 e) ∙ z e
    | inr e ↦ (
        let lo = takes.low in
        let hi = takes.high in
        let up : suc (l - 1) ≡ l = omega arith in
        let v : table_for ts (suc (l - 1)) ((k * 512 + i) / 512) ≡ None = ap (λ (z : ℕ). table_for ts z ((k * 512 + i) / 512)) up ∙ ap (table_for ts l) (part_below k i b) ∙ takes.vacant in
        let f : table_for (set ts u (place l k)) (l - 1) (k * 512 + i) ≡ None = taken_other (l - 1) (k * 512 + i) (λ g h. omega arith) ∙ below_none C T ts takes.directory (l - 1) (k * 512 + i) (omega arith) v in
        cond-false (eqb l 1) (leaf (k * 512 + i)) (link (table_for (set ts u (place l k)) (l - 1) (k * 512 + i))) (ne_eqb l 1 e) ∙ ap link f)
  ]

-- Freeing ------------------------------------------------------------------------------------------------

-- table u, at place l k below a root, may become free: none hangs below it
pub record Frees (C T : ℕ) (ts : List Table) (u l k : ℕ) : Type 0 where
  pub directory : Directory C T ts
  pub stands : table_at ts u ≡ place l k
  pub high : l < 4
  pub bare : (t m j : ℕ) → table_at ts t ≡ place m j → suc m ≡ l → j / 512 ≡ k → ⊥

module _ (C T : ℕ) (ts : List Table) (u l k : ℕ) (frees : Frees C T ts u l k) where
  pub freed_here : table_at (set ts u Free) u ≡ Free
  freed_here = at_set ts u Free (used_below ts u l k frees.stands)

  pub freed_stays : (t m j : ℕ) → table_at ts t ≡ place m j → t ≢ u → table_at (set ts u Free) t ≡ place m j
  freed_stays t m j h n = at_set_other ts u t Free n ∙ h

  -- what stands then, stood before, and is not the table freed
  pub freed_before : (t m j : ℕ) → table_at (set ts u Free) t ≡ place m j → (table_at ts t ≡ place m j) × (t ≢ u)
  freed_before t m j h = elim (cases_eq t u) [
    | inl e ↦ absurd (free_place m j (sym freed_here ∙ ap (table_at (set ts u Free)) (sym e) ∙ h))
    | inr e ↦ (sym (at_set_other ts u t Free e) ∙ h, e)
  ]

  freed_apart : (t m j : ℕ) → table_at ts t ≡ place m j → (m ≡ l → j ≡ k → ⊥) → t ≢ u
  freed_apart t m j h n e =
      let p : place m j ≡ place l k = sym h ∙ ap (table_at ts) e ∙ frees.stands in
      n (place_level m j l k p) (place_prefix m j l k p)

  pub freed_directory : Directory C T (set ts u Free)
  freed_directory = let d = frees.directory in record {
    there = λ t b. elim (cases_eq t u) [
      | inl e ↦ (λ m. free_missing (sym freed_here ∙ ap (table_at (set ts u Free)) (sym e) ∙ m))
      | inr e ↦ (λ m. d.there t b (sym (at_set_other ts u t Free e) ∙ m))
    ];
    past = λ t b. let w = used_within C T ts d u l k frees.stands in at_set_other ts u t Free (λ e. omega arith) ∙ d.past t b;
    few = d.few;
    roots = λ c b. freed_stays c 4 c (d.roots c b) (freed_apart c 4 c (d.roots c b) (λ e f. let hi = frees.high in omega arith));
    levels = λ t m j h. d.levels t m j (freed_before t m j h).0;
    only_roots = λ t j h. d.only_roots t j (freed_before t 4 j h).0;
    once = λ t v m j h i. d.once t v m j (freed_before t m j h).0 (freed_before v m j i).0;
    hung = λ t m j h b.
        let s = (freed_before t m j h).0 in
        let a = above_stands C T ts d t m j s b in
        stands_some (set ts u Free) a.0 (suc m) (j / 512) (freed_stays a.0 (suc m) (j / 512) a.1 (freed_apart a.0 (suc m) (j / 512) a.1 (frees.bare t m j s)));
  }

  pub freed_none : table_for (set ts u Free) l k ≡ None
  freed_none = nothing_found (set ts u Free) l k (λ t h. let s = freed_before t l k h in s.1 (frees.directory.once t u l k s.0 frees.stands))

  pub freed_other : (m j : ℕ) → (m ≡ l → j ≡ k → ⊥) → table_for (set ts u Free) m j ≡ table_for ts m j
  freed_other m j n = elim (search_ends ts m j) [
    | inl s ↦ (
        let h = (found_stands ts m j s.0 s.1).1 in
        stands_found C T (set ts u Free) s.0 m j freed_directory (freed_stays s.0 m j h (freed_apart s.0 m j h n)) ∙ sym s.1)
    | inr e ↦ nothing_found (set ts u Free) m j (λ t h. none_stands ts m j e t (freed_before t m j h).0) ∙ sym e
  ]

  -- the words of all tables, but the word that led to the one freed
  pub freed_word : (leaf : ℕ → ℕ) (x : Table) (i : ℕ) → i < 512 → (x ≡ place (suc l) (k / 512) → i ≡ k % 512 → ⊥) → word_at (set ts u Free) leaf x i ≡ word_at ts leaf x i
  freed_word leaf x i b n = same_word ts (set ts u Free) l k (frees.directory.levels u l k frees.stands).0 freed_other leaf x i b n

  -- the word that led to it
  pub freed_link : (leaf : ℕ → ℕ) → word_at (set ts u Free) leaf (place (suc l) (k / 512)) (k % 512) ≡ 0
  freed_link leaf = link_word (set ts u Free) leaf l k (frees.directory.levels u l k frees.stands).0 ∙ ap link freed_none
