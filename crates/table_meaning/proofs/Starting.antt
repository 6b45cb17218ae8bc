-- Tables at set-up fit that nothing is open.
use Rattle.std.proofs.Common.{◌≡◌, ℕ, ◌+◌, ◌*◌, ◌<◌, ◌≤◌, ◌≢◌, cond, List, [], length, is_some, None, ltb, sym, refl, ap, ◌∙◌, inl, inr, arith}
use Rattle.std.proofs.lemmas.Bool.{cases_lt, cond-true, cond-false, lt-ltb, le-ltb}
use Rattle.walk.specs.Walks.{cell}
use Rattle.tree.specs.declared.place.Table.{Table}
use Rattle.tree.specs.declared.place.Table.TheVariants.{Missing, Free}
use Rattle.tree.specs.Places.{table_at, place, table_for, Directory}
use Rattle.tree.specs.Layout.{link, word_at, Fits}
use Rattle.tree.proofs.Standing.{place_level, place_prefix, missing_place, free_place, free_missing, nothing_found}
use Rattle.table_meaning.specs.Opened.{leaf_of, pages_of}
use Rattle.table_meaning.specs.Starting.{Started, Cleared}

module _ (C T : ℕ) (ts : List Table) (s : Started C T ts) (enough : C ≤ T) (few : T ≤ 64) where
  root_at : (t : ℕ) → t < C → table_at ts t ≡ place 4 t
  root_at t b =
      let within : t < T = omega arith in
      s t ∙ cond-true (ltb t T) (cond (ltb t C) (place 4 t) Free) Missing (lt-ltb t T within) ∙ cond-true (ltb t C) (place 4 t) Free (lt-ltb t C b)

  free_at : (t : ℕ) → C ≤ t → t < T → table_at ts t ≡ Free
  free_at t b within = s t ∙ cond-true (ltb t T) (cond (ltb t C) (place 4 t) Free) Missing (lt-ltb t T within) ∙ cond-false (ltb t C) (place 4 t) Free (le-ltb t C b)

  past_at : (t : ℕ) → T ≤ t → table_at ts t ≡ Missing
  past_at t b = s t ∙ cond-false (ltb t T) (cond (ltb t C) (place 4 t) Free) Missing (le-ltb t T b)

  -- only roots stand
  stands_root : (t l k : ℕ) → table_at ts t ≡ place l k → (t < C) × (l ≡ 4) × (k ≡ t)
  stands_root t l k e = elim (cases_lt t T) [
    | inr p ↦ absurd (missing_place l k (sym (past_at t p) ∙ e))
    | inl w ↦ elim (cases_lt t C) [
      | inr f ↦ absurd (free_place l k (sym (free_at t f w) ∙ e))
      | inl b ↦ (let r = sym e ∙ root_at t b in (b, place_level l k 4 t r, place_prefix l k 4 t r))
    ]
  ]

  there : (t : ℕ) → t < T → table_at ts t ≢ Missing
  there t w m = elim (cases_lt t C) [
    | inl b ↦ missing_place 4 t (sym m ∙ root_at t b)
    | inr f ↦ free_missing (sym (free_at t f w) ∙ m)
  ]

  started_directory : Directory C T ts
  started_directory = record {
    there = there;
    past = past_at;
    few = few;
    roots = root_at;
    levels = λ t l k e. let r = (stands_root t l k e).1 in (omega arith, omega arith);
    only_roots = λ t k e. let r = stands_root t 4 k e in (r.0, r.2);
    once = λ t u l k e g. let r = (stands_root t l k e).2 in let q = (stands_root u l k g).2 in omega arith;
    hung = λ t l k e b. let r = (stands_root t l k e).1 in absurd (omega arith);
  }

  none_below : (l k : ℕ) → l ≤ 3 → table_for ts l k ≡ None
  none_below l k b = nothing_found ts l k (λ t e. let r = (stands_root t l k e).1 in omega arith)

  module _ (ws : List ℕ) (size : T * 512 ≤ length ws) (cleared : Cleared T ws) where
    blank : (t i : ℕ) → t < T → i < 512 → cell ws t i ≡ word_at ts (leaf_of []) (table_at ts t) i
    blank t i w b =
        let here : t * 512 + i < T * 512 = omega arith in
        let zero_here : cell ws t i ≡ 0 = cleared (t * 512 + i) here in
        zero_here ∙ elim (cases_lt t C) [
          | inl c ↦ sym (ap (λ (z : Table). word_at ts (leaf_of []) z i) (root_at t c) ∙ ap link (none_below 3 (t * 512 + i) (omega arith)))
          | inr f ↦ sym (ap (λ (z : Table). word_at ts (leaf_of []) z i) (free_at t f w))
        ]

    pub started_fits : Fits C T ts (leaf_of []) (pages_of []) ws
    unfolding leaf_of pages_of Rattle.meaning.specs.Mappings.reach_of
    started_fits = record {
      directory = started_directory;
      laid = record { size = size; words = blank };
      listed = λ q. refl;
      served = λ l k low high. ap is_some (none_below l k high);
    }
