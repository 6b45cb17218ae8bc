-- What the words of a table tell of what hangs below it.
use Rattle.std.proofs.Common.{◌≡◌, ℕ, suc, ◌+◌, ◌-◌, ◌*◌, ◌<◌, ◌≤◌, true, false, eqb, List, [], ◌∷◌, drop, length, get_or, Some, None, Option, is_some, ◌≢◌, inl, inr, sym, refl, ◌∙◌, arith}
use Rattle.std.proofs.lemmas.List.{get_or-take, get_or-drop, length-take, length-drop}
use Rattle.std.proofs.lemmas.List.Folds.{list_all_at}
use Rattle.std.specs.List.{list_all, slice_range}
use Rattle.std.proofs.lemmas.Bool.{cases_Bool, eqb-true, eqb-false, and_cases, both_ways}
use Rattle.walk.specs.Walks.{cell}
use Rattle.tree.specs.declared.place.Table.{Table}
use Rattle.tree.specs.Places.{table_for, Directory}
use Rattle.tree.specs.Layout.{link, Laid}
use Rattle.tree.proofs.Standing.{found_stands, found_within}
use Rattle.close_pages.specs.Closing.{is_blank}

-- the link to a table is not 0
pub link_some : (u : ℕ) → link (Some u) ≢ 0
link_some u e = absurd (omega arith)

pub link_zero : (o : Option ℕ) → link o ≡ 0 → is_some o ≡ false
link_zero None e = refl
link_zero (Some u) e = absurd (link_some u e)

pub link_present : (o : Option ℕ) → link o ≢ 0 → is_some o ≡ true
link_present None n = absurd (n refl)
link_present (Some u) n = refl

-- A table all of whose words are 0 --------------------------------------------------------------------------

word_inside : (ws : List ℕ) (t i : ℕ) → i < 512 → get_or (slice_range ws (t * 512) (t * 512 + 512)) i 0 ≡ cell ws t i
word_inside ws t i b = get_or-take (t * 512 + 512 - t * 512) (drop (t * 512) ws) i 0 (omega arith) ∙ get_or-drop (t * 512) ws i 0

words_inside : (ws : List ℕ) (t : ℕ) → t * 512 + 512 ≤ length ws → length (slice_range ws (t * 512) (t * 512 + 512)) ≡ 512
words_inside ws t b = omega (arith, length-take (t * 512 + 512 - t * 512) (drop (t * 512) ws), length-drop (t * 512) ws)

pub blank_words : (ws : List ℕ) (t : ℕ) → t * 512 + 512 ≤ length ws → is_blank ws t ≡ true → (i : ℕ) → i < 512 → cell ws t i ≡ 0
blank_words ws t b h i c =
    let e = words_inside ws t b in
    let xs = slice_range ws (t * 512) (t * 512 + 512) in
    sym (word_inside ws t i c) ∙ elim (cases_Bool (eqb (get_or xs i 0) 0)) [
      | inl z ↦ eqb-true (get_or xs i 0) 0 z
      | inr n ↦ absurd (both_ways (is_blank ws t) (list_all_at (λ w. eqb w 0) xs i 0 (omega arith) n) h)
    ]

one_filled : (xs : List ℕ) → list_all (λ w. eqb w 0) xs ≡ false → (i : ℕ) × (i < length xs) × (get_or xs i 0 ≢ 0)
one_filled [] h = absurd (cc)
one_filled (x ∷ xs) h = elim (and_cases (eqb x 0) (list_all (λ w. eqb w 0) xs) h) [
  | inl e ↦ (0, omega arith, eqb-false x 0 e)
  | inr e ↦ (let f = one_filled xs e in (suc f.0, (let b = f.1 in omega arith), f.2))
]

pub filled_word : (ws : List ℕ) (t : ℕ) → t * 512 + 512 ≤ length ws → is_blank ws t ≡ false → (i : ℕ) × (i < 512) × (cell ws t i ≢ 0)
filled_word ws t b h =
    let e = words_inside ws t b in
    let f = one_filled (slice_range ws (t * 512) (t * 512 + 512)) h in
    let c : f.0 < 512 = (let d = f.1 in omega arith) in
    (f.0, c, λ z. f.2 (word_inside ws t f.0 c ∙ z))

-- where a table that a search finds has its words
pub record Room (ts : List Table) (ws : List ℕ) (t : ℕ) : Type 0 where
  pub few : t < 64
  pub words : t * 512 + 512 ≤ length ws
  pub listed : t < length ts

pub table_room : (C T : ℕ) (ts : List Table) (leaf : ℕ → ℕ) (ws : List ℕ) (l k t : ℕ) → Directory C T ts → Laid T ts leaf ws → table_for ts l k ≡ Some t → Room ts ws t
table_room C T ts leaf ws l k t D L e =
    let b = found_within C T ts D l k t e in
    let f = D.few in
    let s = L.size in
    record { few = omega arith; words = omega arith; listed = (found_stands ts l k t e).0 }
