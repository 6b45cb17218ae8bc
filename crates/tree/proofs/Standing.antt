-- Which table stands where, as a search of the tables tells it.
use Rattle.std.proofs.Common.{◌≡◌, ℕ, suc, ◌/◌, ◌<◌, ◌≤◌, ◌⊎◌, inl, inr, true, false, List, length, Some, None, is_some, ◌≢◌, sym, refl, ap, ◌∙◌, eqb, arith}
use Rattle.std.specs.List.{position_or_len}
use Rattle.std.proofs.lemmas.List.{get_or_past}
use Rattle.std.proofs.lemmas.List.Sums.{fails_before_first, passes_at_first}
use Rattle.std.proofs.lemmas.Bool.{cases_lt, eqb-true, eq-eqb, and_parts, and_from, lt-ltb, le-ltb, both_ways}
use Rattle.tree.specs.declared.place.Table.{Table}
use Rattle.tree.specs.declared.place.Table.TheVariants.{Missing, Free, Used}
use Rattle.tree.specs.Places.{table_at, place, stands, is_free, table_for, Directory}

-- One table ----------------------------------------------------------------------------------------------

pub stands_place : (l k : ℕ) (x : Table) → stands l k x ≡ true → x ≡ place l k
stands_place l k Missing e = absurd (cc)
stands_place l k Free e = absurd (cc)
stands_place l k (Used p) e =
    let b = and_parts (eqb p.level l) (eqb p.prefix k) e in
    let h : p.level ≡ l = eqb-true p.level l b.0 in
    let i : p.prefix ≡ k = eqb-true p.prefix k b.1 in
    ap (λ (z : ℕ). place z p.prefix) h ∙ ap (place l) i

pub place_stands : (l k : ℕ) → stands l k (place l k) ≡ true
place_stands l k = and_from (eqb l l) (eqb k k) (eq-eqb l l refl) (eq-eqb k k refl)

abbrev level_in : Table → ℕ
level_in Missing = 0
level_in Free = 0
level_in (Used p) = p.level

abbrev prefix_in : Table → ℕ
prefix_in Missing = 0
prefix_in Free = 0
prefix_in (Used p) = p.prefix

pub place_level : (l k m j : ℕ) → place l k ≡ place m j → l ≡ m
place_level l k m j e = ap level_in e

pub place_prefix : (l k m j : ℕ) → place l k ≡ place m j → k ≡ j
place_prefix l k m j e = ap prefix_in e

pub missing_place : (l k : ℕ) → Missing ≢ place l k
missing_place l k e = absurd (cc)

pub free_place : (l k : ℕ) → Free ≢ place l k
free_place l k e = absurd (cc)

pub free_missing : Free ≢ Missing
free_missing e = absurd (cc)

pub free_is : (x : Table) → is_free x ≡ true → x ≡ Free
free_is Missing e = absurd (cc)
free_is Free e = refl
free_is (Used p) e = absurd (cc)

-- Looking for a place ------------------------------------------------------------------------------------

-- a table that is not missing is one of the list
pub here_below : (ts : List Table) (t : ℕ) → table_at ts t ≢ Missing → t < length ts
here_below ts t h = elim (cases_lt t (length ts)) [ inl l ↦ l | inr p ↦ absurd (h (get_or_past ts t Missing p)) ]

pub used_below : (ts : List Table) (t l k : ℕ) → table_at ts t ≡ place l k → t < length ts
used_below ts t l k e = here_below ts t (λ m. missing_place l k (sym m ∙ e))

pub free_below : (ts : List Table) (t : ℕ) → table_at ts t ≡ Free → t < length ts
free_below ts t e = here_below ts t (λ m. free_missing (sym e ∙ m))

-- the table that a search finds stands there
pub found_stands : (ts : List Table) (l k t : ℕ) → table_for ts l k ≡ Some t → (t < length ts) × (table_at ts t ≡ place l k)
unfolding table_for
found_stands ts l k t e =
    let p = position_or_len (stands l k) ts in
    elim (cases_lt p (length ts)) [
      | inl b ↦ (
          let f : table_for ts l k ≡ Some p = rw (lt-ltb p (length ts) b) in
          let s : p ≡ t = cc in
          let h : table_at ts p ≡ place l k = stands_place l k (table_at ts p) (passes_at_first (stands l k) ts Missing b) in
          (omega arith, ap (table_at ts) (sym s) ∙ h))
      | inr b ↦ (let f : table_for ts l k ≡ None = rw (le-ltb p (length ts) b) in absurd (cc))
    ]

-- no table stands where a search finds none
pub none_stands : (ts : List Table) (l k : ℕ) → table_for ts l k ≡ None → (t : ℕ) → table_at ts t ≢ place l k
unfolding table_for
none_stands ts l k e t h =
    let p = position_or_len (stands l k) ts in
    let b = used_below ts t l k h in
    elim (cases_lt p (length ts)) [
      | inl i ↦ (let f : table_for ts l k ≡ Some p = rw (lt-ltb p (length ts) i) in absurd (cc))
      | inr i ↦ both_ways (stands l k (table_at ts t)) (fails_before_first (stands l k) ts t Missing (omega arith)) (ap (stands l k) h ∙ place_stands l k)
    ]

-- a search finds a table or none
pub search_ends : (ts : List Table) (l k : ℕ) → ((t : ℕ) × (table_for ts l k ≡ Some t)) ⊎ (table_for ts l k ≡ None)
unfolding table_for
search_ends ts l k = elim (cases_lt (position_or_len (stands l k) ts) (length ts)) [
  | inl b ↦ inl (position_or_len (stands l k) ts, rw (lt-ltb (position_or_len (stands l k) ts) (length ts) b))
  | inr b ↦ inr (rw (le-ltb (position_or_len (stands l k) ts) (length ts) b))
]

-- where none stands, a search finds none
pub nothing_found : (ts : List Table) (l k : ℕ) → ((t : ℕ) → table_at ts t ≢ place l k) → table_for ts l k ≡ None
nothing_found ts l k h = elim (search_ends ts l k) [ inl s ↦ absurd (h s.0 (found_stands ts l k s.0 s.1).1) | inr e ↦ e ]

-- a table that stands in a directory is the one that a search finds
pub stands_found : (C T : ℕ) (ts : List Table) (t l k : ℕ) → Directory C T ts → table_at ts t ≡ place l k → table_for ts l k ≡ Some t
stands_found C T ts t l k d h = elim (search_ends ts l k) [
  | inl s ↦ s.1 ∙ ap Some (d.once s.0 t l k (found_stands ts l k s.0 s.1).1 h)
  | inr e ↦ absurd (none_stands ts l k e t h)
]

pub some_found : (ts : List Table) (l k : ℕ) → is_some (table_for ts l k) ≡ true → (t : ℕ) × (table_for ts l k ≡ Some t)
some_found ts l k e = elim (search_ends ts l k) [ inl s ↦ s | inr n ↦ absurd (cc) ]

pub none_found : (ts : List Table) (l k : ℕ) → is_some (table_for ts l k) ≡ false → table_for ts l k ≡ None
none_found ts l k e = elim (search_ends ts l k) [ inl s ↦ absurd (cc) | inr n ↦ n ]

-- where a table stands, a search finds one
pub stands_some : (ts : List Table) (t l k : ℕ) → table_at ts t ≡ place l k → is_some (table_for ts l k) ≡ true
stands_some ts t l k h = elim (search_ends ts l k) [ inl s ↦ ap is_some s.1 | inr e ↦ absurd (none_stands ts l k e t h) ]

-- A directory --------------------------------------------------------------------------------------------

module _ (C T : ℕ) (ts : List Table) (d : Directory C T ts) where
  -- a table in use is one of the T
  pub used_within : (t l k : ℕ) → table_at ts t ≡ place l k → t < T
  used_within t l k h = elim (cases_lt t T) [ inl b ↦ b | inr b ↦ absurd (missing_place l k (sym (d.past t b) ∙ h)) ]

  pub free_within : (t : ℕ) → table_at ts t ≡ Free → t < T
  free_within t h = elim (cases_lt t T) [ inl b ↦ b | inr b ↦ absurd (free_missing (sym h ∙ d.past t b)) ]

  -- each of the T tables is one of the list
  pub within_below : (t : ℕ) → t < T → t < length ts
  within_below t b = here_below ts t (d.there t b)

  pub found_within : (l k t : ℕ) → table_for ts l k ≡ Some t → t < T
  found_within l k t e = used_within t l k (found_stands ts l k t e).1

  -- card c's root is table c
  pub root_found : (c : ℕ) → c < C → table_for ts 4 c ≡ Some c
  root_found c b = stands_found C T ts c 4 c d (d.roots c b)

  pub cards_within : (c : ℕ) → c < C → c < T
  cards_within c b = used_within c 4 c (d.roots c b)

  pub cards_few : C ≤ 64
  cards_few = elim (cases_lt 64 C) [ inl b ↦ (let h = cards_within 64 b in let f = d.few in omega arith) | inr b ↦ b ]

  -- above a table below a root stands one
  pub above_stands : (t l k : ℕ) → table_at ts t ≡ place l k → l < 4 → (u : ℕ) × (table_at ts u ≡ place (suc l) (k / 512))
  above_stands t l k h b = let s = some_found ts (suc l) (k / 512) (d.hung t l k h b) in (s.0, (found_stands ts (suc l) (k / 512) s.0 s.1).1)

  -- and a search finds it
  pub above_found : (l k t : ℕ) → l < 4 → table_for ts l k ≡ Some t → (u : ℕ) × (table_for ts (suc l) (k / 512) ≡ Some u)
  above_found l k t b e =
      let h = above_stands t l k (found_stands ts l k t e).1 b in
      (h.0, stands_found C T ts h.0 (suc l) (k / 512) d h.1)

  -- below a place where no table stands none stands
  pub below_none : (l k : ℕ) → l < 4 → table_for ts (suc l) (k / 512) ≡ None → table_for ts l k ≡ None
  below_none l k b e = nothing_found ts l k (λ t h. let u = above_stands t l k h b in none_stands ts (suc l) (k / 512) e u.0 u.1)
