-- Free tables, roots, and a table for each prefix of the open pages are all tables.
use Rattle.std.proofs.Common.{◌≡◌, ℕ, zero, suc, ◌+◌, ◌<◌, ◌≤◌, Bool, true, false, cond, ◌||◌, eqb, List, [], ◌∷◌, length, map, filter, sym, refl, ap, ◌∙◌, arith}
use Rattle.std.proofs.Math.Path.{ap₂}
use Rattle.std.specs.Prelude.{nat_eq, ◌≢◌}
use Rattle.std.specs.Set.{is_member, distinct_count, unique_keys}
use Rattle.std.proofs.lemmas.Bool.{eqb-true, eq-eqb}
use Rattle.std.proofs.lemmas.Bool.Decides.{nat_tests}
use Rattle.std.proofs.lemmas.Cmp.{nat_eq_equiv}
use Rattle.std.proofs.lemmas.Map.Made.{length-from_keys}
use Rattle.walk.specs.Indices.{prefix}
use Rattle.tree.specs.declared.place.Place.{Place}
use Rattle.tree.specs.declared.place.Table.{Table}
use Rattle.tree.specs.declared.place.Table.TheVariants.{Missing, Free, Used}
use Rattle.tree.specs.Places.{table_at, place, is_free}
use Rattle.tree.specs.Layout.{shared, Fits}
use Rattle.tree.specs.Counts.{prefixes, tables_of, free_count}
use Rattle.table_count.proofs.Standing.{standing, standing_found, standing_distinct}

-- The prefixes of pages ------------------------------------------------------------------------------------

pub shared_member : (l k : ℕ) (qs : List ℕ) → is_member nat_eq (map (prefix l) qs) k ≡ shared qs l k
shared_member l k [] = refl
shared_member l k (q ∷ qs) = ap₂ (λ a b. a || b) (nat_eq_equiv.symm k (prefix l q)) (shared_member l k qs)

pub prefixes_distinct : (l : ℕ) (qs : List ℕ) → distinct_count nat_eq (map (prefix l) qs) ≡ prefixes l qs
prefixes_distinct l [] = refl
prefixes_distinct l (q ∷ qs) = ap (λ b. length (cond b (unique_keys nat_eq (map (prefix l) qs)) (prefix l q ∷ unique_keys nat_eq (map (prefix l) qs)))) (shared_member l (prefix l q) qs)
    ∙ go (shared qs l (prefix l q)) (unique_keys nat_eq (map (prefix l) qs)) (prefixes l qs) (prefixes_distinct l qs)
  where
    go : (b : Bool) (ks : List ℕ) (n : ℕ) → length ks ≡ n → length (cond b ks (prefix l q ∷ ks)) ≡ cond b n (suc n)
    go true ks n e = e
    go false ks n e = ap suc e

-- The free tables -----------------------------------------------------------------------------------------

pub count_filter : (ts : List Table) → length (filter is_free ts) ≡ free_count ts
count_filter [] = refl
count_filter (t ∷ ts) = go (is_free t) (count_filter ts)
  where
    go : (b : Bool) → length (filter is_free ts) ≡ free_count ts → length (cond b (t ∷ filter is_free ts) (filter is_free ts)) ≡ cond b (suc (free_count ts)) (free_count ts)
    go true h = ap suc h
    go false h = h

-- The tables by their level --------------------------------------------------------------------------------

abbrev one_if : Bool → ℕ
one_if true = 1
one_if false = 0

standing_length : (l : ℕ) (p : Place) (ts : List Table) → length (standing l (Used p ∷ ts)) ≡ one_if (eqb p.level l) + length (standing l ts)
unfolding standing
standing_length l p ts = go (eqb p.level l)
  where
    go : (b : Bool) → length (cond b (p.prefix ∷ standing l ts) (standing l ts)) ≡ one_if b + length (standing l ts)
    go true = omega arith
    go false = omega arith

one_level : (l : ℕ) → 1 ≤ l → l ≤ 4 → one_if (eqb l 1) + one_if (eqb l 2) + one_if (eqb l 3) + one_if (eqb l 4) ≡ 1
one_level l a b = grind (arith, nat_tests)

-- each of the T tables is free or stands at one level
all_levels : (T : ℕ) (ts : List Table) → ((t : ℕ) → t < T → table_at ts t ≢ Missing) → ((t : ℕ) → T ≤ t → table_at ts t ≡ Missing)
    → ((t l k : ℕ) → table_at ts t ≡ place l k → (1 ≤ l) × (l ≤ 4))
    → free_count ts + (length (standing 1 ts) + length (standing 2 ts) + length (standing 3 ts) + length (standing 4 ts)) ≡ T
unfolding standing
all_levels zero [] there past levels = refl
all_levels (suc T) [] there past levels = absurd (there 0 (omega arith) refl)
all_levels zero (Missing ∷ ts) there past levels = all_levels zero ts (λ t l. absurd (omega arith)) (λ t l. past (suc t) (omega arith)) (λ t. levels (suc t))
all_levels zero (Free ∷ ts) there past levels = absurd (let e = past 0 (omega arith) in cc)
all_levels zero (Used p ∷ ts) there past levels = absurd (let e = past 0 (omega arith) in cc)
all_levels (suc T) (Missing ∷ ts) there past levels = absurd (there 0 (omega arith) refl)
all_levels (suc T) (Free ∷ ts) there past levels =
    let i = all_levels T ts (λ t l. there (suc t) (omega arith)) (λ t l. past (suc t) (omega arith)) (λ t. levels (suc t)) in
    omega arith
all_levels (suc T) (Used p ∷ ts) there past levels =
    let i = all_levels T ts (λ t l. there (suc t) (omega arith)) (λ t l. past (suc t) (omega arith)) (λ t. levels (suc t)) in
    let b = levels 0 p.level p.prefix refl in
    let o = one_level p.level b.0 b.1 in
    omega (arith, standing_length 1 p ts, standing_length 2 p ts, standing_length 3 p ts, standing_length 4 p ts)

-- where the first C tables, and only these, stand at level 4
roots_count : (C : ℕ) (ts : List Table) → ((c : ℕ) → c < C → (k : ℕ) × (table_at ts c ≡ place 4 k)) → ((t k : ℕ) → table_at ts t ≡ place 4 k → t < C) → length (standing 4 ts) ≡ C
unfolding standing
roots_count zero [] roots only = refl
roots_count (suc C) [] roots only = absurd (let e = (roots 0 (omega arith)).1 in cc)
roots_count zero (Missing ∷ ts) roots only = roots_count zero ts (λ c l. absurd (omega arith)) (λ t k e. let h = only (suc t) k e in absurd (omega arith))
roots_count zero (Free ∷ ts) roots only = roots_count zero ts (λ c l. absurd (omega arith)) (λ t k e. let h = only (suc t) k e in absurd (omega arith))
roots_count zero (Used p ∷ ts) roots only = go (eqb p.level 4) refl (roots_count zero ts (λ c l. absurd (omega arith)) (λ t k e. let h = only (suc t) k e in absurd (omega arith)))
  where
    go : (b : Bool) → eqb p.level 4 ≡ b → length (standing 4 ts) ≡ 0 → length (cond b (p.prefix ∷ standing 4 ts) (standing 4 ts)) ≡ 0
    go true e h = let here : table_at (Used p ∷ ts) 0 ≡ place 4 p.prefix = ap (λ a. place a p.prefix) (eqb-true p.level 4 e) in let n = only 0 p.prefix here in absurd (omega arith)
    go false e h = h
roots_count (suc C) (Missing ∷ ts) roots only = absurd (let e = (roots 0 (omega arith)).1 in cc)
roots_count (suc C) (Free ∷ ts) roots only = absurd (let e = (roots 0 (omega arith)).1 in cc)
roots_count (suc C) (Used p ∷ ts) roots only =
    let i = roots_count C ts (λ c l. roots (suc c) (omega arith)) (λ t k e. let h = only (suc t) k e in omega arith) in
    let f = roots 0 (omega arith) in
    let four : p.level ≡ 4 = ap level_in (f.1) in
    omega (arith, standing_length 4 p ts, ap one_if (eq-eqb p.level 4 four))
  where
    level_in : Table → ℕ
    level_in Missing = 0
    level_in Free = 0
    level_in (Used q) = q.level

-- Free tables, roots and the tables of the open pages are all that there are.
pub counted : (C T : ℕ) (ts : List Table) (leaf : ℕ → ℕ) (qs ws : List ℕ) → Fits C T ts leaf qs ws → free_count ts + C + tables_of qs ≡ T
counted C T ts leaf qs ws F =
    let D = F.directory in
    let a = all_levels T ts D.there D.past D.levels in
    let r = roots_count C ts (λ c l. (c, D.roots c l)) (λ t k e. (D.only_roots t k e).0) in
    omega (arith, at 1 (omega arith) (omega arith), at 2 (omega arith) (omega arith), at 3 (omega arith) (omega arith))
  where
    at : (l : ℕ) → 1 ≤ l → l ≤ 3 → length (standing l ts) ≡ prefixes l qs
    at l a b = length-from_keys nat_eq_equiv (standing l ts) (map (prefix l) qs) (standing_distinct l ts (λ t u k. F.directory.once t u l k))
        (λ k. standing_found l k ts ∙ (F.served l k a b ∙ sym (shared_member l k qs))) ∙ prefixes_distinct l qs
