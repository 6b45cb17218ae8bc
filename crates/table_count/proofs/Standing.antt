-- The prefixes for which tables of one level stand, as a list without duplicates.
use Rattle.std.proofs.Common.{◌≡◌, ℕ, suc, ◌+◌, Bool, true, false, cond, ◌&&◌, ◌||◌, not, eqb, ltb, List, [], ◌∷◌, length, Some, None, sym, refl, ap, ◌∙◌, arith}
use Rattle.std.proofs.Math.Path.{ap₂}
use Rattle.std.specs.Prelude.{nat_eq, is_some}
use Rattle.std.specs.List.{IsDistinct, AllByRecursion, list_any, position_or_len}
use Rattle.std.specs.Set.{is_member}
use Rattle.std.proofs.lemmas.Bool.{eqb-true, lt-ltb, false_from_ne_true, or_parts}
use Rattle.std.proofs.lemmas.Bool.Decides.{nat_tests}
use Rattle.std.proofs.lemmas.Cmp.{nat_eq_equiv}
use Rattle.tree.specs.declared.place.Place.{Place}
use Rattle.tree.specs.declared.place.Table.{Table}
use Rattle.tree.specs.declared.place.Table.TheVariants.{Missing, Free, Used}
use Rattle.tree.specs.Places.{table_at, place, stands, table_for}
use Rattle.tree.proofs.Standing.{some_found, found_stands}

some_cond : (b : Bool) (n : ℕ) → is_some (cond b (Some n) None) ≡ b
some_cond true n = refl
some_cond false n = refl

first_below : (p : Table → Bool) (ts : List Table) → ltb (position_or_len p ts) (length ts) ≡ list_any p ts
first_below p [] = refl
first_below p (x ∷ xs) = go (p x) (first_below p xs)
  where
    go : (b : Bool) → ltb (position_or_len p xs) (length xs) ≡ list_any p xs → ltb (cond (not b) (1 + position_or_len p xs) 0) (suc (length xs)) ≡ b || list_any p xs
    go true h = lt-ltb 0 (suc (length xs)) (omega arith)
    go false h = grind (arith, nat_tests)

any_found : (ts : List Table) (l k : ℕ) → is_some (table_for ts l k) ≡ list_any (stands l k) ts
unfolding table_for
any_found ts l k = some_cond _ _ ∙ first_below (stands l k) ts

any_stands : (ts : List Table) (l k : ℕ) → list_any (stands l k) ts ≡ true → (t : ℕ) × (table_at ts t ≡ place l k)
any_stands ts l k h = let s = some_found ts l k (any_found ts l k ∙ h) in (s.0, (found_stands ts l k s.0 s.1).1)

-- the prefixes for which tables of level l stand
unfoldable pub standing : ℕ → List Table → List ℕ
standing l [] = []
standing l (Missing ∷ ts) = standing l ts
standing l (Free ∷ ts) = standing l ts
standing l (Used p ∷ ts) = cond (eqb p.level l) (p.prefix ∷ standing l ts) (standing l ts)

one_standing : (l k : ℕ) (p : Place) (ts : List Table) → is_member nat_eq (standing l ts) k ≡ list_any (stands l k) ts → is_member nat_eq (standing l (Used p ∷ ts)) k ≡ list_any (stands l k) (Used p ∷ ts)
unfolding standing
one_standing l k p ts h = go (eqb p.level l)
  where
    go : (b : Bool) → is_member nat_eq (cond b (p.prefix ∷ standing l ts) (standing l ts)) k ≡ (b && eqb p.prefix k) || list_any (stands l k) ts
    go true = ap₂ (λ a b. a || b) (nat_eq_equiv.symm k p.prefix) h
    go false = h

member_stands : (l k : ℕ) (ts : List Table) → is_member nat_eq (standing l ts) k ≡ list_any (stands l k) ts
unfolding standing
member_stands l k [] = refl
member_stands l k (Missing ∷ ts) = member_stands l k ts
member_stands l k (Free ∷ ts) = member_stands l k ts
member_stands l k (Used p ∷ ts) = one_standing l k p ts (member_stands l k ts)

-- a prefix is listed exactly when a search finds its table
pub standing_found : (l k : ℕ) (ts : List Table) → is_member nat_eq (standing l ts) k ≡ is_some (table_for ts l k)
standing_found l k ts = member_stands l k ts ∙ sym (any_found ts l k)

-- what is not listed differs from each that is
pub none_same : (k : ℕ) (ks : List ℕ) → is_member nat_eq ks k ≡ false → AllByRecursion (λ y. nat_eq k y ≡ false) ks
none_same k [] h = tt
none_same k (x ∷ xs) h = let f = or_parts (nat_eq k x) (is_member nat_eq xs k) h in (f.0, none_same k xs f.1)

-- no prefix is listed twice, where no place has two tables
pub standing_distinct : (l : ℕ) (ts : List Table) → ((t u k : ℕ) → table_at ts t ≡ place l k → table_at ts u ≡ place l k → t ≡ u) → IsDistinct nat_eq (standing l ts)
unfolding standing IsDistinct
standing_distinct l [] once = tt
standing_distinct l (Missing ∷ ts) once = standing_distinct l ts (λ t u k a b. let e = once (suc t) (suc u) k a b in omega arith)
standing_distinct l (Free ∷ ts) once = standing_distinct l ts (λ t u k a b. let e = once (suc t) (suc u) k a b in omega arith)
standing_distinct l (Used p ∷ ts) once = go (eqb p.level l) refl (standing_distinct l ts (λ t u k a b. let e = once (suc t) (suc u) k a b in omega arith))
  where
    go : (b : Bool) → eqb p.level l ≡ b → IsDistinct nat_eq (standing l ts) → IsDistinct nat_eq (cond b (p.prefix ∷ standing l ts) (standing l ts))
    go true e h = (
      none_same p.prefix (standing l ts) (false_from_ne_true _ (λ m.
          let f = any_stands ts l p.prefix (sym (member_stands l p.prefix ts) ∙ m) in
          let here : table_at (Used p ∷ ts) 0 ≡ place l p.prefix = ap (λ a. place a p.prefix) (eqb-true p.level l e) in
          let same = once 0 (suc f.0) p.prefix here f.1 in
          omega arith)),
      h,
    )
    go false e h = h
