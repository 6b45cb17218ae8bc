-- The tables that pages take depend only on which pages they are.
use Rattle.std.proofs.Common.{◌≡◌, ℕ, Bool, true, false, cond, ◌||◌, eqb, List, [], ◌∷◌, map, sym, refl, ap, ◌∙◌, arith}
use Rattle.std.proofs.Math.Path.{ap₂}
use Rattle.std.specs.Prelude.{nat_eq}
use Rattle.std.specs.List.{IsDistinct}
use Rattle.std.specs.Set.{is_member, unique_keys}
use Rattle.std.proofs.lemmas.Bool.{eqb-true}
use Rattle.std.proofs.lemmas.Cmp.{nat_eq_equiv}
use Rattle.std.proofs.lemmas.Map.Made.{length-from_keys}
use Rattle.walk.specs.Indices.{prefix}
use Rattle.tree.specs.Layout.{contains}
use Rattle.tree.specs.Counts.{prefixes, tables_of}
use Rattle.tree.proofs.Sharing.{shared_same}
use Rattle.table_count.proofs.Standing.{none_same}
use Rattle.table_count.proofs.Counting.{shared_member, prefixes_distinct}

-- Each number once ----------------------------------------------------------------------------------------

unique_member : (xs : List ℕ) (k : ℕ) → is_member nat_eq (unique_keys nat_eq xs) k ≡ is_member nat_eq xs k
unique_member [] k = refl
unique_member (x ∷ xs) k = go (is_member nat_eq xs x) refl (eqb k x) refl (unique_member xs k)
  where
    go : (b : Bool) → is_member nat_eq xs x ≡ b → (c : Bool) → eqb k x ≡ c → is_member nat_eq (unique_keys nat_eq xs) k ≡ is_member nat_eq xs k
        → is_member nat_eq (cond b (unique_keys nat_eq xs) (x ∷ unique_keys nat_eq xs)) k ≡ c || is_member nat_eq xs k
    go true e true f h = h ∙ (ap (is_member nat_eq xs) (eqb-true k x f) ∙ e)
    go true e false f h = h
    go false e c f h = ap₂ (λ a b. a || b) f h

unique_distinct : (xs : List ℕ) → IsDistinct nat_eq (unique_keys nat_eq xs)
unfolding IsDistinct
unique_distinct [] = tt
unique_distinct (x ∷ xs) = go (is_member nat_eq xs x) refl (unique_distinct xs)
  where
    go : (b : Bool) → is_member nat_eq xs x ≡ b → IsDistinct nat_eq (unique_keys nat_eq xs) → IsDistinct nat_eq (cond b (unique_keys nat_eq xs) (x ∷ unique_keys nat_eq xs))
    go true e h = h
    go false e h = (none_same x (unique_keys nat_eq xs) (unique_member xs x ∙ e), h)

prefixes_same : (qs rs : List ℕ) → ((q : ℕ) → contains q qs ≡ contains q rs) → (l : ℕ) → prefixes l qs ≡ prefixes l rs
prefixes_same qs rs same l =
    sym (prefixes_distinct l qs) ∙ (length-from_keys nat_eq_equiv (unique_keys nat_eq (map (prefix l) qs)) (map (prefix l) rs) (unique_distinct (map (prefix l) qs))
    (λ k. unique_member (map (prefix l) qs) k ∙ (shared_member l k qs ∙ (shared_same qs rs same l k ∙ sym (shared_member l k rs))))
    ∙ prefixes_distinct l rs)

-- lists with the same pages take as many tables
pub tables_same : (qs rs : List ℕ) → ((q : ℕ) → contains q qs ≡ contains q rs) → tables_of qs ≡ tables_of rs
tables_same qs rs same = omega (arith, prefixes_same qs rs same 1, prefixes_same qs rs same 2, prefixes_same qs rs same 3)
