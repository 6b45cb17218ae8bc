-- Laws of the entries, for whoever keeps a cache.
use Rattle.std.proofs.Common.{◌≡◌, ℕ, suc, Bool, true, false, not, ◌&&◌, cond, List, [], ◌∷◌, length, drop, Some, None, Option, sym, refl, ap, ◌∙◌, subst, inl, inr, arith, nat_lt, ◌==◌}
use Rattle.std.specs.List.{All, filter, find}
use Rattle.std.specs.Option.{option_map}
use Rattle.std.proofs.lemmas.Bool.{cases_Bool, cond-true, cond-false, cond_both, eqb-true, and_parts, both_ways, false_from_ne_true}
use Rattle.std.proofs.lemmas.Bool.Decides.{nat_tests}
use Rattle.std.proofs.lemmas.List.Elements.{All-filter, All-push, All-drop, All-head, All-tail}
use Rattle.units.specs.declared.mapping.Reach.{Reach}
use Rattle.cache.specs.declared.cache.Translation.{Translation}
use Rattle.cache.specs.Entries.{is_of, cached, added, without, in_span, without_span}

-- Filters -------------------------------------------------------------------------------------------------

filter_all : (f : Translation → Bool) → ((x : Translation) → f x ≡ true) → (xs : List Translation) → filter f xs ≡ xs
filter_all f h [] = refl
filter_all f h (x ∷ xs) = cond-true (f x) _ _ (h x) ∙ ap (λ (ys : List Translation). x ∷ ys) (filter_all f h xs)

-- two filters, one after the other, are one
filter_filter : (f g h : Translation → Bool) → ((x : Translation) → h x ≡ (g x && f x)) → (xs : List Translation) → filter f (filter g xs) ≡ filter h xs
filter_filter f g h e [] = refl
filter_filter f g h e (x ∷ xs) = go (g x) (e x) (filter_filter f g h e xs)
  where
    go : (a : Bool) → h x ≡ (a && f x) → filter f (filter g xs) ≡ filter h xs → filter f (cond a (x ∷ filter g xs) (filter g xs)) ≡ cond (h x) (x ∷ filter h xs) (filter h xs)
    go true k later =
        ap (λ (ys : List Translation). cond (f x) (x ∷ ys) ys) later ∙ ap (λ (b : Bool). cond b (x ∷ filter h xs) (filter h xs)) (sym k)
    go false k later = later ∙ sym (cond-false (h x) (x ∷ filter h xs) (filter h xs) k)

-- what is found where a filter leaves nothing such
find_gone : (f such : Translation → Bool) → ((x : Translation) → such x ≡ true → f x ≡ false) → (xs : List Translation) → find such (filter f xs) ≡ None
find_gone f such h [] = refl
find_gone f such h (x ∷ xs) = elim (cases_Bool (f x)) [
  | inl e ↦ (ap (find such) (cond-true (f x) (x ∷ filter f xs) (filter f xs) e)
      ∙ cond-false (such x) (Some x) (find such (filter f xs)) (false_from_ne_true (such x) (λ t. both_ways (f x) (h x t) e)) ∙ find_gone f such h xs)
  | inr e ↦ ap (find such) (cond-false (f x) (x ∷ filter f xs) (filter f xs) e) ∙ find_gone f such h xs
]

-- and where it leaves all such
find_kept : (f such : Translation → Bool) → ((x : Translation) → such x ≡ true → f x ≡ true) → (xs : List Translation) → find such (filter f xs) ≡ find such xs
find_kept f such h [] = refl
find_kept f such h (x ∷ xs) = elim (cases_Bool (f x)) [
  | inl e ↦ (ap (find such) (cond-true (f x) (x ∷ filter f xs) (filter f xs) e)
      ∙ ap (λ (r : Option Translation). cond (such x) (Some x) r) (find_kept f such h xs))
  | inr e ↦ (ap (find such) (cond-false (f x) (x ∷ filter f xs) (filter f xs) e) ∙ find_kept f such h xs
      ∙ sym (cond-false (such x) (Some x) (find such xs) (false_from_ne_true (such x) (λ t. both_ways (f x) e (h x t)))))
]

-- Spans ---------------------------------------------------------------------------------------------------

not_in_none : (c p d q : ℕ) → not (in_span c p 0 d q) ≡ true
not_in_none c p d q = grind (arith, nat_tests)

first_or_rest : (c p n d q : ℕ) → not (in_span c p (suc n) d q) ≡ (not (d == c && q == p) && not (in_span c (suc p) n d q))
first_or_rest c p n d q = grind (arith, nat_tests)

pub span_of_none : (c p : ℕ) (xs : List Translation) → without_span c p 0 xs ≡ xs
unfolding without_span
span_of_none c p xs = filter_all _ (λ x. not_in_none c p x.card.0 x.page.0) xs

-- the first page, and then the pages behind it
pub span_by_page : (c p n : ℕ) (xs : List Translation) → without_span c (suc p) n (without c p xs) ≡ without_span c p (suc n) xs
unfolding without without_span
span_by_page c p n xs = filter_filter _ _ _ (λ x. first_or_rest c p n x.card.0 x.page.0) xs

in_gone : (c p n d q e r : ℕ) → in_span c p n d q ≡ true → (e == d && r == q) ≡ true → not (in_span c p n e r) ≡ false
in_gone c p n d q e r h t = grind (arith, nat_tests)

in_kept : (c p n d q e r : ℕ) → in_span c p n d q ≡ false → (e == d && r == q) ≡ true → not (in_span c p n e r) ≡ true
in_kept c p n d q e r h t = grind (arith, nat_tests)

-- no page of the span is found any more
pub span_gone : (c p n d q : ℕ) (xs : List Translation) → in_span c p n d q ≡ true → cached (without_span c p n xs) d q ≡ None
unfolding cached without_span
span_gone c p n d q xs h = ap (option_map _) (find_gone _ (is_of d q) (λ x t. in_gone c p n d q x.card.0 x.page.0 h t) xs)

-- and each other page is found as before
pub span_kept : (c p n d q : ℕ) (xs : List Translation) → in_span c p n d q ≡ false → cached (without_span c p n xs) d q ≡ cached xs d q
unfolding cached without_span
span_kept c p n d q xs h = ap (option_map _) (find_kept _ (is_of d q) (λ x t. in_kept c p n d q x.card.0 x.page.0 h t) xs)

-- What holds of each entry --------------------------------------------------------------------------------

module _ (P : Translation → Type 0) (xs : List Translation) (h : All P xs) where
  pub all_added : (x : Translation) → P x → All P (added xs x)
  unfolding added
  all_added x here = All-push P _ x (cond_both (nat_lt (length xs) 8) xs (drop 1 xs) (All P) (λ _. h) (λ _. All-drop P 1 xs h)) here

  pub all_without : (c p : ℕ) → All P (without c p xs)
  unfolding without
  all_without c p = All-filter _ P xs h

  pub all_without_span : (c p n : ℕ) → All P (without_span c p n xs)
  unfolding without_span
  all_without_span c p n = All-filter _ P xs h

-- an entry is its card, page and reach
entry_is : (x : Translation) (c p : ℕ) (r : Reach) → x.card.0 ≡ c → x.page.0 ≡ p → x.reach ≡ r → x ≡ record { card = record { 0 = c }; page = record { 0 = p }; reach = r }
entry_is x c p r e f g =
    ap (λ (k : ℕ). record { card = record { 0 = k }; page = x.page; reach = x.reach }) e
    ∙ ap (λ (k : ℕ). record { card = record { 0 = c }; page = record { 0 = k }; reach = x.reach }) f
    ∙ ap (λ (k : Reach). record { card = record { 0 = c }; page = record { 0 = p }; reach = k }) g

-- what holds of each entry holds of what is found
pub cached_holds : (P : Translation → Type 0) (xs : List Translation) (c p : ℕ) (r : Reach) → All P xs → cached xs c p ≡ Some r
    → P (record { card = record { 0 = c }; page = record { 0 = p }; reach = r })
unfolding cached
cached_holds P [] c p r h e = absurd (cc)
cached_holds P (x ∷ xs) c p r h e = elim (cases_Bool (is_of c p x)) [
  | inl t ↦ (let s = and_parts (x.card.0 == c) (x.page.0 == p) t in
      let found : Some x.reach ≡ Some r = ap (option_map _) (sym (cond-true (is_of c p x) (Some x) (find (is_of c p) xs) t)) ∙ e in
      subst P (entry_is x c p r (eqb-true x.card.0 c s.0) (eqb-true x.page.0 p s.1) (cc)) (All-head P x xs h))
  | inr f ↦ cached_holds P xs c p r (All-tail P x xs h) (ap (option_map _) (sym (cond-false (is_of c p x) (Some x) (find (is_of c p) xs) f)) ∙ e)
]
