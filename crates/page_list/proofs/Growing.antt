-- Lists of reached pages, page by page.
use Rattle.std.proofs.Common.{◌≡◌, ℕ, ◌+◌, ◌<◌, ◌≤◌, List, [], ◌∷◌, ◌++◌, Some, None, Option, ap, sym, ◌∙◌, subst, ◌⊎◌, inl, inr, arith}
use Rattle.std.specs.List.{All, Contains}
use Rattle.std.proofs.lemmas.List.Elements.{All-nil, All-push, All-head, All-tail, Contains-push, Contains-append_left}
use Rattle.units.specs.declared.mapping.Reach.{Reach}
use Rattle.page_list.specs.declared.list.PageReach.{PageReach}
use Rattle.page_list.specs.Lists.{at, Rising, Listed}

listed_none : (found : ℕ → Option Reach) → Listed found 0 []
unfolding Rising
listed_none found = record { sound = All-nil _; below = All-nil _; complete = λ p r h. absurd (omega arith); rising = tt }

-- no page yet
pub listed_start : (found : ℕ → Option Reach) (xs : List PageReach) → xs ≡ [] → Listed found 0 xs
listed_start found xs e = subst (Listed found 0) (sym e) (listed_none found)

rising_push : (xs : List PageReach) (x : PageReach) → All (λ (y : PageReach). y.page.0 < x.page.0) xs → Rising xs → Rising (xs ++ x ∷ [])
unfolding Rising
rising_push [] x h r = (All-nil _, tt)
rising_push (y ∷ ys) x h r =
    let P : PageReach → Type 0 = λ z. y.page.0 < z.page.0 in
    let Q : PageReach → Type 0 = λ z. z.page.0 < x.page.0 in
    (All-push P ys x r.0 (All-head Q y ys h), rising_push ys x (All-tail Q y ys h) r.1)

-- pages where nothing is found
pub listed_past : (found : ℕ → Option Reach) (n m : ℕ) (xs : List PageReach) → Listed found n xs → n ≤ m
    → ((p : ℕ) → n ≤ p → p < m → found p ≡ None) → Listed found m xs
listed_past found n m xs l h none = record {
  sound = l.sound;
  below = λ k d i. let b = l.below k d i in omega arith;
  complete = λ p r b e. elim (split n p) [
    | inl low ↦ l.complete p r low e
    | inr high ↦ (let f = none p high b in absurd (cc))
  ];
  rising = l.rising;
}
  where
    split : (n p : ℕ) → (p < n) ⊎ (n ≤ p)
    split n p = grind arith

-- a page where something is found
listed_more : (found : ℕ → Option Reach) (n : ℕ) (r : Reach) (xs : List PageReach) → Listed found n xs → found n ≡ Some r → Listed found (n + 1) (xs ++ at n r ∷ [])
listed_more found n r xs l e = record {
  sound = All-push (λ x. found x.page.0 ≡ Some x.reach) xs (at n r) l.sound e;
  below = All-push (λ x. x.page.0 < n + 1) xs (at n r) (λ k d i. let b = l.below k d i in omega arith) (omega arith);
  complete = λ p s b f. elim (split n p b) [
    | inl low ↦ Contains-append_left xs (at n r ∷ []) (at p s) (l.complete p s low f)
    | inr same ↦ subst (λ (x : PageReach). Contains (xs ++ at n r ∷ []) x) (one p s same f) (Contains-push xs (at n r))
  ];
  rising = rising_push xs (at n r) l.below l.rising;
}
  where
    split : (n p : ℕ) → p < n + 1 → (p < n) ⊎ (n ≡ p)
    split n p h = grind arith

    one : (p : ℕ) (s : Reach) → n ≡ p → found p ≡ Some s → at n r ≡ at p s
    one p s same f =
        let g : Some r ≡ Some s = sym e ∙ ap found same ∙ f in
        let rs : r ≡ s = cc in
        ap (λ (q : ℕ). at q r) same ∙ ap (at p) rs

pub listed_pushed : (found : ℕ → Option Reach) (n : ℕ) (r : Reach) (xs ys : List PageReach) → Listed found n xs → found n ≡ Some r
    → ys ≡ xs ++ at n r ∷ [] → Listed found (n + 1) ys
listed_pushed found n r xs ys l e f = subst (Listed found (n + 1)) (sym f) (listed_more found n r xs l e)
