-- A call that stands in one of two lists that are the same without card A's calls stands in the other.
use Rattle.std.proofs.Common.{◌≡◌, ℕ, Bool, true, false, cond, List, [], ◌∷◌, ◌++◌, refl, sym, ap, ◌∙◌}
use Rattle.std.proofs.lemmas.Bool.{cond-true, cond-false}
use Rattle.meaning.specs.Calls.{Call}
use Rattle.isolation.specs.Lists.{is_own, struck}
use Rattle.isolation.specs.Promise.{Standing}

struck_own : (A : ℕ) (c : Call) (l : List Call) → is_own A c ≡ true → struck A (c ∷ l) ≡ struck A l
unfolding struck
struck_own A c l e = cond-true (is_own A c) (struck A l) (c ∷ struck A l) e

struck_other : (A : ℕ) (c : Call) (l : List Call) → is_own A c ≡ false → struck A (c ∷ l) ≡ c ∷ struck A l
unfolding struck
struck_other A c l e = cond-false (is_own A c) (struck A l) (c ∷ struck A l) e

struck_append : (A : ℕ) (l k : List Call) → struck A (l ++ k) ≡ struck A l ++ struck A k
unfolding struck
struck_append A [] k = refl
struck_append A (c ∷ l) k = go (is_own A c) (struck_append A l k)
  where
    go : (b : Bool) → struck A (l ++ k) ≡ struck A l ++ struck A k
        → cond b (struck A (l ++ k)) (c ∷ struck A (l ++ k)) ≡ cond b (struck A l) (c ∷ struck A l) ++ struck A k
    go true e = e
    go false e = ap (λ (z : List Call). c ∷ z) e

-- the list u and then c, in k without A's calls
record Found (A : ℕ) (u k : List Call) (c : Call) : Type 0 where
  before : List Call
  rest : List Call
  here : k ≡ before ++ (c ∷ rest)
  same : struck A before ≡ u

found : (A : ℕ) (k u w : List Call) (c : Call) → struck A k ≡ u ++ (c ∷ w) → Found A u k c
unfolding struck
found A [] [] w c e = absurd (cc)
found A [] (f ∷ u) w c e = absurd (cc)
found A (d ∷ k) u w c e = go (is_own A d) u refl e (λ v i. found A k v w c i)
  where
    go : (b : Bool) (u : List Call) → is_own A d ≡ b → cond b (struck A k) (d ∷ struck A k) ≡ u ++ (c ∷ w)
        → ((v : List Call) → struck A k ≡ v ++ (c ∷ w) → Found A v k c) → Found A u (d ∷ k) c
    go true u h i later = let f = later u i in
        record { before = d ∷ f.before; rest = f.rest; here = ap (λ (z : List Call). d ∷ z) f.here; same = struck_own A d f.before h ∙ f.same }
    go false [] h i later = let e : d ≡ c = cc in record { before = []; rest = k; here = ap (λ (z : Call). z ∷ k) e; same = refl }
    go false (g ∷ u) h i later =
        let e : d ≡ g = cc in
        let tail : struck A k ≡ u ++ (c ∷ w) = cc in
        let f = later u tail in
        record {
          before = d ∷ f.before;
          rest = f.rest;
          here = ap (λ (z : List Call). d ∷ z) f.here;
          same = struck_other A d f.before h ∙ (ap (λ (z : List Call). d ∷ z) f.same ∙ ap (λ (z : Call). z ∷ u) e);
        }

pub standing : Standing
standing A l k e p rest c i other =
    let split : struck A l ≡ struck A p ++ (c ∷ struck A rest) =
    ap (struck A) i ∙ (struck_append A p (c ∷ rest) ∙ ap (λ (z : List Call). struck A p ++ z) (struck_other A c rest other)) in
    let f = found A k (struck A p) (struck A rest) c (sym e ∙ split) in
    (f.before, record { other = other; in_first = (rest, i); in_second = (f.rest, f.here); same_before = sym f.same })
