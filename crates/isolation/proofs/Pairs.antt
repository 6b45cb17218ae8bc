-- Two lists that are the same without card A's calls, call by call.
use Rattle.std.proofs.Common.{◌≡◌, ℕ, Bool, true, false, cond, List, [], ◌∷◌, refl, subst}
use Rattle.meaning.specs.Calls.{Call}
use Rattle.isolation.specs.Lists.{is_own, struck}

pub data Pairs (A : ℕ) : List Call → List Call → Type 0 where
  ends : Pairs A [] []
  left : {c : Call} {l k : List Call} → is_own A c ≡ true → Pairs A l k → Pairs A (c ∷ l) k
  right : {c : Call} {l k : List Call} → is_own A c ≡ true → Pairs A l k → Pairs A l (c ∷ k)
  both : {c : Call} {l k : List Call} → is_own A c ≡ false → Pairs A l k → Pairs A (c ∷ l) (c ∷ k)

pairs_nil : (A : ℕ) (k : List Call) → [] ≡ struck A k → Pairs A [] k
unfolding struck
pairs_nil A [] e = ends
pairs_nil A (d ∷ k) e = go (is_own A d) refl e (λ f. pairs_nil A k f)
  where
    go : (b : Bool) → is_own A d ≡ b → [] ≡ cond b (struck A k) (d ∷ struck A k) → ([] ≡ struck A k → Pairs A [] k) → Pairs A [] (d ∷ k)
    go true h f more = right h (more f)
    go false h f more = absurd (cc)

-- a call that stands in both
pairs_cons : (A : ℕ) (c : Call) (l : List Call) → is_own A c ≡ false → ((k : List Call) → struck A l ≡ struck A k → Pairs A l k)
    → (k : List Call) → c ∷ struck A l ≡ struck A k → Pairs A (c ∷ l) k
unfolding struck
pairs_cons A c l n more [] e = absurd (cc)
pairs_cons A c l n more (d ∷ k) e = go (is_own A d) refl e (λ f. pairs_cons A c l n more k f)
  where
    go : (b : Bool) → is_own A d ≡ b → c ∷ struck A l ≡ cond b (struck A k) (d ∷ struck A k) → (c ∷ struck A l ≡ struck A k → Pairs A (c ∷ l) k)
        → Pairs A (c ∷ l) (d ∷ k)
    go true h f again = right h (again f)
    go false h f again =
        let cd : c ≡ d = cc in
        let lk : struck A l ≡ struck A k = cc in
        subst (λ (z : Call). Pairs A (c ∷ l) (z ∷ k)) cd (both n (more k lk))

pub pairs : (A : ℕ) (l k : List Call) → struck A l ≡ struck A k → Pairs A l k
unfolding struck
pairs A [] k e = pairs_nil A k e
pairs A (c ∷ l) k e = go (is_own A c) refl e (λ j f. pairs A l j f)
  where
    go : (b : Bool) → is_own A c ≡ b → cond b (struck A l) (c ∷ struck A l) ≡ struck A k → ((j : List Call) → struck A l ≡ struck A j → Pairs A l j)
        → Pairs A (c ∷ l) k
    go true h f more = left h (more k f)
    go false h f more = pairs_cons A c l h more k f
