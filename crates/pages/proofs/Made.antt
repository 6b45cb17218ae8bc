-- An array that a function makes, place by place.
use Rattle.std.proofs.Common.{◌≡◌, ℕ, zero, suc, ◌+◌, ◌<◌, ◌≤◌, List, length, get_or, sym, refl, ap, ◌∙◌, subst, inl, inr, arith}
use Rattle.std.proofs.lemmas.Bool.{cases_eq}
use Rattle.std.specs.Array.{IsFromFnResult, IsFromFnResultFrom}
use Rattle.std.specs.Fn.{Called}
use denote.Param.Members.{Mut}

module _ {F A : Type 0} (g : Mut F (ℕ × Unit {0}) A) (f : F) (make : ℕ → A) (other : A) (n : ℕ) (ys : List A)
    (gives : (i : ℕ) (y : A) (q : F) → i < n → Called g f (i, tt) y q → (q ≡ f) × (y ≡ make i)) where
  made_from : (i m : ℕ) (p : F) → i + m ≤ n → p ≡ f → IsFromFnResultFrom g p ys i m → (k : ℕ) → i ≤ k → k < i + m → get_or ys k other ≡ make k
  made_from i zero p l e w k low high = absurd (omega arith)
  made_from i (suc m) p l e (q, y, to, call, rest) k low high =
      let c = gives i y q (omega arith) (subst (λ (r : F). Called g r (i, tt) y q) e call) in
      elim (cases_eq k i) [
        | inl s ↦ ap (λ (j : ℕ). get_or ys j other) s ∙ to.1 other ∙ c.1 ∙ ap make (sym s)
        | inr ne ↦ made_from (i + 1) m q (omega arith) c.0 rest k (omega arith) (omega arith)
      ]

  pub made_each : IsFromFnResult g f ys n → (length ys ≡ n) × ((k : ℕ) → k < n → get_or ys k other ≡ make k)
  made_each m = (m.long, λ k b. made_from 0 n f (omega arith) refl m.each k (omega arith) (omega arith))
