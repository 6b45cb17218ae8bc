-- Which bytes a card holds above a layer.
use Rattle.mapper.specs.declared.laws.Meaning.{Ghosts as Meaning}
use Rattle.std.proofs.Common.{◌≡◌, ℕ, zero, suc, ◌+◌, ◌*◌, ◌/◌, ◌<◌, ◌≤◌, Bool, true, false, ltb, not, ◌&&◌, ◌||◌, List, [], Some, None, Option, sym, refl, ap, ◌∙◌, inl, inr, arith}
use Rattle.std.proofs.lemmas.Bool.{cases_eq, cond-false, and_parts, and_from, not-true}
use Rattle.std.specs.List.{list_any, range_with_len}
use Rattle.units.specs.declared.buffer.Buffer.{Buffer}
use Rattle.units.specs.declared.mapping.Mapping.{Mapping}
use Rattle.meaning.specs.Memory.{within}
use Rattle.meaning.specs.Mappings.{page_count, held}
use Rattle.meaning.proofs.Facts.{within_true}
use Rattle.layer.specs.Lowering.{lowered}
use Rattle.layer.specs.Lifting.{Loans, lifts, loan_of, opened_above}
use Rattle.layer.proofs.LawsAbove.{or_true}
use Rattle.layer.proofs.Held.{HeldLoan, held_splits, held_outside, held_lent}
use Rattle.layer.proofs.Loans.{borrower, frames_in}
use Rattle.pool.specs.declared.pool.Pool.{Pool}
use Rattle.pool.specs.Lending.{loan_in}
use Rattle.layer_steps.specs.Tied.{open_over, Tied}
use Rattle.layer_steps.specs.Holding.{held_below, held_for, held_through, held_in_pool}

same_tests : (a b : Bool) → (a ≡ true → b ≡ true) → (b ≡ true → a ≡ true) → a ≡ b
same_tests true b f g = sym (f refl)
same_tests false true f g = g refl
same_tests false false f g = refl

or_right : (a b : Bool) → b ≡ true → (a || b) ≡ true
or_right true b e = refl
or_right false b e = e

any_here : (t : ℕ → Bool) (a n : ℕ) → list_any t (range_with_len a n) ≡ true → (i : ℕ) × (a ≤ i) × (i < a + n) × (t i ≡ true)
any_here t a zero e = absurd (cc)
any_here t a (suc n) e = elim (or_true (t a) (list_any t (range_with_len (a + 1) n)) e) [
  | inl s ↦ (a, omega arith, omega arith, s)
  | inr s ↦ (let r = any_here t (a + 1) n s in let l = r.1 in let u = r.2 in (r.0, omega arith, omega arith, r.3))
]

here_any : (t : ℕ → Bool) (a n i : ℕ) → a ≤ i → i < a + n → t i ≡ true → list_any t (range_with_len a n) ≡ true
here_any t a zero i l u s = absurd (omega arith)
here_any t a (suc n) i l u s = elim (cases_eq i a) [
  | inl e ↦ ap (λ (z : Bool). z || list_any t (range_with_len (a + 1) n)) (ap t (sym e) ∙ s)
  | inr d ↦ or_right (t a) (list_any t (range_with_len (a + 1) n)) (here_any t (a + 1) n i (omega arith) (omega arith) s)
]

-- without a pool no byte is held
pub held_none : (count : ℕ) (loan : Loans) (p : List Mapping) (b : ℕ) → ltb 0 count ≡ false → held (opened_above count loan p) b ≡ false
unfolding held
held_none count loan p b e = ap (λ (z : List Mapping). held z b) (cond-false (ltb 0 count) (lifts loan p) [] e)

module _ {M : Type 0} (I : Meaning M) (m : M) (q : Pool) (t : Tied I m q) (some : 0 < q.count) (b : ℕ) where
  abbrev o : List Mapping
  o = open_over I m q

  abbrev frames : ℕ
  frames = (I.setup m).frames

  abbrev reserved : ℕ → Bool
  reserved = I.kind.reserved (I.setup m)

  through : (f : ℕ) (r : Buffer) → loan_in q f ≡ Some r → held_through (loan_in q) (I.opened m) b f ≡ (within r.address r.length b && held (I.opened m) (f * 4096))
  through f r e = ap (λ (z : Option Buffer). held_for z (held (I.opened m) (f * 4096)) b) e

  -- a run that is lent begins in the pool
  in_pool : (f : ℕ) (r : Buffer) → loan_of o f ≡ Some r → (q.first.0 ≤ f) × (f < q.first.0 + q.count)
  in_pool f r e =
      let k = borrower o f r e in
      let s = t.stands some in
      let fit = s.each k.mapping k.is_open in
      let length = fit.some in
      let count : 0 < page_count k.mapping = omega arith in
      let same = k.frame in
      within_true q.first.0 q.count f (frames_in frames reserved q.first.0 q.count k.mapping f fit k.part (omega arith) (omega arith))

  below : (c : ℕ) → held (lowered o) c ≡ held (I.opened m) c
  below c = ap (λ (z : List Mapping). held z c) (t.same some)

  splits : held o b ≡ true → (held_below q (I.opened m) b || held_in_pool q (I.opened m) b) ≡ true
  splits h = elim (held_splits frames reserved q.first.0 q.count o (t.stands some) b h) [
    | inl p ↦ (let here : held_below q (I.opened m) b ≡ true = and_from (not (within q.first.0 q.count (b / 4096))) (held (I.opened m) b) (ap not p.0) (sym (below b) ∙ p.1) in
        ap (λ (z : Bool). z || held_in_pool q (I.opened m) b) here)
    | inr l ↦ (let i = in_pool l.frame l.buffer l.lent in
        or_right (held_below q (I.opened m) b) (held_in_pool q (I.opened m) b) (here_any (held_through (loan_in q) (I.opened m) b) q.first.0 q.count l.frame i.0 i.1
        (through l.frame l.buffer (t.lends some l.frame ∙ l.lent) ∙ and_from (within l.buffer.address l.buffer.length b) (held (I.opened m) (l.frame * 4096)) l.inside (sym (below (l.frame * 4096)) ∙ l.below))))
  ]

  joins : (held_below q (I.opened m) b || held_in_pool q (I.opened m) b) ≡ true → held o b ≡ true
  joins h = elim (or_true (held_below q (I.opened m) b) (held_in_pool q (I.opened m) b) h) [
    | inl p ↦ (let a = and_parts (not (within q.first.0 q.count (b / 4096))) (held (I.opened m) b) p in
        held_outside frames reserved q.first.0 q.count o (t.stands some) b (not-true (within q.first.0 q.count (b / 4096)) a.0) (below b ∙ a.1))
    | inr p ↦ (let a = any_here (held_through (loan_in q) (I.opened m) b) q.first.0 q.count p in
        held_lent frames reserved q.first.0 q.count o (t.stands some) b (lent a.0 (loan_in q a.0) refl a.3))
  ]
    where
      lent : (f : ℕ) (r : Option Buffer) → loan_in q f ≡ r → held_through (loan_in q) (I.opened m) b f ≡ true → HeldLoan (loan_of o) (lowered o) b
      lent f None e h = let n : held_through (loan_in q) (I.opened m) b f ≡ false = ap (λ (z : Option Buffer). held_for z (held (I.opened m) (f * 4096)) b) e in absurd (cc)
      lent f (Some r) e h =
          let a = and_parts (within r.address r.length b) (held (I.opened m) (f * 4096)) (sym (through f r e) ∙ h) in
          record { frame = f; buffer = r; lent = sym (t.lends some f) ∙ e; inside = a.0; below = below (f * 4096) ∙ a.1 }

  pub held_over : (held_below q (I.opened m) b || held_in_pool q (I.opened m) b) ≡ held o b
  held_over = same_tests (held_below q (I.opened m) b || held_in_pool q (I.opened m) b) (held o b) joins splits
