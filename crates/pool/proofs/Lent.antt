-- A pool's loans once a run is lent or given back.
use Rattle.std.proofs.Common.{◌≡◌, ℕ, ◌-◌, ◌<◌, ◌≤◌, true, false, cond, eqb, length, get_or, set, replicate, None, Option, sym, refl, ap, ◌∙◌, inl, inr, arith}
use Rattle.std.proofs.lemmas.Bool.{cases_Bool, cases_eq, cond-true, cond-false, eq-eqb}
use Rattle.std.proofs.lemmas.Bool.Decides.{nat_tests}
use Rattle.std.proofs.lemmas.List.{get_or-set_other, get_or-replicate}
use Rattle.std.proofs.lemmas.Grind.{get_or-set_at}
use Rattle.units.specs.declared.buffer.Buffer.{Buffer}
use Rattle.pool.specs.declared.pool.Pool.{Pool}
use Rattle.pool.specs.Lending.{empty_pool, has_record, loan_in, lent}

has_facts : (p : Pool) (f : ℕ) → has_record p f ≡ true → (p.first.0 ≤ f) × (f - p.first.0 < 16)
has_facts p f e = (grind (arith, nat_tests), grind (arith, nat_tests))

-- the pool keeps its frames
pub lent_first : (p : Pool) (f : ℕ) (b : Option Buffer) → (lent p f b).first ≡ p.first
unfolding lent
lent_first p f b = elim (has_record p f) as (λ z. (cond z (record { first = p.first; count = p.count; loans = set p.loans (f - p.first.0) b }) p).first ≡ p.first) [ true ↦ refl | false ↦ refl ]

pub lent_count : (p : Pool) (f : ℕ) (b : Option Buffer) → (lent p f b).count ≡ p.count
unfolding lent
lent_count p f b = elim (has_record p f) as (λ z. (cond z (record { first = p.first; count = p.count; loans = set p.loans (f - p.first.0) b }) p).count ≡ p.count) [ true ↦ refl | false ↦ refl ]

module _ (p : Pool) (full : length p.loans ≡ 16) (f : ℕ) (b : Option Buffer) where
  abbrev changed : Pool
  changed = record { first = p.first; count = p.count; loans = set p.loans (f - p.first.0) b }

  pub lent_here : has_record p f ≡ true → lent p f b ≡ changed
  unfolding lent
  lent_here t = cond-true (has_record p f) changed p t

  pub changed_loans : has_record p f ≡ true → (g : ℕ) → loan_in changed g ≡ cond (eqb f g) b (loan_in p g)
  unfolding loan_in
  changed_loans t g =
      let a = has_facts p f t in
      let low = a.0 in
      let high = a.1 in
      elim (cases_eq g f) [
        | inl e ↦ (let s : has_record p g ≡ true = ap (has_record p) e ∙ t in
            cond-true (has_record p g) (get_or changed.loans (g - p.first.0) None) None s
            ∙ get_or-set_at p.loans (f - p.first.0) (g - p.first.0) b None (omega arith) (omega arith)
            ∙ sym (cond-true (eqb f g) b (loan_in p g) (eq-eqb f g (sym e))))
        | inr d ↦ (let n : eqb f g ≡ false = grind (arith, nat_tests) in
            elim (cases_Bool (has_record p g)) [
              | inl s ↦ (let c = has_facts p g s in
                  let l = c.0 in
                  cond-true (has_record p g) (get_or changed.loans (g - p.first.0) None) None s
                  ∙ get_or-set_other p.loans (f - p.first.0) (g - p.first.0) b None (λ z. d (omega arith))
                  ∙ sym (cond-false (eqb f g) b (loan_in p g) n ∙ cond-true (has_record p g) (get_or p.loans (g - p.first.0) None) None s))
              | inr s ↦ cond-false (has_record p g) (get_or changed.loans (g - p.first.0) None) None s
                  ∙ sym (cond-false (eqb f g) b (loan_in p g) n ∙ cond-false (has_record p g) (get_or p.loans (g - p.first.0) None) None s)
            ])
      ]

  -- a run that has its place is lent, and no other run is touched
  pub lent_loans : has_record p f ≡ true → (g : ℕ) → loan_in (lent p f b) g ≡ cond (eqb f g) b (loan_in p g)
  lent_loans t g = ap (λ (z : Pool). loan_in z g) (lent_here t) ∙ changed_loans t g

pub unlent : (p : Pool) (f : ℕ) (b : Option Buffer) → has_record p f ≡ false → lent p f b ≡ p
unfolding lent
unlent p f b t = cond-false (has_record p f) (record { first = p.first; count = p.count; loans = set p.loans (f - p.first.0) b }) p t

-- a run without a place is lent to none
pub none_lent : (p : Pool) (f g : ℕ) → has_record p f ≡ false → loan_in p g ≡ cond (eqb f g) None (loan_in p g)
unfolding loan_in
none_lent p f g t = elim (cases_eq f g) [
  | inl e ↦ cond-false (has_record p g) (get_or p.loans (g - p.first.0) None) None (ap (has_record p) (sym e) ∙ t) ∙ sym (cond-true (eqb f g) None (loan_in p g) (eq-eqb f g e))
  | inr d ↦ sym (cond-false (eqb f g) None (loan_in p g) (grind (arith, nat_tests)))
]

pub nothing_lent : (first count f : ℕ) → loan_in (empty_pool first count) f ≡ None
unfolding loan_in
nothing_lent first count f = elim (cases_Bool (has_record (empty_pool first count) f)) [
  | inl t ↦ (let a = has_facts (empty_pool first count) f t in
      cond-true (has_record (empty_pool first count) f) (get_or (replicate 16 None) (f - first) None) None t ∙ get_or-replicate 16 (f - first) None None a.1)
  | inr t ↦ cond-false (has_record (empty_pool first count) f) (get_or (replicate 16 None) (f - first) None) None t
]
