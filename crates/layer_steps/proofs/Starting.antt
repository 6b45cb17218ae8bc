-- A layer at its set-up: nothing is lent, and nothing is open.
use Rattle.mapper.specs.declared.laws.Meaning.{Ghosts as Meaning}
use Rattle.std.proofs.Common.{◌≡◌, ℕ, ◌<◌, Bool, true, false, cond, ltb, List, [], sym, refl, ap, ◌∙◌, subst, inl, inr, arith}
use Rattle.std.proofs.lemmas.Bool.{cases_Bool}
use Rattle.units.specs.declared.mapping.Mapping.{Mapping}
use Rattle.layer.specs.Lowering.{lowered}
use Rattle.layer.specs.Lifting.{Loans, lifts, loan_of, opened_above}
use Rattle.layer.specs.Pools.{may_stand, granted_count}
use Rattle.layer.specs.Possible.{Standing}
use Rattle.layer.proofs.Loans.{no_loan}
use Rattle.layer.proofs.Lowered.{lowered_none}
use Rattle.layer.proofs.Starting.{Allowed, allowed_facts, granted_all, granted_none, stands_empty}
use Rattle.pool.specs.declared.pool.Pool.{Pool}
use Rattle.pool.specs.Lending.{empty_pool, loan_in}
use Rattle.pool.proofs.Lent.{nothing_lent}
use Rattle.layer_steps.specs.Tied.{open_over, Tied}

nothing_lifted : (count : ℕ) (loan : Loans) → opened_above count loan [] ≡ []
unfolding lifts
nothing_lifted count loan = elim (ltb 0 count) as (λ b. cond b (lifts loan []) [] ≡ []) [ true ↦ refl | false ↦ refl ]

module _ {M : Type 0} (I : Meaning M) (m : M) (first count n : ℕ) (q : Pool) (made : q ≡ empty_pool first n) (kept : n ≡ granted_count (I.setup m) (I.kind.reserved (I.setup m)) (I.opened m) first count) where
  abbrev may : Bool
  may = may_stand (I.setup m) (I.kind.reserved (I.setup m)) (I.opened m) first count

  count_is : q.count ≡ granted_count (I.setup m) (I.kind.reserved (I.setup m)) (I.opened m) first count
  count_is = ap (λ (z : Pool). z.count) made ∙ kept

  facts : may ≡ true → Allowed (I.setup m) (I.kind.reserved (I.setup m)) (I.opened m) first count
  facts t = allowed_facts (I.setup m) (I.kind.reserved (I.setup m)) (I.opened m) first count t

  none_kept : may ≡ false → q.count ≡ 0
  none_kept f = count_is ∙ granted_none (I.setup m) (I.kind.reserved (I.setup m)) (I.opened m) first count f

  -- frames are kept only where they may stand
  stood : 0 < q.count → may ≡ true
  stood h = elim (cases_Bool may) [ inl t ↦ t | inr f ↦ (let z = none_kept f in absurd (omega arith)) ]

  pub fresh_open : open_over I m q ≡ []
  fresh_open = elim (cases_Bool may) [
    | inl t ↦ ap (opened_above q.count (loan_in q)) (facts t).empty ∙ nothing_lifted q.count (loan_in q)
    | inr f ↦ ap (λ (z : ℕ). opened_above z (loan_in q) (I.opened m)) (none_kept f)
  ]

  pub fresh_tied : Tied I m q
  fresh_tied = record {
    stands = λ h.
        let t = stood h in
        let s = stands_empty (I.setup m) (I.kind.reserved (I.setup m)) (I.opened m) first count t in
        let all : q.count ≡ count = count_is ∙ granted_all (I.setup m) (I.kind.reserved (I.setup m)) (I.opened m) first count t in
        subst (Standing (I.setup m).frames (I.kind.reserved (I.setup m)) q.first.0 q.count) (sym fresh_open)
        (subst (λ (z : ℕ). Standing (I.setup m).frames (I.kind.reserved (I.setup m)) z q.count []) (sym (ap (λ (z : Pool). z.first.0) made))
        (subst (λ (z : ℕ). Standing (I.setup m).frames (I.kind.reserved (I.setup m)) first z []) (sym all) s));
    same = λ h. ap lowered fresh_open ∙ lowered_none ∙ sym (facts (stood h)).empty;
    lends = λ h f. ap (λ (z : Pool). loan_in z f) made ∙ nothing_lent first n f ∙ sym (ap (λ (z : List Mapping). loan_of z f) fresh_open ∙ no_loan [] f (λ k i. elim i [ ]));
  }
