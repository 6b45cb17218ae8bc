-- Lifting what is open below gives what is open above.
use Rattle.mapper.specs.declared.laws.Meaning.{Ghosts as Meaning}
use Rattle.std.proofs.Common.{◌≡◌, ℕ, ◌+◌, ◌%◌, ◌<◌, Bool, false, cond, ltb, List, [], ◌∷◌, Some, None, sym, refl, ap, ◌∙◌, subst, inl, inr, arith}
use Rattle.std.proofs.lemmas.Bool.{cases_Bool, cond-true, cond-false, ltb-true, ltb-false, lt-ltb}
use Rattle.units.specs.declared.mapping.Mapping.{Mapping}
use Rattle.meaning.specs.Mappings.{In, Whole, first_frame, reach_of}
use Rattle.meaning.proofs.Lists.{reach_none}
use Rattle.meaning.specs.Worlds.{Setup}
use Rattle.layer.specs.Lowering.{base_of, down, lowered}
use Rattle.layer.specs.Pools.{above, below_setup, is_whole}
use Rattle.layer.specs.Possible.{Fitting, Standing, Over, layer_possible}
use Rattle.layer.specs.Lifting.{Loans, lifted, lifts, loan_of, opened_above, reached_above}
use Rattle.layer.proofs.Lowered.{down_frame, down_own, reach_lowered}
use Rattle.layer.proofs.Choosing.{whole_true}
use Rattle.layer.proofs.Loans.{own_loan}
use Rattle.layer.proofs.Starting.{below_above, over_above, refused_above}

-- a mapping that is lowered, and lifted by its own loan
lift_whole : (m : Mapping) → Whole m → m.landing ≡ m.buffer.address → m.device.0 % 4096 ≡ m.buffer.address % 4096 → lifted (down m) None ≡ m
lift_whole = down_own

lift_part : (m : Mapping) → m.device.0 % 4096 ≡ m.buffer.address % 4096 → m.landing % 4096 ≡ m.buffer.address % 4096 → lifted (down m) (Some m.buffer) ≡ m
lift_part m d l =
    let a : base_of m.device.0 + m.buffer.address % 4096 ≡ m.device.0 = omega arith in
    let b : base_of m.landing + m.buffer.address % 4096 ≡ m.landing = omega arith in
    λ i. record { card = m.card; direction = m.direction; buffer = m.buffer; device = record { 0 = a i }; landing = b i; holder = m.holder }

module _ (frames : ℕ) (reserved : ℕ → Bool) (first count : ℕ) (loan : Loans) where
  pub lift_down : (m : Mapping) → Fitting frames reserved first count m → loan (first_frame m) ≡ cond (is_whole m) None (Some m.buffer) → lifted (down m) (loan (first_frame (down m))) ≡ m
  lift_down m f e = ap (λ (z : ℕ). lifted (down m) (loan z)) (down_frame m) ∙ ap (lifted (down m)) e ∙ elim (cases_Bool (is_whole m)) [
    | inl w ↦ (let t = whole_true m.buffer.address m.buffer.length w in
        let ww : Whole m = record { starts = t.0; ends = t.1 } in
        ap (lifted (down m)) (cond-true (is_whole m) None (Some m.buffer) w) ∙ lift_whole m ww (f.own ww) f.offset_device)
    | inr w ↦ ap (lifted (down m)) (cond-false (is_whole m) None (Some m.buffer) w) ∙ lift_part m f.offset_device f.offset_landing
  ]

  lifts_lem : (o : List Mapping) → ((m : Mapping) → In m o → Fitting frames reserved first count m) → ((m : Mapping) → In m o → loan (first_frame m) ≡ cond (is_whole m) None (Some m.buffer))
      → lifts loan (lowered o) ≡ o
  unfolding lowered lifts
  lifts_lem [] f e = refl
  lifts_lem (m ∷ o) f e =
      let here = lift_down m (f m (inl refl)) (e m (inl refl)) in
      let later = lifts_lem o (λ n i. f n (inr i)) (λ n i. e n (inr i)) in cc

  -- what is open above is what is open below, lifted by the loans
  pub lifts_lowered : (o : List Mapping) → Standing frames reserved first count o → ((f : ℕ) → loan f ≡ loan_of o f) → lifts loan (lowered o) ≡ o
  lifts_lowered o s e = lifts_lem o s.each (λ m i. e (first_frame m) ∙ own_loan frames reserved first count o s m i)

-- What a layer with these loans means -----------------------------------------------------------------------

none_above : (count : ℕ) (loan : Loans) (p : List Mapping) → ltb 0 count ≡ false → opened_above count loan p ≡ []
none_above count loan p f = cond-false (ltb 0 count) (lifts loan p) [] f

module _ {M : Type 0} (I : Meaning M) (m : M) (first count : ℕ) (loan : Loans) where
  abbrev over : List Mapping
  over = opened_above count loan (I.opened m)

  -- its list is possible, once its pool stands and its list lowered is the one below
  pub stands_over : (0 < count → Standing (I.setup m).frames (I.kind.reserved (I.setup m)) first count over) → (0 < count → lowered over ≡ I.opened m)
      → layer_possible I.kind I.possible (above (I.setup m) first count) over
  stands_over s l = elim (cases_Bool (ltb 0 count)) [
    | inl t ↦ (let p = ltb-true 0 count t in inr (over_above I.kind I.possible (I.setup m) first count (I.opened m) over (I.standing m) (l p) (s p)))
    | inr f ↦ (let z : 0 ≡ count = (let n = ltb-false 0 count f in omega arith) in
        subst (λ (o : List Mapping). layer_possible I.kind I.possible (above (I.setup m) first count) o) (sym (none_above count loan (I.opened m) f))
        (subst (λ (c : ℕ). layer_possible I.kind I.possible (above (I.setup m) first c) []) z (inl (refused_above (I.setup m) first))))
  ]

  -- a card reaches its open mappings
  pub reach_over : (0 < count → lowered over ≡ I.opened m) → (c p : ℕ) → reached_above count (I.reach m c p) ≡ reach_of over c p
  reach_over l c p = elim (cases_Bool (ltb 0 count)) [
    | inl t ↦ cond-true (ltb 0 count) (I.reach m c p) None t ∙ I.exact_reach m c p ∙ ap (λ (z : List Mapping). reach_of z c p) (sym (l (ltb-true 0 count t))) ∙ reach_lowered over c p
    | inr f ↦ cond-false (ltb 0 count) (I.reach m c p) None f ∙ sym (ap (λ (z : List Mapping). reach_of z c p) (none_above count loan (I.opened m) f) ∙ reach_none c p [] (λ n i. elim i [ ]))
  ]

-- Once a call left a list o above, with its lowered list below and its loans, what a layer keeps holds again ------

pub record Settled {M : Type 0} (I : Meaning M) (m : M) (first count : ℕ) (loan : Loans) (o : List Mapping) : Type 0 where
  pub opens : opened_above count loan (I.opened m) ≡ o
  pub standing : 0 < count → Standing (I.setup m).frames (I.kind.reserved (I.setup m)) first count (opened_above count loan (I.opened m))
  pub lent : 0 < count → (f : ℕ) → loan f ≡ loan_of (opened_above count loan (I.opened m)) f
  pub low : 0 < count → lowered (opened_above count loan (I.opened m)) ≡ I.opened m

pub settled : {M : Type 0} (I : Meaning M) (m : M) (first count : ℕ) (loan : Loans) (o : List Mapping) (S : Setup) → 0 < count → I.setup m ≡ S
    → Standing S.frames (I.kind.reserved S) first count o → I.opened m ≡ lowered o → ((f : ℕ) → loan f ≡ loan_of o f) → Settled I m first count loan o
settled I m first count loan o S some same s opens lent =
    let e : opened_above count loan (I.opened m) ≡ o =
    cond-true (ltb 0 count) (lifts loan (I.opened m)) [] (lt-ltb 0 count some) ∙ ap (lifts loan) opens ∙ lifts_lowered S.frames (I.kind.reserved S) first count loan o s lent in
    let here = subst (λ (z : Setup). Standing z.frames (I.kind.reserved z) first count o) (sym same) s in
    record {
      opens = e;
      standing = λ p. subst (Standing (I.setup m).frames (I.kind.reserved (I.setup m)) first count) (sym e) here;
      lent = λ p f. lent f ∙ ap (λ (z : List Mapping). loan_of z f) (sym e);
      low = λ p. ap lowered e ∙ sym opens;
    }

-- what a layer that is not refused keeps, as the calls' lemmas take it
pub record Stands {M : Type 0} (I : Meaning M) (m : M) (first count : ℕ) (o : List Mapping) : Type 0 where
  pub over : Over I.kind I.possible (above (I.setup m) first count) o
  pub set : I.setup m ≡ below_setup (above (I.setup m) first count)
  pub opened : I.opened m ≡ lowered o

pub standing_over : {M : Type 0} (I : Meaning M) (m : M) (first count : ℕ) (o : List Mapping) → 0 < count → Standing (I.setup m).frames (I.kind.reserved (I.setup m)) first count o
    → lowered o ≡ I.opened m → Stands I m first count o
standing_over I m first count o some s low = record {
  over = over_above I.kind I.possible (I.setup m) first count (I.opened m) o (I.standing m) low s;
  set = sym (below_above (I.setup m) first count some);
  opened = sym low;
}
