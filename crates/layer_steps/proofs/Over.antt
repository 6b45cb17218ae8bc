-- A layer over a mapper: what is found in it, and what it holds once it has changed.
use Rattle.mapper.specs.declared.laws.Meaning.{Ghosts as Meaning}
use Rattle.std.proofs.Common.{◌≡◌, ℕ, ◌+◌, ◌^◌, ◌<◌, ◌≤◌, true, cond, ltb, eqb, List, length, Some, None, sym, ap, ◌∙◌, subst, arith}
use Rattle.std.proofs.lemmas.Bool.{cond-true, lt-ltb}
use Rattle.units.specs.declared.mapping.Mapping.{Mapping}
use Rattle.meaning.specs.Mappings.{In, first_page, first_frame, page_count, find}
use Rattle.meaning.specs.Worlds.{Setup}
use Rattle.layer.specs.Lowering.{base_of, down, lowered}
use Rattle.layer.specs.Lifting.{Loans, lifted, loan_of, opened_above}
use Rattle.layer.specs.Pools.{below_setup}
use Rattle.layer.specs.Possible.{Standing, Over}
use Rattle.layer.specs.Lawful.{Lawful}
use Rattle.layer.proofs.Lawful.{lawful_of}
use Rattle.layer.proofs.LawsAbove.{disjoint_over, bounds_over}
use Rattle.layer.proofs.Keeping.{some_over}
use Rattle.layer.proofs.Lifted.{lift_down, lifts_lowered}
use Rattle.layer.proofs.Loans.{own_loan}
use Rattle.layer.proofs.Lowered.{length_lowered, find_nothing, find_above}
use Rattle.layer.proofs.Starting.{below_above, over_above}
use Rattle.pool.specs.declared.pool.Pool.{Pool}
use Rattle.pool.specs.Lending.{loan_in, Lends}
use Rattle.layer_steps.specs.Tied.{setup_over, open_over, Tied}

-- where there is a pool, the layer's list is the one below, lifted
pub open_here : (count : ℕ) (loan : Loans) (p : List Mapping) (o : List Mapping) → 0 < count → lowered o ≡ p → opened_above count loan (lowered o) ≡ o → opened_above count loan p ≡ o
open_here count loan p o h e f = ap (opened_above count loan) (sym e) ∙ f

module _ {M : Type 0} (I : Meaning M) (m : M) (q : Pool) (t : Tied I m q) (some : 0 < q.count) where
  abbrev S : Setup
  S = setup_over I m q

  abbrev o : List Mapping
  o = open_over I m q

  abbrev law : Lawful I.kind I.possible
  law = lawful_of I

  pub over_here : Over I.kind I.possible S o
  over_here = over_above I.kind I.possible (I.setup m) q.first.0 q.count (I.opened m) o (I.standing m) (t.same some) (t.stands some)

  pub set_here : I.setup m ≡ below_setup S
  set_here = sym (below_above (I.setup m) q.first.0 q.count some)

  pub opened_here : I.opened m ≡ lowered o
  opened_here = sym (t.same some)

  -- the bounds below are those above
  pub few_frames : (I.setup m).frames ≤ 1024
  few_frames = (I.bounds (I.setup m) (I.opened m) (I.standing m)).frames

  pub pool_low : q.first.0 + q.count ≤ 1024
  pool_low = let s = t.stands some in let a = s.inside in let b = few_frames in omega arith

  pub lends_here : Lends q (I.setup m).frames (I.kind.reserved (I.setup m)) o
  lends_here = record { standing = t.stands some; few = few_frames; loans = λ f. t.lends some f }

  pub count_here : length (I.opened m) ≡ length o
  count_here = ap length opened_here ∙ length_lowered o

  -- Found -------------------------------------------------------------------------------------------------

  pub nothing_here : (c v : ℕ) → find (I.opened m) c (base_of v) ≡ None → find o c v ≡ None
  nothing_here c v e = find_nothing S o (disjoint_over I.kind I.possible law S o over_here) (some_over I.kind I.possible law S o over_here) c v (ap (λ (z : List Mapping). find z c (base_of v)) (sym opened_here) ∙ e)

  lifts_here : (n : Mapping) → In n o → lifted (down n) (loan_in q (first_frame (down n))) ≡ n
  lifts_here n i =
      let s = t.stands some in
      lift_down (I.setup m).frames (I.kind.reserved (I.setup m)) q.first.0 q.count (loan_in q) n (s.each n i)
      (t.lends some (first_frame n) ∙ own_loan (I.setup m).frames (I.kind.reserved (I.setup m)) q.first.0 q.count o s n i)

  -- a mapping that is found below, with room for an offset behind its addresses
  pub record FoundHere (c v : ℕ) (d : Mapping) : Type 0 where
    pub landing : d.landing + 4096 ≤ 2 ^ 32
    pub device : d.device.0 + 4096 ≤ 2 ^ 64
    pub found : find o c v ≡ cond (eqb (lifted d (loan_in q (first_frame d))).device.0 v) (Some (lifted d (loan_in q (first_frame d)))) None

  pub found_here : (c v : ℕ) (d : Mapping) → find (I.opened m) c (base_of v) ≡ Some d → FoundHere c v d
  found_here c v d e =
      let laws = disjoint_over I.kind I.possible law S o over_here in
      let bounds = bounds_over I.kind I.possible law S o over_here in
      let f = find_above S o laws (some_over I.kind I.possible law S o over_here) c v d (ap (λ (z : List Mapping). find z c (base_of v)) (sym opened_here) ∙ e) in
      let n = f.mapping in
      let b = bounds.each n f.is_open in
      let l = b.landing in
      let frames = bounds.frames in
      let length = b.some in
      let count : 0 < page_count n = omega arith in
      let page = (laws.pages_given n f.is_open (first_page n) (record { from = omega arith; to = omega arith })).1 in
      let last = (bounds.lasts n.card.0 b.card).1 in
      let land : (down n).landing + 4096 ≤ 2 ^ 32 = omega arith in
      let device : (down n).device.0 + 4096 ≤ 2 ^ 64 = omega arith in
      let same : lifted d (loan_in q (first_frame d)) ≡ n = ap (λ (z : Mapping). lifted z (loan_in q (first_frame z))) f.same ∙ lifts_here n f.is_open in
      record {
        landing = subst (λ (z : Mapping). z.landing + 4096 ≤ 2 ^ 32) (sym f.same) land;
        device = subst (λ (z : Mapping). z.device.0 + 4096 ≤ 2 ^ 64) (sym f.same) device;
        found = f.found ∙ ap (λ (z : Mapping). cond (eqb z.device.0 v) (Some z) None) (sym same);
      }

  -- Changed -----------------------------------------------------------------------------------------------

  -- what holds once the list above is l
  pub record Settled (m' : M) (q' : Pool) (l : List Mapping) : Type 0 where
    pub opened : open_over I m' q' ≡ l
    pub tied : Tied I m' q'

  pub settled : (m' : M) (q' : Pool) (l : List Mapping) → q'.first.0 ≡ q.first.0 → q'.count ≡ q.count → I.setup m' ≡ I.setup m → I.opened m' ≡ lowered l
      → Over I.kind I.possible S l → ((f : ℕ) → loan_in q' f ≡ loan_of l f) → Settled m' q' l
  settled m' q' l first count set e h lends =
      let frames = (I.setup m').frames in
      let reserved = I.kind.reserved (I.setup m') in
      let here : below_setup S ≡ I.setup m' = sym (set ∙ set_here) in
      let s : Standing frames reserved q'.first.0 q'.count l =
      subst (λ (z : ℕ). Standing frames reserved z q'.count l) (sym first)
      (subst (λ (z : ℕ). Standing frames reserved q.first.0 z l) (sym count)
      (subst (λ (z : Setup). Standing z.frames (I.kind.reserved z) q.first.0 q.count l) here h.standing)) in
      let lifts = lifts_lowered frames reserved q'.first.0 q'.count (loan_in q') l s lends in
      let is_over : ltb 0 q'.count ≡ true = lt-ltb 0 q'.count (omega arith) in
      let opened : open_over I m' q' ≡ l = ap (opened_above q'.count (loan_in q')) e ∙ cond-true (ltb 0 q'.count) _ _ is_over ∙ lifts in
      record {
        opened = opened;
        tied = record {
          stands = λ h. subst (Standing frames reserved q'.first.0 q'.count) (sym opened) s;
          same = λ h. ap lowered opened ∙ sym e;
          lends = λ h f. lends f ∙ ap (λ (z : List Mapping). loan_of z f) (sym opened);
        };
      }
