-- A layer at its set-up.
use Rattle.std.proofs.Common.{◌≡◌, ℕ, ◌+◌, ◌<◌, ◌≤◌, Bool, true, false, ltb, leb, eqb, List, [], ◌∷◌, length, sym, refl, ◌∙◌, subst, inl, inr, arith}
use Rattle.std.proofs.lemmas.Bool.{cases_Bool, cond-true, cond-false, lt-ltb, eqb-true, leb-true, and_parts}
use Rattle.units.specs.declared.fault.FaultKind.TheVariants.{ReservedFrame}
use Rattle.units.specs.declared.mapping.Mapping.{Mapping}
use Rattle.meaning.specs.Memory.{within}
use Rattle.meaning.specs.Worlds.{Setup, Kind}
use Rattle.meaning.specs.Checks.{Verdict, fine, errs, none_reserved}
use Rattle.meaning.proofs.Facts.{within_true}
use Rattle.meaning.proofs.Verdicts.{none_of_lem}
use Rattle.layer.specs.Lowering.{lowered}
use Rattle.layer.specs.Pools.{if_pool, above, below_setup, is_fine, may_stand, granted_count}
use Rattle.layer.specs.Possible.{Standing, Refused, Over, layer_possible}
use Rattle.layer.proofs.Lowered.{lowered_none}

is_fine_true : (v : Verdict) → is_fine v ≡ true → v ≡ fine
is_fine_true fine e = refl
is_fine_true (errs f) e = absurd (cc)

no_length : (o : List Mapping) → length o ≡ 0 → o ≡ []
no_length [] e = refl
no_length (m ∷ o) e = absurd (omega arith)

-- a layer that has a pool stands over the set-up that it was made with
pub below_above : (S : Setup) (first count : ℕ) → 0 < count → below_setup (above S first count) ≡ S
below_above S first count h = λ i. record { cards = same S.cards i; lasts = S.lasts; frames = same S.frames i; fixed = S.fixed }
  where
    same : (n : ℕ) → if_pool count n ≡ n
    same n = cond-true (ltb 0 count) n 0 (lt-ltb 0 count h)

module _ (S : Setup) (reserved : ℕ → Bool) (o : List Mapping) (first count : ℕ) where
  pub record Allowed : Type 0 where
    pub some : 1 ≤ count
    pub few : count ≤ 16
    pub inside : first + count ≤ S.frames
    pub clear : (f : ℕ) → within first count f ≡ true → reserved f ≡ false
    pub empty : o ≡ []

  pub allowed_facts : may_stand S reserved o first count ≡ true → Allowed
  allowed_facts e =
      let a = and_parts (leb 1 count) _ e in
      let b = and_parts (leb count 16) _ a.1 in
      let c = and_parts (leb (first + count) S.frames) _ b.1 in
      let d = and_parts (is_fine (none_reserved reserved first count)) (eqb (length o) 0) c.1 in
      record {
        some = leb-true 1 count a.0;
        few = leb-true count 16 b.0;
        inside = leb-true (first + count) S.frames c.0;
        clear = λ f w. let t = within_true first count f w in none_of_lem ReservedFrame reserved first count (is_fine_true (none_reserved reserved first count) d.0) f t.0 t.1;
        empty = no_length o (eqb-true (length o) 0 d.1);
      }

  pub granted_all : may_stand S reserved o first count ≡ true → granted_count S reserved o first count ≡ count
  granted_all e = cond-true (may_stand S reserved o first count) count 0 e

  pub granted_none : may_stand S reserved o first count ≡ false → granted_count S reserved o first count ≡ 0
  granted_none e = cond-false (may_stand S reserved o first count) count 0 e

-- nothing is open above: the pool stands where it may, and the layer is refused where it may not
pub stands_empty : (S : Setup) (reserved : ℕ → Bool) (o : List Mapping) (first count : ℕ) → may_stand S reserved o first count ≡ true → Standing S.frames reserved first count []
stands_empty S reserved o first count e =
    let a = allowed_facts S reserved o first count e in
    record { some = a.some; few = a.few; inside = a.inside; clear = a.clear; each = λ m i. elim i [ ]; unshared = tt }

pub refused_above : (S : Setup) (first : ℕ) → Refused (above S first 0) []
refused_above S first = record { cards = refl; frames = refl; pool = refl; empty = refl }

pub over_above : (K : Kind) (P : Setup → List Mapping → Type 0) (S : Setup) (first count : ℕ) (p o : List Mapping) → P S p → lowered o ≡ p
    → Standing S.frames (K.reserved S) first count o → Over K P (above S first count) o
over_above K P S first count p o below same s =
    let e = below_above S first count s.some in
    record {
      below = subst (λ (z : Setup). P z (lowered o)) (sym e) (subst (P S) (sym same) below);
      standing = subst (λ (z : Setup). Standing z.frames (K.reserved z) first count o) (sym e) s;
    }

pub possible_at_setup : (K : Kind) (P : Setup → List Mapping → Type 0) (S : Setup) (o : List Mapping) (first count : ℕ) → P S o
    → layer_possible K P (above S first (granted_count S (K.reserved S) o first count)) []
possible_at_setup K P S o first count h = elim (cases_Bool (may_stand S (K.reserved S) o first count)) [
  | inl t ↦ subst (λ (z : ℕ). layer_possible K P (above S first z) []) (sym (granted_all S (K.reserved S) o first count t))
      (inr (over_above K P S first count o [] h (lowered_none ∙ sym (allowed_facts S (K.reserved S) o first count t).empty) (stands_empty S (K.reserved S) o first count t)))
  | inr f ↦ subst (λ (z : ℕ). layer_possible K P (above S first z) []) (sym (granted_none S (K.reserved S) o first count f)) (inl (refused_above S first))
]
