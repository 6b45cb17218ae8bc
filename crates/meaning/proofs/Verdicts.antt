-- What is known once checks have let a call pass.
use Rattle.std.proofs.Common.{◌≡◌, ℕ, zero, suc, ◌+◌, ◌*◌, ◌/◌, ◌%◌, ◌^◌, ◌<◌, ◌≤◌, Bool, true, false, cond, sym, refl, ap, ◌∙◌, inl, inr, arith}
use Rattle.std.proofs.lemmas.Bool.Decides.{nat_tests}
use Rattle.std.proofs.lemmas.Bool.{cases_eq}
use Rattle.units.specs.declared.fault.FaultKind.{FaultKind}
use Rattle.units.specs.declared.fault.FaultKind.TheVariants.{ReservedFrame}
use Rattle.units.specs.declared.mapping.Request.{Request}
use Rattle.units.specs.Buffers.{span}
use Rattle.meaning.specs.Worlds.{World}
use Rattle.meaning.specs.Checks.{Verdict, fine, errs, fault, ◌then◌, unless, is_card, is_direction, is_buffer, is_access, in_memory, is_memory, none_of, none_reserved, one_page, admitted, card_checks}

pub then_fine : (v w : Verdict) → (v then w) ≡ fine → (v ≡ fine) × (w ≡ fine)
then_fine fine w e = (refl, e)
then_fine (errs f) w e = absurd (cc)

pub unless_fine : (b : Bool) (k : FaultKind) (p : ℕ) → unless b k p ≡ fine → b ≡ true
unless_fine true k p e = refl
unless_fine false k p e = absurd (cc)

-- none of them is such
pub none_of_lem : (k : FaultKind) (such : ℕ → Bool) (f n : ℕ) → none_of k such f n ≡ fine → (g : ℕ) → f ≤ g → g < f + n → such g ≡ false
unfolding none_of
none_of_lem k such f zero e g l h = absurd (omega arith)
none_of_lem k such f (suc n) e g l h = go (such f) refl e (λ i j. none_of_lem k such (suc f) n i g j (omega arith))
  where
    go : (b : Bool) → such f ≡ b → cond b (fault k f) (none_of k such (suc f) n) ≡ fine → (none_of k such (suc f) n ≡ fine → suc f ≤ g → such g ≡ false) → such g ≡ false
    go true s i later = absurd (cc)
    go false s i later = elim (cases_eq f g) [ inl same ↦ (ap such (sym same) ∙ s) | inr other ↦ later i (omega arith) ]

-- a card's access that its checks let pass
pub record CardAccess (W : World) (c v n room : ℕ) : Type 0 where
  pub card : c < W.cards
  pub some : 0 < n
  pub short : n ≤ 64
  pub roomy : n ≤ room
  pub memory : W.size ≡ W.frames * 4096
  pub page : v % 4096 + n ≤ 4096
  pub low : v < 2 ^ 48

pub card_access : (W : World) (c v n room : ℕ) (w : Verdict) → card_checks W c v n room w ≡ fine → CardAccess W c v n room
card_access W c v n room w e =
    let a = then_fine (is_card W c) _ e in
    let b = then_fine (is_access n room) _ a.1 in
    let d = then_fine (is_memory W) _ b.1 in
    let p = then_fine (one_page v n) w d.1 in
    record {
      card = grind (arith, nat_tests);
      some = grind (arith, nat_tests);
      short = grind (arith, nat_tests);
      roomy = grind (arith, nat_tests);
      memory = grind (arith, nat_tests);
      page = grind (arith, nat_tests);
      low = grind (arith, nat_tests);
    }

-- a map request that its checks let pass
pub record Admitted (W : World) (r : Request) : Type 0 where
  pub card : r.card.0 < W.cards
  pub direction : r.direction ≤ 2
  pub some : 0 < r.buffer.length
  pub short : span r.buffer.address r.buffer.length ≤ 8
  pub memory : W.size ≡ W.frames * 4096
  pub inside : r.buffer.address + r.buffer.length ≤ W.frames * 4096
  pub clean : (f : ℕ) → r.buffer.address / 4096 ≤ f → f < r.buffer.address / 4096 + span r.buffer.address r.buffer.length → W.reserved f ≡ false

pub admitted_facts : (W : World) (r : Request) (w : Verdict) → admitted W r w ≡ fine → Admitted W r
admitted_facts W r w e =
    let x = r.buffer.address in
    let n = r.buffer.length in
    let a = then_fine (is_card W r.card.0) _ e in
    let b = then_fine (is_direction r.direction) _ a.1 in
    let d = then_fine (is_buffer x n) _ b.1 in
    let m = then_fine (in_memory W x n) _ d.1 in
    let f = then_fine (none_reserved W.reserved (x / 4096) (span x n)) w m.1 in
    record {
      card = grind (arith, nat_tests);
      direction = grind (arith, nat_tests);
      some = grind (arith, nat_tests);
      short = grind (arith, nat_tests);
      memory = grind (arith, nat_tests);
      inside = grind (arith, nat_tests);
      clean = none_of_lem ReservedFrame W.reserved (x / 4096) (span x n) f.0;
    }
