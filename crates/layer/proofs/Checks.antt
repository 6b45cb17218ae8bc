-- Checks that a call passes, from what is known of it.
use Rattle.std.proofs.Common.{◌≡◌, ℕ, zero, suc, ◌+◌, ◌*◌, ◌/◌, ◌<◌, ◌≤◌, Bool, true, false, eqb, leb, ltb, List, is_some, Some, Option, ◌&&◌, refl, ap, ◌∙◌, arith}
use Rattle.std.proofs.lemmas.Bool.{cond-true, cond-false}
use Rattle.std.proofs.lemmas.Bool.Decides.{nat_tests}
use Rattle.units.specs.declared.direction.Direction.{Direction}
use Rattle.units.specs.declared.direction.Direction.TheVariants.{Both, ToCard, FromCard}
use Rattle.units.specs.declared.fault.FaultKind.{FaultKind}
use Rattle.units.specs.declared.fault.FaultKind.TheVariants.{ReservedFrame, NoCard, OutsideMemory, OtherMapping, WrongHolder, NoDirection, WrongLength}
use Rattle.units.specs.declared.mapping.Mapping.{Mapping}
use Rattle.units.specs.declared.mapping.Request.{Request}
use Rattle.units.specs.declared.mapping.Sync.{Sync}
use Rattle.units.specs.Buffers.{span}
use Rattle.units.specs.Directions.{code_of}
use Rattle.units.specs.Holders.{turned_by}
use Rattle.meaning.specs.Mappings.{find}
use Rattle.meaning.specs.Worlds.{World}
use Rattle.meaning.specs.Checks.{Verdict, fine, errs, fault, ◌then◌, unless, is_card, is_direction, is_buffer, in_memory, is_memory, none_of, none_reserved, as_opened, turnable, admitted, unmap_checks, sync_checks}
use Rattle.meaning.proofs.Verdicts.{Admitted}

pub then_from : (v w : Verdict) → v ≡ fine → (v then w) ≡ w
then_from fine w e = refl
then_from (errs f) w e = absurd (cc)

pub unless_from : (b : Bool) (k : FaultKind) (p : ℕ) → b ≡ true → unless b k p ≡ fine
unless_from b k p e = cond-true b fine (fault k p) e

pub none_of_from : (k : FaultKind) (such : ℕ → Bool) (f n : ℕ) → ((g : ℕ) → f ≤ g → g < f + n → such g ≡ false) → none_of k such f n ≡ fine
unfolding none_of
none_of_from k such f zero h = refl
none_of_from k such f (suc n) h = cond-false (such f) (fault k f) (none_of k such (suc f) n) (h f (omega arith) (omega arith)) ∙ none_of_from k such (suc f) n (λ g l u. h g (omega arith) (omega arith))

-- the checks of a map request that is admitted all pass
pub admitted_from : (W : World) (r : Request) (v : Verdict) → Admitted W r → admitted W r v ≡ v
admitted_from W r v a =
    let x = r.buffer.address in
    let n = r.buffer.length in
    then_from (is_card W r.card.0) _ (unless_from (ltb r.card.0 W.cards) NoCard r.card.0 (grind (arith, nat_tests, a.card)))
    ∙ then_from (is_direction r.direction) _ (unless_from (leb r.direction 2) NoDirection r.direction (grind (arith, nat_tests, a.direction)))
    ∙ then_from (is_buffer x n) _ (unless_from (ltb 0 n && leb (span x n) 8) WrongLength n (grind (arith, nat_tests, a.some, a.short)))
    ∙ then_from (in_memory W x n) _ (unless_from (eqb W.size (W.frames * 4096) && leb (x + n) (W.frames * 4096)) OutsideMemory (W.frames * 4096) (grind (arith, nat_tests, a.memory, a.inside)))
    ∙ then_from (none_reserved W.reserved (x / 4096) (span x n)) v (none_of_from ReservedFrame W.reserved (x / 4096) (span x n) a.clean)

direction_number : (d : Direction) → leb (code_of d) 2 ≡ true
direction_number Both = refl
direction_number ToCard = refl
direction_number FromCard = refl

-- an unmap passes that names an open mapping
pub unmap_from : (W : World) (o : List Mapping) (c v : ℕ) (m : Mapping) → c < W.cards → W.size ≡ W.frames * 4096 → find o c v ≡ Some m
    → unmap_checks W o c (code_of m.direction) v m.buffer.length ≡ fine
unmap_from W o c v m card memory e =
    let d = code_of m.direction in
    let n = m.buffer.length in
    then_from (is_card W c) _ (unless_from (ltb c W.cards) NoCard c (grind (arith, nat_tests)))
    ∙ then_from (is_direction d) _ (unless_from (leb d 2) NoDirection d (direction_number m.direction))
    ∙ then_from (is_memory W) _ (unless_from (eqb W.size (W.frames * 4096)) OutsideMemory (W.frames * 4096) (grind (arith, nat_tests)))
    ∙ ap (λ (z : Option Mapping). as_opened z v d n) e
    ∙ unless_from (eqb n n && eqb d d) OtherMapping n (grind (arith, nat_tests))

-- a sync passes that turns an open mapping's holder
pub sync_from : (W : World) (o : List Mapping) (s : Sync) (c v : ℕ) (m : Mapping) → c < W.cards → W.size ≡ W.frames * 4096 → find o c v ≡ Some m
    → is_some (turned_by m.holder s) ≡ true → sync_checks W o s c v ≡ fine
sync_from W o s c v m card memory e turns =
    then_from (is_card W c) _ (unless_from (ltb c W.cards) NoCard c (grind (arith, nat_tests)))
    ∙ then_from (is_memory W) _ (unless_from (eqb W.size (W.frames * 4096)) OutsideMemory (W.frames * 4096) (grind (arith, nat_tests)))
    ∙ ap (λ (z : Option Mapping). turnable z v s) e
    ∙ unless_from (is_some (turned_by m.holder s)) WrongHolder v turns
