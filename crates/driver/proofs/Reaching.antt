-- An access of the CPU at an address past the top is refused as one at the top.
use Rattle.mapper.specs.declared.laws.Meaning.{Ghosts as Meaning}
use Rattle.std.proofs.Common.{◌≡◌, ℕ, ◌+◌, ◌-◌, ◌*◌, ◌/◌, ◌^◌, ◌<◌, ◌≤◌, min, Bool, false, ◌&&◌, eqb, ltb, leb, List, length, Option, sym, refl, ap, ◌∙◌, subst, inl, inr, arith}
use Rattle.std.proofs.lemmas.Bool.{cases_lt}
use Rattle.std.proofs.lemmas.Bool.Decides.{nat_tests}
use Rattle.units.specs.declared.fault.Fault.{Fault}
use Rattle.units.specs.declared.fault.FaultKind.TheVariants.{WrongLength, OutsideMemory}
use Rattle.units.specs.declared.mapping.Mapping.{Mapping}
use Rattle.units.specs.declared.report.Report.{Report}
use Rattle.units.specs.Buffers.{span}
use Rattle.meaning.specs.Worlds.{World}
use Rattle.meaning.specs.Calls.{Answer, Call, cpu_read, cpu_write}
use Rattle.meaning.specs.Checks.{Verdict, fine, errs, unless, ◌then◌, is_access, in_memory, none_reserved, none_held, cpu_checks, verdict}
use Rattle.meaning.specs.Effects.{State, answered, on_fine, accepted, moved, noting, said}
use Rattle.meaning.proofs.Verdicts.{unless_fine}
use Rattle.mapper.specs.Tasks.{Task, task_of, Left}
use Rattle.mapper.specs.Called.{here}
use Rattle.engine.specs.declared.Engine.{Engine}
use Rattle.engine.specs.Made.{state, Made, MadeRead}

-- both accesses are refused, and alike
record Alike (v w : Verdict) : Type 0 where
  fault : Fault
  one : v ≡ errs fault
  other : w ≡ errs fault

in_memory_past : (W : World) (a n : ℕ) → W.frames ≤ 1024 → 2 ^ 32 - 1 ≤ a → 0 < n → in_memory W a n ≡ unless false OutsideMemory (W.frames * 4096)
in_memory_past W a n f t s =
    let b : (eqb W.size (W.frames * 4096) && leb (a + n) (W.frames * 4096)) ≡ false = grind (arith, nat_tests) in
    ap (λ (z : Bool). unless z OutsideMemory (W.frames * 4096)) b

some : (n room : ℕ) → is_access n room ≡ fine → 0 < n
some n room e = let b = unless_fine (ltb 0 n && (leb n 64 && leb n room)) WrongLength n e in grind (arith, nat_tests)

alike : (W : World) (o : List Mapping) (a b n room : ℕ) → W.frames ≤ 1024 → 2 ^ 32 - 1 ≤ a → 2 ^ 32 - 1 ≤ b → Alike (cpu_checks W o a n room) (cpu_checks W o b n room)
alike W o a b n room f s t = go (is_access n room) refl
  where
    rest : ℕ → Verdict
    rest p = none_reserved W.reserved (p / 4096) (span p n) then none_held o p n

    past : Fault
    past = record { kind = OutsideMemory; layer = 0; place = W.frames * 4096 }

    go : (v : Verdict) → is_access n room ≡ v → Alike (v then (in_memory W a n then rest a)) (v then (in_memory W b n then rest b))
    go (errs k) e = record { fault = k; one = refl; other = refl }
    go fine e = record {
      fault = past;
      one = ap (λ (w : Verdict). w then rest a) (in_memory_past W a n f s (some n room e));
      other = ap (λ (w : Verdict). w then rest b) (in_memory_past W b n f t (some n room e));
    }

module _ {M : Type 0} (I : Meaning M) where
  few_frames : (m : M) → (I.setup m).frames ≤ 1024
  few_frames m = (I.bounds (I.setup m) (I.opened m) (I.standing m)).frames

  -- what is made of a refused call is made of another that is refused alike
  alike_made : {e e' : Engine M} {x x' : List ℕ} {b : Answer} (c d : Call)
      → Alike (verdict (here I e.mapper x) (I.opened e.mapper) c) (verdict (here I e.mapper x) (I.opened e.mapper) d)
      → ((w : Verdict) (r : ℕ → Report) → noting w r c ≡ noting w r d) → task_of c ≡ task_of d → Made I e e' x x' c b → Made I e e' x x' d b
  alike_made {e = e} {e' = e'} {x = x} {b = b} c d k same task made =
      let W = here I e.mapper x in
      let s = state (I.opened e.mapper) x e.reports in
      let left_by : Call → Verdict → State = λ z w. record { opens = on_fine w (accepted W s.opens z) s.opens; memory = on_fine w (moved W s.opens s.memory z) s.memory; reports = noting w s.reports z } in
      let blocked : State = record { opens = s.opens; memory = s.memory; reports = noting (errs k.fault) s.reports c } in
      let reports : noting (errs k.fault) s.reports c ≡ noting (errs k.fault) s.reports d = same (errs k.fault) s.reports in
      record {
        fixed = made.fixed;
        answers = made.answers ∙ (ap (λ (w : Verdict). answered w (said W s c)) k.one ∙ sym (ap (λ (w : Verdict). answered w (said W s d)) k.other));
        becomes = made.becomes ∙ (ap (left_by c) k.one
            ∙ (ap (λ (r : ℕ → Report). let t : State = record { opens = s.opens; memory = s.memory; reports = r } in t) reports ∙ sym (ap (left_by d) k.other)));
        left = subst (λ (z : Option Task). Left I.leaves e.mapper e'.mapper z b) task made.left;
      }

  pub write_past : {e : Engine M} {x x' t : List ℕ} {b : Answer} {k : ℕ} (a : ℕ) → k ≡ min a (2 ^ 32 - 1) → Made I e e x x' (cpu_write k t) b → Made I e e x x' (cpu_write a t) b
  unfolding verdict
  write_past {e = e} {x = x} {x' = x'} {t = t} {b = b} {k = k} a p made = elim (cases_lt a (2 ^ 32 - 1)) [
    | inl l ↦ (let same : k ≡ a = omega arith in subst (λ (z : ℕ). Made I e e x x' (cpu_write z t) b) same made)
    | inr l ↦ alike_made (cpu_write k t) (cpu_write a t) (alike (here I e.mapper x) (I.opened e.mapper) k a (length t) (length t) (few_frames e.mapper) (omega arith) l) (λ w r. refl) refl made
  ]

  pub read_past : {e : Engine M} {x t t' : List ℕ} {n : ℕ} {b : Answer} {k : ℕ} (a : ℕ) → k ≡ min a (2 ^ 32 - 1) → MadeRead I e e x t t' (cpu_read k n t) b → MadeRead I e e x t t' (cpu_read a n t) b
  unfolding verdict
  read_past {e = e} {x = x} {t = t} {t' = t'} {n = n} {b = b} {k = k} a p read = record {
    made = elim (cases_lt a (2 ^ 32 - 1)) [
      | inl l ↦ (let same : k ≡ a = omega arith in subst (λ (z : ℕ). Made I e e x x (cpu_read z n t) b) same read.made)
      | inr l ↦ alike_made (cpu_read k n t) (cpu_read a n t) (alike (here I e.mapper x) (I.opened e.mapper) k a n (length t) (few_frames e.mapper) (omega arith) l) (λ w r. refl) refl read.made
    ];
    buffer = read.buffer;
  }
