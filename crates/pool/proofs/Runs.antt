-- The frames that a pool's loans take.
use Rattle.std.proofs.Common.{◌≡◌, ℕ, zero, suc, ◌+◌, ◌-◌, ◌^◌, ◌<◌, ◌≤◌, min, Bool, true, List, [], ◌∷◌, map, get_or, Some, None, Option, Result, MatchResult, sym, refl, ap, ◌∙◌, subst, inl, inr, arith}
use Rattle.std.proofs.lemmas.Bool.{cases_Bool, cases_eq, cond-true, cond-false}
use Rattle.std.proofs.lemmas.Bool.Decides.{nat_tests}
use Rattle.std.specs.List.{range_with_len}
use Rattle.units.specs.declared.buffer.Buffer.{Buffer}
use Rattle.units.specs.declared.fault.Fault.{Fault}
use Rattle.units.specs.declared.fault.FaultKind.TheVariants.{NoFrames}
use Rattle.units.specs.declared.mapping.Mapping.{Mapping}
use Rattle.units.specs.declared.number.Frame.{Frame}
use Rattle.units.specs.Buffers.{span}
use Rattle.chooser.specs.declared.gap.Range.{Range}
use Rattle.chooser.specs.Gaps.{Holds, Untouched}
use Rattle.chooser.specs.Finding.{choice}
use Rattle.meaning.specs.Mappings.{page_count}
use Rattle.meaning.specs.Worlds.{Setup}
use Rattle.meaning.proofs.Facts.{within_true}
use Rattle.layer.specs.Lifting.{loan_of}
use Rattle.layer.specs.Pools.{frame_number}
use Rattle.layer.proofs.Held.{Takes, frame_by_loans}
use Rattle.layer.proofs.Loans.{borrower, frames_in}
use Rattle.pool.specs.declared.pool.Pool.{Pool}
use Rattle.pool.specs.Lending.{has_record, loan_in, run_at, run_of, frames_of_pool, Lends}

untouched_each : (p : Pool) (x a n : ℕ) → ((i : ℕ) → a ≤ i → i < a + n → Holds frame_number (run_of p i) x → ⊥) → Untouched frame_number (map (run_of p) (range_with_len a n)) x
untouched_each p x a zero h = tt
untouched_each p x a (suc n) h = (h a (omega arith) (omega arith), untouched_each p x (a + 1) n (λ i l u. h i (omega arith) (omega arith)))

each_untouched : (p : Pool) (x a n : ℕ) → Untouched frame_number (map (run_of p) (range_with_len a n)) x → (i : ℕ) → a ≤ i → i < a + n → Holds frame_number (run_of p i) x → ⊥
each_untouched p x a zero u i l h = absurd (omega arith)
each_untouched p x a (suc n) u i l h = elim (cases_eq i a) [
  | inl e ↦ (λ t. u.0 (subst (λ (z : ℕ). Holds frame_number (run_of p z) x) e t))
  | inr d ↦ each_untouched p x (a + 1) n u.1 i (omega arith) (omega arith)
]

module _ (p : Pool) where
  -- a loan has its place
  pub loan_place : (f : ℕ) (b : Buffer) → loan_in p f ≡ Some b → (p.first.0 ≤ f) × (f - p.first.0 < 16) × (get_or p.loans (f - p.first.0) None ≡ Some b)
  unfolding loan_in
  loan_place f b e = elim (cases_Bool (has_record p f)) [
    | inl t ↦ (grind (arith, nat_tests), grind (arith, nat_tests), sym (cond-true (has_record p f) (get_or p.loans (f - p.first.0) None) None t) ∙ e)
    | inr t ↦ (let n : None ≡ Some b = sym (cond-false (has_record p f) (get_or p.loans (f - p.first.0) None) None t) ∙ e in absurd (cc))
  ]

  -- and a place its loan
  place_loan : (i : ℕ) → i < 16 → loan_in p (p.first.0 + i) ≡ get_or p.loans i None
  unfolding loan_in
  place_loan i h =
      let same : p.first.0 + i - p.first.0 ≡ i = omega arith in
      let t : has_record p (p.first.0 + i) ≡ true = grind (arith, nat_tests) in
      cond-true (has_record p (p.first.0 + i)) (get_or p.loans (p.first.0 + i - p.first.0) None) None t ∙ ap (λ (z : ℕ). get_or p.loans z None) same

  module _ (frames : ℕ) (reserved : ℕ → Bool) (o : List Mapping) (h : Lends p frames reserved o) where
    -- a frame that is lent is in memory
    pub lent_low : (f : ℕ) (b : Buffer) → loan_of o f ≡ Some b → f < 1024
    lent_low f b e =
        let r = borrower o f b e in
        let s = h.standing in
        let fit = s.each r.mapping r.is_open in
        let same = r.frame in
        let length = fit.some in
        let some : 0 < page_count r.mapping = omega arith in
        let inside = (within_true p.first.0 p.count f (frames_in frames reserved p.first.0 p.count r.mapping f fit r.part (omega arith) (omega arith))).1 in
        let room = s.inside in
        let few = h.few in
        omega arith

    abbrev Runs : List (Range Frame)
    Runs = map (run_of p) (range_with_len 0 16)

    run_here : (i : ℕ) (b : Buffer) → get_or p.loans i None ≡ Some b → p.first.0 + i < 1024 → run_of p i ≡ record { first = record { 0 = p.first.0 + i }; count = span b.address b.length }
    run_here i b e l =
        let same : min (p.first.0 + i) (2 ^ 32 - 1) ≡ p.first.0 + i = omega arith in
        ap (run_at (min (p.first.0 + i) (2 ^ 32 - 1))) e ∙ ap (λ (z : ℕ). run_at z (Some b)) same

    taken : (x : ℕ) → Untouched frame_number Runs x → Takes (loan_of o) x → ⊥
    taken x u t =
        let f = t.frame in
        let b = t.buffer in
        let q = loan_place f b (h.loans f ∙ t.lent) in
        let i = f - p.first.0 in
        let low = lent_low f b t.lent in
        let from = t.from in
        let to = t.to in
        let l = q.0 in
        let place = q.1 in
        let here : p.first.0 + i ≡ f = omega arith in
        let run = run_here i b q.2 (omega arith) in
        each_untouched p x 0 16 u i (omega arith) (omega arith)
        (subst (λ (z : Range Frame). Holds frame_number z x) (sym run) (omega arith, omega arith))

    free : (x : ℕ) → (Takes (loan_of o) x → ⊥) → Untouched frame_number Runs x
    free x n = untouched_each p x 0 16 (λ i l u. go i (omega arith) (get_or p.loans i None) refl)
      where
        go : (i : ℕ) → i < 16 → (b : Option Buffer) → get_or p.loans i None ≡ b → Holds frame_number (run_of p i) x → ⊥
        go i u None e t =
            let k = subst (λ (z : Range Frame). Holds frame_number z x) (ap (run_at (min (p.first.0 + i) (2 ^ 32 - 1))) e) t in
            let low = k.1 in absurd (omega arith)
        go i u (Some b) e t =
            let lends = sym (h.loans (p.first.0 + i)) ∙ place_loan i u ∙ e in
            let k = subst (λ (z : Range Frame). Holds frame_number z x) (run_here i b e (lent_low (p.first.0 + i) b lends)) t in
            n (record { frame = p.first.0 + i; buffer = b; lent = lends; from = k.0; to = k.1 })

    abbrev S : Setup
    S = record { cards = 0; lasts = []; frames = frames; fixed = p.first.0 ∷ p.count ∷ [] }

    -- the chooser over them gives the choice over the open mappings
    chooses : (hi n : ℕ) → hi ≡ min (p.first.0 + p.count) (2 ^ 32 - 1) - 1 → 0 < n → choice frame_number p.first.0 hi Runs n ≡ frames_of_pool p o n
    chooses hi n e pos =
        let s = h.standing in
        let room = s.inside in
        let few = h.few in
        let top : hi ≡ p.first.0 + p.count - 1 = omega arith in
        ap (λ (z : ℕ). choice frame_number p.first.0 z Runs n) top ∙ frame_by_loans S reserved o Runs n pos s taken free

    pub chosen : (hi n : ℕ) (us : List (Range Frame)) (r : Result Frame Fault) → us ≡ Runs → hi ≡ min (p.first.0 + p.count) (2 ^ 32 - 1) - 1 → 0 < n
        → MatchResult r (λ k. choice frame_number p.first.0 hi us n ≡ Some k.0) (λ f. (choice frame_number p.first.0 hi us n ≡ None) × (f ≡ record { kind = NoFrames; layer = 0; place = n }))
        → MatchResult r (λ k. frames_of_pool p o n ≡ Some k.0) (λ f. (frames_of_pool p o n ≡ None) × (f ≡ record { kind = NoFrames; layer = 0; place = n }))
    chosen hi n us r u e pos h =
        subst (λ (z : Option ℕ). MatchResult r (λ k. z ≡ Some k.0) (λ f. (z ≡ None) × (f ≡ record { kind = NoFrames; layer = 0; place = n })))
        (ap (λ (z : List (Range Frame)). choice frame_number p.first.0 hi z n) u ∙ chooses hi n e pos) h
