-- What is found is the best gap, whatever the preference, and there is one best gap at most.
use Rattle.std.proofs.Common.{◌≡◌, ℕ, suc, ◌+◌, ◌-◌, ◌<◌, ◌≤◌, Bool, true, false, cond, ◌&&◌, ltb, leb, ◌⊎◌, List, [], ◌∷◌, Some, None, Option, sym, refl, ap, ◌∙◌, subst, inl, inr, ⊎_elim, arith}
use Rattle.std.proofs.lemmas.Bool.{leb-true, ltb-true, ltb-false, and_parts, cases_Bool, cases_eq, cond-true, cond_both}
use Rattle.std.proofs.lemmas.Option.{cond_some}
use Rattle.std.proofs.lemmas.Bool.Decides.{nat_tests}
use Rattle.chooser.specs.declared.gap.Range.{Range}
use Rattle.chooser.specs.declared.gap.Gap.{Gap}
use Rattle.chooser.specs.Preference.{Order}
use Rattle.chooser.specs.Gaps.{Holds, Untouched, Free, IsGap, Fits, Best, NoRoom}
use Rattle.chooser.specs.Finding.{held, clear, cut_by, last_from, gap_at, roomy, better, best_behind, best_of, best_gap}

module _ {N : Type 0} (v : N → ℕ) where
  -- the tests say what they should

  held_true : (r : Range N) (x : ℕ) → held v r x ≡ true → Holds v r x
  held_true r x e = grind (arith, nat_tests)

  held_false : (r : Range N) (x : ℕ) → held v r x ≡ false → Holds v r x → ⊥
  held_false r x e h = grind (arith, nat_tests)

  pub clear_true : (rs : List (Range N)) (x : ℕ) → clear v rs x ≡ true → Untouched v rs x
  clear_true [] x e = tt
  clear_true (r ∷ rs) x e = (λ h. grind (arith, nat_tests), clear_true rs x (grind (arith, nat_tests)))

  pub clear_from : (rs : List (Range N)) (x : ℕ) → Untouched v rs x → clear v rs x ≡ true
  clear_from [] x u = refl
  clear_from (r ∷ rs) x u = grind (arith, nat_tests, u.0, clear_from rs x u.1)

  -- the end of a run from s

  cut_cases : (r : Range N) (s last : ℕ) →
      ((cut_by v r s last ≡ v r.first - 1) × (s < v r.first) × (v r.first ≤ last) × (0 < r.count)) ⊎ ((cut_by v r s last ≡ last) × ((s < v r.first) → (v r.first ≤ last) → (0 < r.count) → ⊥))
  cut_cases r s last = grind (arith, nat_tests)

  pub last_le : (rs : List (Range N)) (s last : ℕ) → last_from v rs s last ≤ last
  last_le [] s last = omega arith
  last_le (r ∷ rs) s last = grind (arith, nat_tests, last_le rs s (cut_by v r s last))

  pub last_ge : (rs : List (Range N)) (s last : ℕ) → s ≤ last → s ≤ last_from v rs s last
  last_ge [] s last h = h
  last_ge (r ∷ rs) s last h = last_ge rs s (cut_by v r s last) (grind (arith, nat_tests))

  pub run_free : (rs : List (Range N)) (s last x : ℕ) → Untouched v rs s → s ≤ x → x ≤ last_from v rs s last → Untouched v rs x
  run_free [] s last x u h k = tt
  run_free (r ∷ rs) s last x u h k =
      let a = last_le rs s (cut_by v r s last) in (
        (λ t. grind (arith, nat_tests, u.0, cut_cases r s last)),
        run_free rs s (cut_by v r s last) x u.1 h k,
      )

  pub run_ends : (rs : List (Range N)) (s last : ℕ) → (last_from v rs s last ≡ last) ⊎ (Untouched v rs (suc (last_from v rs s last)) → ⊥)
  run_ends [] s last = inl refl
  run_ends (r ∷ rs) s last =
      ⊎_elim
      (λ e. ⊎_elim (λ c. inr (λ u. u.0 (grind arith))) (λ c. inl (e ∙ c.0)) (cut_cases r s last))
      (λ n. inr (λ u. n u.1))
      (run_ends rs s (cut_by v r s last))

  -- a gap begins at lo or behind a range

  pub Behind : List (Range N) → Gap → Type 0
  Behind [] h = ⊥
  Behind (r ∷ rs) h = ((0 < r.count) × (h.first ≡ v r.first + r.count)) ⊎ Behind rs h

  behind_from : (rs : List (Range N)) (x : ℕ) (h : Gap) → suc x ≡ h.first → (Untouched v rs x → ⊥) → Untouched v rs h.first → Behind rs h
  unfolding Behind
  behind_from [] x h e n u = absurd (n tt)
  behind_from (r ∷ rs) x h e n u =
      ⊎_elim
      (λ t.
      inl (grind (arith, held_true r x t, u.0)))
      (λ t. inr (behind_from rs x h e (λ w. n (held_false r x t, w)) u.1))
      (cases_Bool (held v r x))

  module _ (lo hi : ℕ) (used : List (Range N)) where
    same_gap : (g h : Gap) → g.first ≡ h.first → g.last ≡ h.last → g ≡ h
    same_gap g h p q = λ i. record { first = p i; last = q i }

    last_not_below : (g h : Gap) → IsGap v lo hi used g → IsGap v lo hi used h → g.first ≡ h.first → g.last < h.last → ⊥
    last_not_below g h G H e l = G.high (H.free (suc g.last) (omega arith) (omega (arith, G.some)))

    pub one_start : (g h : Gap) → IsGap v lo hi used g → IsGap v lo hi used h → g.first ≡ h.first → g ≡ h
    one_start g h G H e =
        same_gap g h e (grind (arith, last_not_below g h G H e, last_not_below h g H G (sym e)))

    start_not_inside : (g h : Gap) → IsGap v lo hi used g → IsGap v lo hi used h → g.first < h.first → h.first ≤ g.last → ⊥
    start_not_inside g h G H l k = H.low (h.first - 1) (omega arith) (G.free (h.first - 1) (omega arith) (omega arith))

    pub same_or_apart : (g h : Gap) → IsGap v lo hi used g → IsGap v lo hi used h → (g ≡ h) ⊎ ((g.last < h.first) ⊎ (h.last < g.first))
    same_or_apart g h G H =
        ⊎_elim
        (λ e. inl (one_start g h G H e))
        (λ n. inr (grind (arith, start_not_inside g h G H, start_not_inside h g H G)))
        (cases_eq g.first h.first)

    run : ℕ → Gap
    run s = record { first = s; last = last_from v used s hi }

    run_gap : (s : ℕ) → lo ≤ s → s ≤ hi → Untouched v used s → ((x : ℕ) → suc x ≡ s → Free v lo hi used x → ⊥) → IsGap v lo hi used (run s)
    unfolding run
    run_gap s a b u low =
        let le = last_le used s hi in
        record {
          some = last_ge used s hi b;
          free = λ x h k. record { above = omega arith; below = omega arith; clear = run_free used s hi x u h k };
          low = low;
          high = λ f. ⊎_elim (λ e. let z = f.below in omega arith) (λ n. n f.clear) (run_ends used s hi);
        }

    test : ℕ → Bool
    test s = leb lo s && (leb s hi && clear v used s)

    -- what is made at a start that is one
    pub at_start : (s : ℕ) → ((x : ℕ) → suc x ≡ s → Free v lo hi used x → ⊥) → (g : Gap) → gap_at v lo hi used s ≡ Some g → IsGap v lo hi used g
    unfolding run test
    at_start s low g e =
        let t = cond_some (test s) (run s) g e in
        let p = and_parts (leb lo s) (leb s hi && clear v used s) t.0 in
        let q = and_parts (leb s hi) (clear v used s) p.1 in
        let P : Gap → Type 0 = λ y. IsGap v lo hi used y in
        subst P t.1 (run_gap s (leb-true lo s p.0) (leb-true s hi q.0) (clear_true used s q.1) low)

    pub at_gap : (s : ℕ) (h : Gap) → IsGap v lo hi used h → h.first ≡ s → gap_at v lo hi used s ≡ Some h
    unfolding run test
    at_gap s h H e =
        let so = H.some in
        let f = H.free h.first (omega arith) so in
        let a = f.above in
        let b = f.below in
        let P : ℕ → Type 0 = λ y. Untouched v used y in
        let u : Untouched v used s = subst P e f.clear in
        let t : test s ≡ true = grind (arith, nat_tests, clear_from used s u) in
        let R : IsGap v lo hi used (run s) = run_gap s (omega arith) (omega arith) u (λ x k. H.low x (k ∙ sym e)) in
        cond-true (test s) (Some (run s)) None t ∙ ap (λ y. Some y) (one_start (run s) h R H (sym e))

    module _ (over : Gap → Gap → Bool) (O : Order over) (n : ℕ) where
      -- a is the best of the gaps in S that hold n
      BestIn : (Gap → Type 0) → Option Gap → Type 0
      BestIn S None = (h : Gap) → S h → IsGap v lo hi used h → Fits n h → ⊥
      BestIn S (Some g) = IsGap v lo hi used g × Fits n g × ((h : Gap) → S h → IsGap v lo hi used h → Fits n h → (h ≡ g) ⊎ (over g h ≡ true))

      roomy_true : (g : Gap) → roomy n g ≡ true → Fits n g
      roomy_true g e = grind (arith, nat_tests)

      roomy_false : (g : Gap) → roomy n g ≡ false → g.first ≤ g.last → Fits n g → ⊥
      roomy_false g e s f = grind (arith, nat_tests)

      -- one more start
      step : (S : Gap → Type 0) (s : ℕ) (a o : Option Gap) → ((g : Gap) → o ≡ Some g → IsGap v lo hi used g) → ((h : Gap) → IsGap v lo hi used h → h.first ≡ s → o ≡ Some h) →
          BestIn S a → BestIn (λ h. S h ⊎ (h.first ≡ s)) (better over n a o)
      unfolding BestIn
      step S s None None from to b =
          λ h m H f. grind (arith, b h, to h H)
      step S s (Some g) None from to b =
          (b.0, b.1, λ h m H f. grind (arith, b.2 h, to h H))
      step S s None (Some g) from to b =
          let G = from g refl in
          let P : Option Gap → Type 0 = λ y. BestIn (λ h. S h ⊎ (h.first ≡ s)) y in
          cond_both (roomy n g) (Some g) None P
          (λ t. (G, roomy_true g t, λ h m H f. grind (arith, b h, to h H)))
          (λ t h m H f. grind (arith, b h, to h H, roomy_false g t))
      step S s (Some c) (Some g) from to b =
          let G = from g refl in
          let P : Option Gap → Type 0 = λ y. BestIn (λ h. S h ⊎ (h.first ≡ s)) y in
          cond_both (roomy n g) (cond (over g c) (Some g) (Some c)) (Some c) P
          (λ t. cond_both (over g c) (Some g) (Some c) P
          (λ k. (G, roomy_true g t, λ h m H f. grind (arith, b.2 h, to h H, O.onwards g c h)))
          (λ k. (b.0, b.1, λ h m H f. grind (arith, b.2 h, to h H, same_or_apart g c G b.0, O.total g c G.some b.0.some))))
          (λ t. (b.0, b.1, λ h m H f. grind (arith, b.2 h, to h H, roomy_false g t)))

      wider : (S R : Gap → Type 0) → ((h : Gap) → R h → IsGap v lo hi used h → S h) → (a : Option Gap) → BestIn S a → BestIn R a
      unfolding BestIn
      wider S R w None b = λ h x H f. b h (w h x H) H f
      wider S R w (Some g) b = (b.0, b.1, λ h x H f. b.2 h (w h x H) H f)

      steps : (rs : List (Range N)) (S : Gap → Type 0) (a : Option Gap) → ((x : ℕ) → Untouched v used x → Untouched v rs x) → BestIn S a →
          BestIn (λ h. S h ⊎ Behind rs h) (best_of v over lo hi used n rs a)
      unfolding Behind
      steps [] S a sub b = wider S (λ h. S h ⊎ Behind [] h) (λ h x _. grind arith) a b
      steps (r ∷ rs) S a sub b =
          let s : ℕ = v r.first + r.count in
          let T : Gap → Type 0 = λ h. S h ⊎ ((0 < r.count) × (h.first ≡ s)) in
          let P : Option Gap → Type 0 = λ y. BestIn T y in
          let one : BestIn T (best_behind v over lo hi used n r a) =
          cond_both (ltb 0 r.count) (better over n a (gap_at v lo hi used s)) a P
          (λ t.
          let c = ltb-true 0 r.count t in
          wider (λ h. S h ⊎ (h.first ≡ s)) T (λ h x _. grind arith) _
          (step S s a (gap_at v lo hi used s) (at_start s (λ x e f. (sub x f.clear).0 (omega arith, omega arith))) (at_gap s) b))
          (λ t. let c = ltb-false 0 r.count t in wider S T (λ h x _. grind arith) a b) in
          wider (λ h. T h ⊎ Behind rs h) (λ h. S h ⊎ Behind (r ∷ rs) h)
          (λ h x _. grind arith)
          _
          (steps rs T (best_behind v over lo hi used n r a) (λ x u. (sub x u).1) one)

      every : (h : Gap) → IsGap v lo hi used h → (h.first ≡ lo) ⊎ Behind used h
      every h H =
          let so = H.some in
          let f = H.free h.first (omega arith) so in
          let a = f.above in
          let b = f.below in
          ⊎_elim
          inl
          (λ e. inr (behind_from used (h.first - 1) h (omega arith)
          (λ u. H.low (h.first - 1) (omega arith) (record { above = omega arith; below = omega arith; clear = u }))
          f.clear))
          (cases_eq h.first lo)

      best_right : BestIn (λ h. Unit {0}) (best_gap v over lo hi used n)
      unfolding BestIn
      best_right =
          wider (λ h. (⊥ ⊎ (h.first ≡ lo)) ⊎ Behind used h) (λ h. Unit {0})
          (λ h _ H. ⊎_elim (λ e. inl (inr e)) inr (every h H))
          (best_gap v over lo hi used n)
          (steps used (λ h. ⊥ ⊎ (h.first ≡ lo)) (better over n None (gap_at v lo hi used lo)) (λ x u. u)
          (step (λ h. ⊥) lo None (gap_at v lo hi used lo)
          (at_start lo (λ x e f. let a = f.above in omega arith))
          (at_gap lo)
          (λ h x H f. x)))

      -- none exactly where no gap holds n, else the best gap
      pub none_right : best_gap v over lo hi used n ≡ None → NoRoom v lo hi used n
      unfolding BestIn
      none_right e = λ g G f. let P : Option Gap → Type 0 = λ y. BestIn (λ h. Unit {0}) y in subst P e best_right g tt G f

      pub some_right : (g : Gap) → best_gap v over lo hi used n ≡ Some g → Best v over lo hi used n g
      unfolding BestIn
      some_right g e =
          let P : Option Gap → Type 0 = λ y. BestIn (λ h. Unit {0}) y in
          let b = subst P e best_right in
          record { gap = b.0; fits = b.1; best = λ h H f. b.2 h tt H f }

      pub best_one : (g h : Gap) → Best v over lo hi used n g → Best v over lo hi used n h → g ≡ h
      best_one g h a b =
          grind (arith, a.best h b.gap b.fits, b.best g a.gap a.fits, O.one_way g h)
