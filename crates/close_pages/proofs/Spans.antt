-- One page after the other of a span closed.
use Rattle.std.proofs.Common.{◌≡◌, ℕ, ◌+◌, ◌-◌, ◌<◌, Bool, true, false, cond, ◌||◌, eqb, List, [], ◌∷◌, inl, inr, sym, refl, ap, ◌∙◌, subst, add-one, arith}
use Rattle.std.proofs.Math.Path.{fun_ext}
use Rattle.std.proofs.lemmas.Bool.{cases_Bool, cond-true, cond-false, or_right}
use Rattle.std.proofs.lemmas.Bool.Decides.{nat_tests}
use Rattle.meaning.specs.Memory.{within}
use Rattle.tree.specs.declared.place.Table.{Table}
use Rattle.tree.specs.Layout.{put, put_span, without, without_span, Fits}
use Rattle.tree.proofs.Rows.{put_span_none, put_span_more, within_over}
use Rattle.close_pages.specs.Closing.{AreOpen, Closed, ClosedOne}

within_none : (q x : ℕ) → within q 0 x ≡ false
within_none q x = grind (arith, nat_tests)

within_more : (q n x : ℕ) → within q (n + 1) x ≡ eqb x (q + n) || within q n x
within_more q n x = grind (arith, nat_tests)

-- The words ------------------------------------------------------------------------------------------------

put_none : (leaf : ℕ → ℕ) (q : ℕ) (w : ℕ → ℕ) → put_span leaf q 0 w ≡ leaf
put_none leaf q w = fun_ext (put_span_none leaf q w)

put_past : (leaf : ℕ → ℕ) (q n : ℕ) (w : ℕ → ℕ) → put_span leaf q n w (q + n) ≡ leaf (q + n)
unfolding put_span
put_past leaf q n w = cond-false (within q n (q + n)) (w (q + n - q)) (leaf (q + n)) (within_over q n (q + n) (omega arith))

put_more : (leaf : ℕ → ℕ) (q n : ℕ) → put (put_span leaf q n (λ j. 0)) (q + n) 0 ≡ put_span leaf q (n + 1) (λ j. 0)
put_more leaf q n = fun_ext (put_span_more leaf q n (λ j. 0)) ∙ ap (λ (z : ℕ). put_span leaf q z (λ j. 0)) (sym (add-one n))

-- The pages ------------------------------------------------------------------------------------------------

without_none : (q : ℕ) (qs : List ℕ) → without_span q 0 qs ≡ qs
unfolding without_span
without_none q [] = refl
without_none q (x ∷ xs) = cond-false (within q 0 x) (without_span q 0 xs) (x ∷ without_span q 0 xs) (within_none q x) ∙ ap (λ ys. x ∷ ys) (without_none q xs)

without_more : (q n : ℕ) (qs : List ℕ) → without (q + n) (without_span q n qs) ≡ without_span q (n + 1) qs
unfolding without without_span
without_more q n [] = refl
without_more q n (x ∷ xs) = go (within q n x) (without_more q n xs) ∙ ap (λ b. cond b (without_span q (n + 1) xs) (x ∷ without_span q (n + 1) xs)) (sym (within_more q n x))
  where
    go : (b : Bool) → without (q + n) (without_span q n xs) ≡ without_span q (n + 1) xs
        → without (q + n) (cond b (without_span q n xs) (x ∷ without_span q n xs)) ≡ cond (eqb x (q + n) || b) (without_span q (n + 1) xs) (x ∷ without_span q (n + 1) xs)
    go true h = h ∙ sym (cond-true (eqb x (q + n) || true) (without_span q (n + 1) xs) (x ∷ without_span q (n + 1) xs) (or_right (eqb x (q + n)) true refl))
    go false h = elim (cases_Bool (eqb x (q + n))) [
      | inl e ↦ rw e h
      | inr e ↦ rw e (ap (λ ys. x ∷ ys) h)
    ]

-- Closing --------------------------------------------------------------------------------------------------

-- before the first page is closed
pub closed_none : (ts : List Table) (ws : List ℕ) (q : ℕ) → Closed ts ws ts ws q 0
closed_none ts ws q C T leaf qs F n =
    subst (λ (f : ℕ → ℕ). Fits C T ts f (without_span q 0 qs) ws) (sym (put_none leaf q (λ j. 0)))
    (subst (λ (rs : List ℕ). Fits C T ts leaf rs ws) (sym (without_none q qs)) F)

-- the next page is still open
pub next_open : (ts : List Table) (ws : List ℕ) (ts' : List Table) (ws' : List ℕ) (q n m : ℕ) → AreOpen ts ws q m → Closed ts ws ts' ws' q n → n < m → AreOpen ts' ws' (q + n) 1
next_open ts ws ts' ws' q n m h c b = record {
  cards = h.cards;
  tables = h.tables;
  leaf = put_span h.leaf q n (λ j. 0);
  pages = without_span q n h.pages;
  fits = c h.cards h.tables h.leaf h.pages h.fits (λ j k. h.each j (omega arith));
  each = λ j k e. let z : q + n + j ≡ q + n = omega arith in h.each n b (sym (put_past h.leaf q n (λ j. 0)) ∙ (sym (ap (put_span h.leaf q n (λ j. 0)) z) ∙ e));
}

-- one page more
pub closed_more : (ts : List Table) (ws : List ℕ) (ts' : List Table) (ws' : List ℕ) (ts'' : List Table) (ws'' : List ℕ) (q n : ℕ) → Closed ts ws ts' ws' q n → ClosedOne ts' ws' ts'' ws'' (q + n) → Closed ts ws ts'' ws'' q (n + 1)
closed_more ts ws ts' ws' ts'' ws'' q n c o C T leaf qs F h =
    subst (λ (f : ℕ → ℕ). Fits C T ts'' f (without_span q (n + 1) qs) ws'') (put_more leaf q n)
    (subst (λ (rs : List ℕ). Fits C T ts'' (put (put_span leaf q n (λ j. 0)) (q + n) 0) rs ws'') (without_more q n qs)
    (o C T (put_span leaf q n (λ j. 0)) (without_span q n qs) (c C T leaf qs F (λ j k. h j (omega arith)))
    (λ e. h n (omega arith) (sym (put_past leaf q n (λ j. 0)) ∙ e))))
