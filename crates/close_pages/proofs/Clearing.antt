-- The word of one page cleared: all else fits, but tables above it may serve no page.
use Rattle.std.proofs.Common.{◌≡◌, ℕ, ◌+◌, ◌*◌, ◌/◌, ◌%◌, true, false, not, ◌||◌, eqb, List, [], ◌∷◌, set, Some, None, is_some, ◌≢◌, inl, inr, sym, refl, ap, ◌∙◌, subst, arith}
use Rattle.std.proofs.Math.Path.{ap₂}
use Rattle.std.proofs.lemmas.Bool.{cases_eq, eq-eqb, ne_eqb, cond-true, cond-false, not_from_false, both_ways}
use Rattle.walk.specs.Indices.{prefix, index}
use Rattle.tree.specs.declared.place.Table.{Table}
use Rattle.tree.specs.Places.{table_at, place, table_for, Directory}
use Rattle.tree.specs.Layout.{contains, shared, put, without, Laid, Fits}
use Rattle.tree.proofs.Standing.{found_stands}
use Rattle.tree.proofs.Sharing.{contains_shared}
use Rattle.tree.proofs.Writing.{laid_page, put_same, put_other}
use Rattle.close_pages.specs.Closing.{AreOpen, Closing}
use Rattle.close_pages.proofs.Words.{Room, table_room}

-- The pages but one ----------------------------------------------------------------------------------------

without_here : (q : ℕ) (x : ℕ) (xs : List ℕ) → x ≡ q → without q (x ∷ xs) ≡ without q xs
unfolding without
without_here q x xs e = cond-true (eqb x q) (without q xs) (x ∷ without q xs) (eq-eqb x q e)

without_later : (q : ℕ) (x : ℕ) (xs : List ℕ) → x ≢ q → without q (x ∷ xs) ≡ x ∷ without q xs
unfolding without
without_later q x xs n = cond-false (eqb x q) (without q xs) (x ∷ without q xs) (ne_eqb x q n)

pub without_itself : (q : ℕ) (qs : List ℕ) → contains q (without q qs) ≡ false
unfolding without
without_itself q [] = refl
without_itself q (x ∷ xs) = elim (cases_eq x q) [
  | inl e ↦ ap (contains q) (without_here q x xs e) ∙ without_itself q xs
  | inr n ↦ ap (contains q) (without_later q x xs n) ∙ ap₂ (λ a b. a || b) (ne_eqb x q n) (without_itself q xs)
]

pub without_other : (q p : ℕ) (qs : List ℕ) → p ≢ q → contains p (without q qs) ≡ contains p qs
unfolding without
without_other q p [] n = refl
without_other q p (x ∷ xs) n = elim (cases_eq x q) [
  | inl e ↦ ap (contains p) (without_here q x xs e) ∙ (without_other q p xs n ∙ ap (λ b. b || contains p xs) (sym (ne_eqb x p (λ h. n (sym h ∙ e)))))
  | inr m ↦ ap (contains p) (without_later q x xs m) ∙ ap (λ b. eqb x p || b) (without_other q p xs n)
]

pub without_shared : (q l k : ℕ) (qs : List ℕ) → k ≢ prefix l q → shared (without q qs) l k ≡ shared qs l k
unfolding without
without_shared q l k [] n = refl
without_shared q l k (x ∷ xs) n = elim (cases_eq x q) [
  | inl e ↦ ap (λ ys. shared ys l k) (without_here q x xs e) ∙ (without_shared q l k xs n ∙ ap (λ b. b || shared xs l k) (sym (ne_eqb (prefix l x) k (λ h. n (sym h ∙ ap (prefix l) e)))))
  | inr m ↦ ap (λ ys. shared ys l k) (without_later q x xs m) ∙ ap (λ b. eqb (prefix l x) k || b) (without_shared q l k xs n)
]

-- Its word --------------------------------------------------------------------------------------------------

cleared_laid : (C T : ℕ) (ts : List Table) (leaf : ℕ → ℕ) (ws : List ℕ) (p t : ℕ) → Directory C T ts → Laid T ts leaf ws → table_at ts t ≡ place 1 (p / 512)
    → Laid T ts (put leaf p 0) (set ws (t * 512 + p % 512) 0)
cleared_laid C T ts leaf ws p t D L here =
    let w : (p / 512) * 512 + p % 512 ≡ p = omega arith in
    subst (λ (z : ℕ). Laid T ts (put leaf z 0) (set ws (t * 512 + p % 512) 0)) w (laid_page C T ts leaf ws t (p / 512) (p % 512) 0 D L here (omega arith))

-- with its word cleared, a page is being closed
pub closing_starts : (C T : ℕ) (ts : List Table) (leaf : ℕ → ℕ) (qs ws : List ℕ) (p t : ℕ) → Fits C T ts leaf qs ws → table_for ts 1 (prefix 1 p) ≡ Some t
    → Closing 1 p C T ts (put leaf p 0) (without p qs) (set ws (t * 512 + index 0 p) 0)
closing_starts C T ts leaf qs ws p t F e = record {
  directory = F.directory;
  laid = cleared_laid C T ts leaf ws p t F.directory F.laid (found_stands ts 1 (p / 512) t e).1;
  listed = λ q. elim (cases_eq q p) [
    | inl h ↦ ap (λ (z : ℕ). contains z (without p qs)) h ∙ (without_itself p qs ∙ sym (ap (λ (z : ℕ). not (eqb z 0)) (ap (put leaf p 0) h ∙ put_same leaf p 0)))
    | inr n ↦ without_other p q qs n ∙ (F.listed q ∙ sym (ap (λ (z : ℕ). not (eqb z 0)) (put_other leaf p 0 q n)))
  ];
  served = λ l k a b n. F.served l k a b ∙ sym (without_shared p l k qs (n a));
  stands = ap is_some e;
}

-- an open page has its table of level 1
pub open_stands : (ts : List Table) (ws : List ℕ) (p : ℕ) → AreOpen ts ws p 1 → table_for ts 1 (prefix 1 p) ≢ None
open_stands ts ws p h e =
    let z : p + 0 ≡ p = omega arith in
    let c : contains p h.pages ≡ true = h.fits.listed p ∙ not_from_false (eqb (h.leaf p) 0) (ne_eqb (h.leaf p) 0 (λ f. h.each 0 (omega arith) (ap h.leaf z ∙ f))) in
    both_ways (is_some (table_for ts 1 (prefix 1 p))) (ap is_some e) (h.fits.served 1 (prefix 1 p) (omega arith) (omega arith) ∙ contains_shared p h.pages 1 c)

pub open_room : (ts : List Table) (ws : List ℕ) (p l k t : ℕ) → AreOpen ts ws p 1 → table_for ts l k ≡ Some t → Room ts ws t
open_room ts ws p l k t h e = table_room h.cards h.tables ts h.leaf ws l k t h.fits.directory h.fits.laid e
