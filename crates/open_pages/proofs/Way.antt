-- The tables on the way to a page, made one after the other, and the page opened below them.
use Rattle.std.proofs.Common.{◌≡◌, ℕ, ◌*◌, ◌^◌, ◌<◌, ◌≤◌, inl, inr, true, cond, not, List, ◌∷◌, Some, Option, is_some, ◌≢◌, eqb, sym, ap, ◌∙◌, arith}
use Rattle.std.proofs.lemmas.Bool.{cases_eq, eq-eqb, ne_eqb, not_from_false}
use Rattle.walk.specs.Indices.{prefix}
use Rattle.tree.specs.declared.place.Table.{Table}
use Rattle.tree.specs.Places.{table_for}
use Rattle.tree.specs.Layout.{contains, put, Fits}
use Rattle.tree.specs.Counts.{lacks_at}
use Rattle.tree.proofs.Prefixes.{card_below}
use Rattle.tree.proofs.Sharing.{contains_shared, shared_with, shared_but}
use Rattle.tree.proofs.Standing.{root_found}
use Rattle.tree.proofs.Writing.{put_same, put_other}
use Rattle.open_pages.specs.Opening.{Hung, Hangs, Fitted, Made}

pub fits_hung : (C T : ℕ) (ts : List Table) (leaf : ℕ → ℕ) (qs ws : List ℕ) → Fits C T ts leaf qs ws → Hung C T ts leaf ws
fits_hung C T ts leaf qs ws fits = record {
  directory = fits.directory;
  laid = fits.laid;
  served = λ q n.
      let here : contains q qs ≡ true = fits.listed q ∙ not_from_false (eqb (leaf q) 0) (ne_eqb (leaf q) 0 n) in
      fits.served 1 (prefix 1 q) (omega arith) (omega arith) ∙ contains_shared q qs 1 here;
}

-- the walk to a page begins at its card's root
pub root_stands : (C T : ℕ) (ts : List Table) (leaf : ℕ → ℕ) (qs ws : List ℕ) (q : ℕ) → Fits C T ts leaf qs ws → q < C * 2 ^ 36 → table_for ts 4 (prefix 4 q) ≡ Some (prefix 4 q)
root_stands C T ts leaf qs ws q fits b = root_found C T ts fits.directory (prefix 4 q) (card_below C q b)

pub fitted_hangs : (ts : List Table) (ws : List ℕ) (past : ℕ) → Fitted ts ws past → Hangs ts ws
fitted_hangs ts ws past f = record { cards = f.cards; tables = f.tables; leaf = f.leaf; hung = fits_hung f.cards f.tables ts f.leaf f.pages ws f.fits }

same_lack : (ts ts' : List Table) (l q : ℕ) → table_for ts' l (prefix l q) ≡ table_for ts l (prefix l q) → lacks_at ts' l q ≡ lacks_at ts l q
same_lack ts ts' l q e = ap (λ (z : Option ℕ). cond (is_some z) 0 1) e

module _ (ts₀ ts₁ ts₂ ts₃ : List Table) (q t₃ t₂ t₁ : ℕ) (third : Made ts₀ ts₁ 3 (prefix 3 q) t₃) (second : Made ts₁ ts₂ 2 (prefix 2 q) t₂) where
  pub lacks_second : lacks_at ts₁ 2 q ≡ lacks_at ts₀ 2 q
  lacks_second = same_lack ts₀ ts₁ 2 q (third.others 2 (prefix 2 q) (λ e _. omega arith))

  pub lacks_first : lacks_at ts₂ 1 q ≡ lacks_at ts₀ 1 q
  lacks_first = same_lack ts₀ ts₂ 1 q (second.others 1 (prefix 1 q) (λ e _. omega arith) ∙ third.others 1 (prefix 1 q) (λ e _. omega arith))

  module _ (first : Made ts₂ ts₃ 1 (prefix 1 q) t₁) where
    -- on the way each level has its table
    way_found : (l : ℕ) → 1 ≤ l → l ≤ 3 → is_some (table_for ts₃ l (prefix l q)) ≡ true
    way_found l low high = elim (cases_eq l 1) [
      | inl e ↦ ap (λ (z : ℕ). is_some (table_for ts₃ z (prefix z q))) e ∙ ap is_some first.found
      | inr e ↦ elim (cases_eq l 2) [
        | inl f ↦ ap (λ (z : ℕ). is_some (table_for ts₃ z (prefix z q))) f ∙ ap is_some (first.others 2 (prefix 2 q) (λ g _. omega arith) ∙ second.found)
        | inr f ↦ (
            let g : l ≡ 3 = omega arith in
            ap (λ (z : ℕ). is_some (table_for ts₃ z (prefix z q))) g ∙ ap is_some (first.others 3 (prefix 3 q) (λ h _. omega arith) ∙ second.others 3 (prefix 3 q) (λ h _. omega arith) ∙ third.found))
      ]
    ]

    -- elsewhere stand the tables of before
    elsewhere : (l k : ℕ) → prefix l q ≢ k → table_for ts₃ l k ≡ table_for ts₀ l k
    elsewhere l k n =
        let off : (m : ℕ) → l ≡ m → k ≡ prefix m q → ⊥ = λ m e f. n (ap (λ (z : ℕ). prefix z q) e ∙ sym f) in
        first.others l k (off 1) ∙ second.others l k (off 2) ∙ third.others l k (off 3)

    pub fits_opened : (C T : ℕ) (leaf : ℕ → ℕ) (qs ws ws' : List ℕ) (w : ℕ) → 0 < w → Fits C T ts₀ leaf qs ws → Hung C T ts₃ (put leaf q w) ws' → Fits C T ts₃ (put leaf q w) (q ∷ qs) ws'
    fits_opened C T leaf qs ws ws' w some fits hung = record {
      directory = hung.directory;
      laid = hung.laid;
      listed = λ x. elim (cases_eq x q) [
        | inl e ↦ (
            let a : contains x (q ∷ qs) ≡ true = rw (eq-eqb q x (sym e)) in
            let b : put leaf q w x ≡ w = ap (put leaf q w) e ∙ put_same leaf q w in
            a ∙ sym (ap (λ (z : ℕ). not (eqb z 0)) b ∙ not_from_false (eqb w 0) (ne_eqb w 0 (λ z. omega arith))))
        | inr n ↦ (
            let a : contains x (q ∷ qs) ≡ contains x qs = rw (ne_eqb q x (λ e. n (sym e))) in
            a ∙ fits.listed x ∙ sym (ap (λ (z : ℕ). not (eqb z 0)) (put_other leaf q w x n)))
      ];
      served = λ l k low high. elim (cases_eq (prefix l q) k) [
        | inl e ↦ ap (λ (z : ℕ). is_some (table_for ts₃ l z)) (sym e) ∙ way_found l low high ∙ sym (shared_with q qs l k e)
        | inr n ↦ ap is_some (elsewhere l k n) ∙ fits.served l k low high ∙ sym (shared_but q qs l k n)
      ];
    }
