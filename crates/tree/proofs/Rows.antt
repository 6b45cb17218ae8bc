-- Pages in a row: their words, the prefixes that they share, and the tables that they lack.
use Rattle.std.proofs.Common.{◌≡◌, ℕ, zero, suc, ◌+◌, ◌-◌, ◌*◌, ◌<◌, ◌≤◌, inl, inr, Bool, true, false, cond, not, ◌&&◌, ◌||◌, List, ◌++◌, is_some, ◌≢◌, eqb, ltb, leb, sym, refl, ap, ◌∙◌, arith}
use Rattle.std.proofs.lemmas.Bool.{cases_eq, cases_lt, cases_Bool, eqb-true, eqb-false, lt-ltb, le-ltb, le-leb, lt-leb, and_from, and_left, and_right, and_parts, false_from_ne_true, cond-true, cond-false}
use Rattle.meaning.specs.Memory.{within}
use Rattle.walk.specs.Indices.{prefix}
use Rattle.tree.specs.declared.place.Table.{Table}
use Rattle.tree.specs.Places.{table_at, table_for}
use Rattle.tree.specs.Layout.{shared, put, put_span, Fits}
use Rattle.tree.specs.Counts.{pages_from, lacks_at, lacks, lacks_next, lacking}
use Rattle.tree.proofs.Prefixes.{prefix_rise}
use Rattle.tree.proofs.Sharing.{shared_append}
use Rattle.tree.proofs.Writing.{put_same, put_other, word_leaf}

-- Words --------------------------------------------------------------------------------------------------

pub within_in : (q n x : ℕ) → q ≤ x → x < q + n → within q n x ≡ true
within_in q n x a b = and_from (leb q x) (ltb x (q + n)) (le-leb q x a) (lt-ltb x (q + n) b)

pub within_under : (q n x : ℕ) → x < q → within q n x ≡ false
within_under q n x a = and_left (leb q x) (ltb x (q + n)) (lt-leb q x a)

pub within_over : (q n x : ℕ) → q + n ≤ x → within q n x ≡ false
within_over q n x a = and_right (leb q x) (ltb x (q + n)) (le-ltb x (q + n) a)

within_more : (q n x : ℕ) → x ≢ q + n → within q (suc n) x ≡ within q n x
within_more q n x e = elim (cases_lt x q) [
  | inl a ↦ within_under q (suc n) x a ∙ sym (within_under q n x a)
  | inr a ↦ elim (cases_lt x (q + n)) [
    | inl b ↦ within_in q (suc n) x a (omega arith) ∙ sym (within_in q n x a b)
    | inr b ↦ within_over q (suc n) x (omega arith) ∙ sym (within_over q n x b)
  ]
]

pub put_span_none : (leaf : ℕ → ℕ) (q : ℕ) (w : ℕ → ℕ) (x : ℕ) → put_span leaf q 0 w x ≡ leaf x
unfolding put_span
put_span_none leaf q w x = elim (cases_lt x q) [
  | inl a ↦ cond-false (within q 0 x) (w (x - q)) (leaf x) (within_under q 0 x a)
  | inr a ↦ cond-false (within q 0 x) (w (x - q)) (leaf x) (within_over q 0 x (omega arith))
]

-- one page more has its word
pub put_span_more : (leaf : ℕ → ℕ) (q n : ℕ) (w : ℕ → ℕ) (x : ℕ) → put (put_span leaf q n w) (q + n) (w n) x ≡ put_span leaf q (suc n) w x
unfolding put_span
put_span_more leaf q n w x = elim (cases_eq x (q + n)) [
  | inl e ↦ (
      let d : x - q ≡ n = omega arith in
      ap (put (put_span leaf q n w) (q + n) (w n)) e ∙ put_same (put_span leaf q n w) (q + n) (w n)
      ∙ sym (cond-true (within q (suc n) x) (w (x - q)) (leaf x) (within_in q (suc n) x (omega arith) (omega arith)) ∙ ap w d))
  | inr n_e ↦ put_other (put_span leaf q n w) (q + n) (w n) x n_e ∙ ap (λ (z : Bool). cond z (w (x - q)) (leaf x)) (sym (within_more q n x n_e))
]

-- tables fit open pages whatever function says the pages' words
pub fits_same : (C T : ℕ) (ts : List Table) (leaf leaf' : ℕ → ℕ) (qs ws : List ℕ) → ((x : ℕ) → leaf' x ≡ leaf x) → Fits C T ts leaf qs ws → Fits C T ts leaf' qs ws
fits_same C T ts leaf leaf' qs ws same fits = record {
  directory = fits.directory;
  laid = record {
    size = fits.laid.size;
    words = λ t i b c. fits.laid.words t i b c ∙ sym (word_leaf ts leaf leaf' (table_at ts t) i (λ k _. same (k * 512 + i)));
  };
  listed = λ q. fits.listed q ∙ sym (ap (λ (z : ℕ). not (eqb z 0)) (same q));
  served = fits.served;
}

-- Prefixes -----------------------------------------------------------------------------------------------

shared_before : (q n m l : ℕ) → n ≤ m → shared (pages_from q n) l (prefix l (q + m)) ≡ (ltb 0 n && eqb (prefix l (q + (n - 1))) (prefix l (q + m)))
shared_before q zero m l b = refl
shared_before q (suc n) m l b =
    let last : suc n - 1 ≡ n = omega arith in
    let now : (ltb 0 (suc n) && eqb (prefix l (q + (suc n - 1))) (prefix l (q + m))) ≡ eqb (prefix l (q + n)) (prefix l (q + m)) =
    ap (λ (z : Bool). z && eqb (prefix l (q + (suc n - 1))) (prefix l (q + m))) (lt-ltb 0 (suc n) (omega arith)) ∙ ap (λ (z : ℕ). eqb (prefix l (q + z)) (prefix l (q + m))) last in
    let later = shared_before q n m l (omega arith) in
    elim (cases_Bool (eqb (prefix l (q + n)) (prefix l (q + m)))) [
      | inl e ↦ ap (λ (z : Bool). z || shared (pages_from q n) l (prefix l (q + m))) e ∙ sym (now ∙ e)
      | inr e ↦ (
          let none : (ltb 0 n && eqb (prefix l (q + (n - 1))) (prefix l (q + m))) ≡ false = false_from_ne_true (ltb 0 n && eqb (prefix l (q + (n - 1))) (prefix l (q + m))) (λ t.
          let same = eqb-true (prefix l (q + (n - 1))) (prefix l (q + m)) (and_parts (ltb 0 n) (eqb (prefix l (q + (n - 1))) (prefix l (q + m))) t).1 in
          let up = prefix_rise l (q + (n - 1)) (q + n) (omega arith) in
          let on = prefix_rise l (q + n) (q + m) (omega arith) in
          eqb-false (prefix l (q + n)) (prefix l (q + m)) e (omega arith)) in
          ap (λ (z : Bool). z || shared (pages_from q n) l (prefix l (q + m))) e ∙ later ∙ none ∙ sym (now ∙ e))
    ]

-- of the pages before page q + n, only the last may share a prefix with it
pub shared_next : (q n l : ℕ) → shared (pages_from q n) l (prefix l (q + n)) ≡ (ltb 0 n && eqb (prefix l (q + (n - 1))) (prefix l (q + n)))
shared_next q n l = shared_before q n n l (omega arith)

-- Lacking tables -----------------------------------------------------------------------------------------

cond_or : (a s : Bool) (x y : ℕ) → cond (a || s) x y ≡ cond a x (cond s x y)
cond_or true s x y = refl
cond_or false s x y = refl

module _ (C T : ℕ) (ts ts' : List Table) (leaf leaf' : ℕ → ℕ) (qs ws ws' : List ℕ) (q n : ℕ) (before : Fits C T ts leaf qs ws) (after : Fits C T ts' leaf' (pages_from q n ++ qs) ws') where
  next_at : (l : ℕ) → 1 ≤ l → l ≤ 3 → lacks_at ts' l (q + n) ≡ lacks_next ts l q n
  next_at l low high =
      let k : ℕ = prefix l (q + n) in
      let A : Bool = ltb 0 n && eqb (prefix l (q + (n - 1))) k in
      let S : Bool = is_some (table_for ts l k) in
      let e : is_some (table_for ts' l k) ≡ (A || S) =
      after.served l k low high ∙ shared_append (pages_from q n) qs l k ∙ ap (λ (z : Bool). z || shared qs l k) (shared_next q n l) ∙ ap (λ (z : Bool). A || z) (sym (before.served l k low high)) in
      ap (λ (z : Bool). cond z 0 1) e ∙ cond_or A S 0 1

  -- where the n pages from q on have their tables, page q + n lacks what it lacked at first, but for those of the page before it
  pub lacks_then : lacks ts' (q + n) ≡ lacks_next ts 1 q n + lacks_next ts 2 q n + lacks_next ts 3 q n
  lacks_then =
      let a = next_at 1 (omega arith) (omega arith) in
      let b = next_at 2 (omega arith) (omega arith) in
      let c = next_at 3 (omega arith) (omega arith) in
      omega arith

pub lacking_rise : (ts : List Table) (q n m : ℕ) → n ≤ m → lacking ts q n ≤ lacking ts q m
lacking_rise ts q n zero b = let z : n ≡ 0 = omega arith in let e : lacking ts q n ≡ 0 = ap (lacking ts q) z in omega arith
lacking_rise ts q n (suc m) b = let later = lacking_rise ts q n m in elim (cases_lt n (suc m)) [
  | inl c ↦ (let h = later (omega arith) in omega arith)
  | inr c ↦ (let z : n ≡ suc m = omega arith in let e : lacking ts q n ≡ lacking ts q (suc m) = ap (lacking ts q) z in omega arith)
]
