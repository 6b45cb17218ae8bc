-- Which pages a list has, and which prefixes they have.
use Rattle.std.proofs.Common.{◌≡◌, ℕ, suc, ◌/◌, inl, inr, Bool, true, false, ◌||◌, List, [], ◌∷◌, ◌++◌, ◌≢◌, sym, refl, ap, ◌∙◌, eqb, subst}
use Rattle.std.proofs.lemmas.Bool.{cases_Bool, eqb-true, eq-eqb, or_cases, or_left, or_right, ne_eqb, false_from_ne_true, both_ways}
use Rattle.walk.specs.Indices.{prefix}
use Rattle.tree.specs.Layout.{contains, shared}

-- a page of the list shares each of its prefixes
pub contains_shared : (q : ℕ) (qs : List ℕ) (l : ℕ) → contains q qs ≡ true → shared qs l (prefix l q) ≡ true
contains_shared q [] l e = absurd (cc)
contains_shared q (x ∷ xs) l e = elim (or_cases (eqb x q) (contains q xs) e) [
  | inl h ↦ or_left (eqb (prefix l x) (prefix l q)) (shared xs l (prefix l q)) (eq-eqb (prefix l x) (prefix l q) (ap (prefix l) (eqb-true x q h)))
  | inr h ↦ or_right (eqb (prefix l x) (prefix l q)) (shared xs l (prefix l q)) (contains_shared q xs l h)
]

-- a prefix that is shared is that of a page of the list
pub shared_page : (qs : List ℕ) (l k : ℕ) → shared qs l k ≡ true → (q : ℕ) × (contains q qs ≡ true) × (prefix l q ≡ k)
shared_page [] l k e = absurd (cc)
shared_page (x ∷ xs) l k e = elim (or_cases (eqb (prefix l x) k) (shared xs l k) e) [
  | inl h ↦ (x, or_left (eqb x x) (contains x xs) (eq-eqb x x refl), eqb-true (prefix l x) k h)
  | inr h ↦ (let p = shared_page xs l k h in (p.0, or_right (eqb x p.0) (contains p.0 xs) p.1, p.2))
]

-- no page of the list has the prefix
pub shared_none : (qs : List ℕ) (l k : ℕ) → ((q : ℕ) → contains q qs ≡ true → prefix l q ≢ k) → shared qs l k ≡ false
shared_none qs l k h = false_from_ne_true (shared qs l k) (λ e. let p = shared_page qs l k e in h p.0 p.1 p.2)

-- a shared prefix, as that of a page, is shared at the level above
pub shared_up : (qs : List ℕ) (l k : ℕ) → shared qs l k ≡ true → shared qs (suc l) (k / 512) ≡ true
shared_up qs l k e =
    let p = shared_page qs l k e in
    subst (λ (z : ℕ). shared qs (suc l) (z / 512) ≡ true) p.2 (contains_shared p.0 qs (suc l) p.1)

shared_more : (qs rs : List ℕ) → ((q : ℕ) → contains q qs ≡ true → contains q rs ≡ true) → (l k : ℕ) → shared qs l k ≡ true → shared rs l k ≡ true
shared_more qs rs h l k e =
    let p = shared_page qs l k e in
    subst (λ (z : ℕ). shared rs l z ≡ true) p.2 (contains_shared p.0 rs l (h p.0 p.1))

-- which prefixes are shared depends only on which pages the list has
pub shared_same : (qs rs : List ℕ) → ((q : ℕ) → contains q qs ≡ contains q rs) → (l k : ℕ) → shared qs l k ≡ shared rs l k
shared_same qs rs h l k = elim (cases_Bool (shared qs l k)) [
  | inl e ↦ e ∙ sym (shared_more qs rs (λ q i. sym (h q) ∙ i) l k e)
  | inr e ↦ e ∙ sym (false_from_ne_true (shared rs l k) (λ i. both_ways (shared qs l k) e (shared_more rs qs (λ q j. h q ∙ j) l k i)))
]

pub contains_append : (q : ℕ) (qs rs : List ℕ) → contains q (qs ++ rs) ≡ (contains q qs || contains q rs)
contains_append q [] rs = refl
contains_append q (x ∷ xs) rs = let later = contains_append q xs rs in elim (cases_Bool (eqb x q)) [
  | inl e ↦ rw e
  | inr e ↦ rw e later
]

pub shared_append : (qs rs : List ℕ) (l k : ℕ) → shared (qs ++ rs) l k ≡ (shared qs l k || shared rs l k)
shared_append [] rs l k = refl
shared_append (x ∷ xs) rs l k = let later = shared_append xs rs l k in elim (cases_Bool (eqb (prefix l x) k)) [
  | inl e ↦ rw e
  | inr e ↦ rw e later
]

-- one page more, with a prefix and without
pub shared_with : (q : ℕ) (qs : List ℕ) (l k : ℕ) → prefix l q ≡ k → shared (q ∷ qs) l k ≡ true
shared_with q qs l k e = or_left (eqb (prefix l q) k) (shared qs l k) (eq-eqb (prefix l q) k e)

pub shared_but : (q : ℕ) (qs : List ℕ) (l k : ℕ) → prefix l q ≢ k → shared (q ∷ qs) l k ≡ shared qs l k
shared_but q qs l k n = ap (λ (z : Bool). z || shared qs l k) (ne_eqb (prefix l q) k n)
