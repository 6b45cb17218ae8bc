-- What the chooser's answer says, in the subject's words.
use Rattle.std.proofs.Common.{◌≡◌, ℕ, ◌+◌, ◌-◌, ◌<◌, ◌≤◌, List, [], Some, None, Option, IfSome, sym, refl, ap, arith}
use Rattle.std.proofs.lemmas.Bool.Decides.{nat_tests}
use Rattle.chooser.specs.declared.gap.Range.{Range}
use Rattle.chooser.specs.declared.gap.Gap.{Gap}
use Rattle.chooser.specs.Preference.{prefers}
use Rattle.chooser.specs.Gaps.{Free, Chosen, NoRoom}
use Rattle.chooser.specs.Finding.{best_gap, top_of, choice}
use Rattle.chooser.specs.Facts.{OneAnswer}
use Rattle.chooser.proofs.Order.{prefers_order}
use Rattle.chooser.proofs.Right.{none_right, some_right, best_one}

top_some : (n x : ℕ) (o : Option Gap) → top_of n o ≡ Some x → (g : Gap) × (o ≡ Some g) × (x ≡ g.last - (n - 1))
top_some n x None e = cc
top_some n x (Some g) e = (g, refl, cc)

top_none : (n : ℕ) (o : Option Gap) → top_of n o ≡ None → o ≡ None
top_none n None e = refl
top_none n (Some g) e = cc

-- a gap that is taken ends below any number that hi is below
pub best_below : {N : Type 0} (v : N → ℕ) (lo hi : ℕ) (used : List (Range N)) (n : ℕ) (o : Option Gap) (top : ℕ) → o ≡ best_gap v prefers lo hi used n → hi < top → IfSome o (λ g. g.last < top)
best_below v lo hi used n None top e h = tt
best_below v lo hi used n (Some g) top e h =
    let G = (some_right v lo hi used prefers prefers_order n g (sym e)).gap in
    let below = (G.free g.last G.some (omega arith)).below in
    omega arith

pub choice_some : {N : Type 0} (v : N → ℕ) (lo hi : ℕ) (used : List (Range N)) (n x : ℕ) → 0 < n → choice v lo hi used n ≡ Some x → Chosen v lo hi used n x
unfolding choice
choice_some v lo hi used n x pos e =
    let t = top_some n x (best_gap v prefers lo hi used n) e in
    let b = some_right v lo hi used prefers prefers_order n t.0 t.1 in
    let some = b.gap.some in
    let fits = b.fits in
    let place = t.2 in
    (t.0, b, omega arith)

pub choice_none : {N : Type 0} (v : N → ℕ) (lo hi : ℕ) (used : List (Range N)) (n : ℕ) → 0 < n → choice v lo hi used n ≡ None → NoRoom v lo hi used n
unfolding choice
choice_none v lo hi used n _ e =
    none_right v lo hi used prefers prefers_order n (top_none n (best_gap v prefers lo hi used n) e)

pub one_answer : {N : Type 0} (v : N → ℕ) → OneAnswer v
one_answer v lo hi n used _ x y a b =
    grind (arith, best_one v lo hi used prefers prefers_order n a.0 b.0 a.1 b.1, a.2, b.2)

-- the other way round: where no gap holds n there is no answer, and what is chosen is the answer

pub choice_from : {N : Type 0} (v : N → ℕ) (lo hi : ℕ) (used : List (Range N)) (n : ℕ) → 0 < n → NoRoom v lo hi used n → choice v lo hi used n ≡ None
choice_from v lo hi used n pos room = at (choice v lo hi used n) refl
  where
    at : (o : Option ℕ) → choice v lo hi used n ≡ o → o ≡ None
    at None e = refl
    at (Some x) e = let c = choice_some v lo hi used n x pos e in absurd (room c.0 c.1.gap c.1.fits)

pub choice_is : {N : Type 0} (v : N → ℕ) (lo hi : ℕ) (used : List (Range N)) (n x : ℕ) → 0 < n → Chosen v lo hi used n x → choice v lo hi used n ≡ Some x
choice_is v lo hi used n x pos c = at (choice v lo hi used n) refl
  where
    at : (o : Option ℕ) → choice v lo hi used n ≡ o → o ≡ Some x
    at None e = absurd (choice_none v lo hi used n pos e c.0 c.1.gap c.1.fits)
    at (Some y) e = ap (λ z. Some z) (one_answer v lo hi n used pos y x (choice_some v lo hi used n y pos e) c)

-- every number that is chosen is free
pub choice_free : {N : Type 0} (v : N → ℕ) (lo hi : ℕ) (used : List (Range N)) (n x : ℕ) → 0 < n → choice v lo hi used n ≡ Some x → (k : ℕ) → x ≤ k → k < x + n → Free v lo hi used k
choice_free v lo hi used n x pos e k a b =
    let c = choice_some v lo hi used n x pos e in
    let f = c.1.fits in
    let p = c.2 in
    c.1.gap.free k (omega arith) (omega arith)

-- where nothing is in use, one number goes to the top
pub choice_whole : {N : Type 0} (v : N → ℕ) (lo hi : ℕ) → lo ≤ hi → choice v lo hi [] 1 ≡ Some hi
unfolding choice
choice_whole v lo hi h = grind (arith, nat_tests)
