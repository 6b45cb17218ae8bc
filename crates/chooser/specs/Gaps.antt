-- Free numbers among lo to hi, gaps, and which gap is taken; v gives a number's value.
use Rattle.std.specs.Prelude.{◌≡◌, ℕ, suc, ◌+◌, ◌<◌, ◌≤◌, Bool, true, ◌⊎◌, List, [], ◌∷◌}
use Rattle.chooser.specs.declared.gap.Range.{Range}
use Rattle.chooser.specs.declared.gap.Gap.{Gap}
use Rattle.chooser.specs.Preference.{prefers}

-- the range r holds x
abbrev pub Holds : {N : Type 0} → (N → ℕ) → Range N → ℕ → Type 0
Holds v r x = (v r.first ≤ x) × (x < v r.first + r.count)

-- no range of the list holds x
abbrev pub Untouched : {N : Type 0} → (N → ℕ) → List (Range N) → ℕ → Type 0
Untouched v [] x = Unit {0}
Untouched v (r ∷ rs) x = (Holds v r x → ⊥) × Untouched v rs x

pub record Free {N : Type 0} (v : N → ℕ) (lo hi : ℕ) (used : List (Range N)) (x : ℕ) : Type 0 where
  pub above : lo ≤ x
  pub below : x ≤ hi
  pub clear : Untouched v used x

-- a gap is a run of free numbers that cannot grow
pub record IsGap {N : Type 0} (v : N → ℕ) (lo hi : ℕ) (used : List (Range N)) (g : Gap) : Type 0 where
  pub some : g.first ≤ g.last
  pub free : (x : ℕ) → g.first ≤ x → x ≤ g.last → Free v lo hi used x
  pub low : (x : ℕ) → suc x ≡ g.first → Free v lo hi used x → ⊥
  pub high : Free v lo hi used (suc g.last) → ⊥

-- the gap holds n numbers
abbrev pub Fits : ℕ → Gap → Type 0
Fits n g = g.first + n ≤ suc g.last

-- a gap that holds n, and is preferred over every other that does
pub record Best {N : Type 0} (v : N → ℕ) (over : Gap → Gap → Bool) (lo hi : ℕ) (used : List (Range N)) (n : ℕ) (g : Gap) : Type 0 where
  pub gap : IsGap v lo hi used g
  pub fits : Fits n g
  pub best : (h : Gap) → IsGap v lo hi used h → Fits n h → (h ≡ g) ⊎ (over g h ≡ true)

-- the highest n numbers of the best gap begin at x
abbrev pub Chosen : {N : Type 0} → (N → ℕ) → ℕ → ℕ → List (Range N) → ℕ → ℕ → Type 0
Chosen v lo hi used n x = (g : Gap) × Best v prefers lo hi used n g × (x + n ≡ suc g.last)

-- no gap holds n
abbrev pub NoRoom : {N : Type 0} → (N → ℕ) → ℕ → ℕ → List (Range N) → ℕ → Type 0
NoRoom v lo hi used n = (g : Gap) → IsGap v lo hi used g → Fits n g → ⊥
