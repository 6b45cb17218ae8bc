-- How the gap that is taken is found, as it is computed: a gap begins at lo or right behind a range.
use Rattle.std.specs.Prelude.{ℕ, ◌+◌, ◌-◌, Bool, true, false, cond, ◌&&◌, List, [], ◌∷◌, Some, None, Option, nat_le, nat_lt}
use Rattle.chooser.specs.declared.gap.Range.{Range}
use Rattle.chooser.specs.declared.gap.Gap.{Gap}
use Rattle.chooser.specs.Preference.{prefers}

abbrev pub held : {N : Type 0} → (N → ℕ) → Range N → ℕ → Bool
held v r x = nat_le (v r.first) x && nat_lt (x - v r.first) r.count

abbrev pub clear : {N : Type 0} → (N → ℕ) → List (Range N) → ℕ → Bool
clear v [] x = true
clear v (r ∷ rs) x = cond (held v r x) false (clear v rs x)

-- the last number of a run from s that ends at last at most, once the range r is left out
abbrev pub cut_by : {N : Type 0} → (N → ℕ) → Range N → ℕ → ℕ → ℕ
cut_by v r s last = cond (nat_lt s (v r.first) && (nat_le (v r.first) last && nat_lt 0 r.count)) (v r.first - 1) last

abbrev pub last_from : {N : Type 0} → (N → ℕ) → List (Range N) → ℕ → ℕ → ℕ
last_from v [] s last = last
last_from v (r ∷ rs) s last = last_from v rs s (cut_by v r s last)

abbrev pub gap_at : {N : Type 0} → (N → ℕ) → ℕ → ℕ → List (Range N) → ℕ → Option Gap
gap_at v lo hi used s = cond (nat_le lo s && (nat_le s hi && clear v used s)) (Some (record { first = s; last = last_from v used s hi })) None

abbrev pub roomy : ℕ → Gap → Bool
roomy n g = nat_le g.first g.last && nat_le (n - 1) (g.last - g.first)

-- the better of a and another gap, if that holds n
abbrev pub better : (Gap → Gap → Bool) → ℕ → Option Gap → Option Gap → Option Gap
better over n a None = a
better over n None (Some g) = cond (roomy n g) (Some g) None
better over n (Some b) (Some g) = cond (roomy n g) (cond (over g b) (Some g) (Some b)) (Some b)

-- the better of a and the gap that begins behind the range r
abbrev pub best_behind : {N : Type 0} → (N → ℕ) → (Gap → Gap → Bool) → ℕ → ℕ → List (Range N) → ℕ → Range N → Option Gap → Option Gap
best_behind v over lo hi used n r a = cond (nat_lt 0 r.count) (better over n a (gap_at v lo hi used (v r.first + r.count))) a

-- the best of a and the gaps that begin behind the ranges of a list
abbrev pub best_of : {N : Type 0} → (N → ℕ) → (Gap → Gap → Bool) → ℕ → ℕ → List (Range N) → ℕ → List (Range N) → Option Gap → Option Gap
best_of v over lo hi used n [] a = a
best_of v over lo hi used n (r ∷ rs) a =
    best_of v over lo hi used n rs (best_behind v over lo hi used n r a)

abbrev pub best_gap : {N : Type 0} → (N → ℕ) → (Gap → Gap → Bool) → ℕ → ℕ → List (Range N) → ℕ → Option Gap
best_gap v over lo hi used n = best_of v over lo hi used n used (better over n None (gap_at v lo hi used lo))

-- the first of the highest n numbers of a gap
abbrev pub top_of : ℕ → Option Gap → Option ℕ
top_of n None = None
top_of n (Some g) = Some (g.last - (n - 1))

-- the chooser's answer, as a function
unfoldable pub choice : {N : Type 0} → (N → ℕ) → ℕ → ℕ → List (Range N) → ℕ → Option ℕ
choice v lo hi used n = top_of n (best_gap v prefers lo hi used n)
