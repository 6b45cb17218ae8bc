-- The recursions of specs/ over the ranges, as std's functions of lists: a chain's proof speaks of those.
use Rattle.std.proofs.Common.{◌≡◌, ℕ, ◌+◌, nat_lt, sym, Bool, true, false, cond, not, Some, None, List, [], ◌∷◌, Option, fold, refl, ◌∙◌, ap, arith}
use Rattle.std.proofs.lemmas.Bool.Decides.{nat_tests}
use Rattle.std.specs.List.{list_any}
use Rattle.chooser.specs.declared.gap.Range.{Range}
use Rattle.chooser.specs.declared.gap.Gap.{Gap}
use Rattle.chooser.specs.Finding.{held, clear, cut_by, last_from, gap_at, better, best_behind, best_of}

pub clear_any : {N : Type 0} (v : N → ℕ) (used : List (Range N)) (x : ℕ) → clear v used x ≡ not (list_any (λ r. held v r x) used)
clear_any v [] x = refl
clear_any v (r ∷ rs) x = grind (arith, nat_tests, clear_any v rs x)

pub last_fold : {N : Type 0} (v : N → ℕ) (used : List (Range N)) (s last : ℕ) → last_from v used s last ≡ fold (λ l r. cut_by v r s l) last used
last_fold v [] s last = refl
last_fold v (r ∷ rs) s last = last_fold v rs s (cut_by v r s last)

-- no gap behind a range of none: the best so far stays
better_none : (over : Gap → Gap → Bool) (n : ℕ) (a : Option Gap) (some : Bool) (g : Option Gap) → better over n a (cond some g None) ≡ cond some (better over n a g) a
better_none over n a true g = refl
better_none over n None false g = refl
better_none over n (Some b) false g = refl

-- the gap that begins behind the range r
abbrev pub behind : {N : Type 0} → (N → ℕ) → ℕ → ℕ → List (Range N) → Range N → Option Gap
behind v lo hi used r = cond (nat_lt 0 r.count) (gap_at v lo hi used (v r.first + r.count)) None

pub best_fold : {N : Type 0} (v : N → ℕ) (over : Gap → Gap → Bool) (lo hi : ℕ) (used : List (Range N)) (n : ℕ) (rs : List (Range N)) (a : Option Gap) →
    best_of v over lo hi used n rs a ≡ fold (λ b r. better over n b (behind v lo hi used r)) a rs
best_fold v over lo hi used n [] a = refl
best_fold v over lo hi used n (r ∷ rs) a =
    best_fold v over lo hi used n rs (best_behind v over lo hi used n r a)
    ∙ ap (λ b. fold (λ c q. better over n c (behind v lo hi used q)) b rs) (sym (better_none over n a (nat_lt 0 r.count) (gap_at v lo hi used (v r.first + r.count))))
