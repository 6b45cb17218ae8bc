-- The first number of a range that is such, as the check that looks for the lowest.
use Rattle.std.proofs.Common.{◌≡◌, ℕ, zero, suc, ◌+◌, Bool, true, false, cond, List, Some, Option, sym, refl, ap, ◌∙◌, add-one, arith}
use denote.Param.Members.{Mut}
use denote.Ref.{Bor}
use Rattle.std.proofs.iter.Yields.{nat_range_steps}
use Rattle.std.proofs.lemmas.Iterator.{YieldsList-from_range}
use Rattle.std.proofs.lemmas.Iterator.Adapters.{option_map_id}
use Rattle.std.proofs.lemmas.Iterator.Search.{find_from_yields_List}
use Rattle.std.specs.declared.ops.Range.{Range}
use Rattle.std.specs.Bool.{⊤}
use Rattle.std.specs.Fn.{CalledAt}
use Rattle.std.specs.Iterator.{YieldsThen}
use Rattle.std.specs.Option.{MatchOption}
use Rattle.std.specs.List.{FoldsTo, find, range_with_len}
use Rattle.units.specs.declared.fault.FaultKind.{FaultKind}
use Rattle.meaning.specs.Checks.{fault, none_of}
use Rattle.meaning.specs.Told.{lowest}

lowest_found : (k : FaultKind) (such : ℕ → Bool) (a n : ℕ) → lowest k (find such (range_with_len a n)) ≡ none_of k such a n
unfolding none_of
lowest_found k such a zero = refl
lowest_found k such a (suc n) = elim (such a) as (λ b. lowest k (cond b (Some a) (find such (range_with_len (a + 1) n))) ≡ cond b (fault k a) (none_of k such (suc a) n)) [
  | true ↦ refl
  | false ↦ rw (lowest_found k such (a + 1) n, add-one)
]

-- a `find` over a range, whose closure tells which are such
pub lowest_from_find : {F : Type 0} {g : Mut F (Bor ℕ × Unit {0}) Bool} {such : ℕ → Bool} {s : Range ℕ} {f : F} (k : FaultKind) (u : Range ℕ) (n : ℕ) (r : Option ℕ)
    → (xs : List ℕ) × (j : F) × YieldsThen nat_range_steps s xs r u × FoldsTo (λ p x q. CalledAt g p x false q) f xs j × MatchOption r ⊤ (λ x. (h : F) × CalledAt g j x true h)
    → s.end ≡ s.start + n → ((x : ℕ) (b : Bool) (q : F) → CalledAt g f x b q → (q ≡ f) × (b ≡ such x)) → lowest k r ≡ none_of k such s.start n
lowest_from_find {such} {s} k u n r ran e h =
    ap (lowest k) (sym (option_map_id r) ∙ find_from_yields_List such u _ r ran (YieldsList-from_range s.start s.end n refl (omega arith)) h) ∙ lowest_found k such s.start n
