-- What two walks find is what is reached.
use Rattle.std.proofs.Common.{◌≡◌, ℕ, ◌^◌, ◌<◌, ◌≤◌, Bool, true, false, cond, ◌&&◌, List, Some, None, Option, Ok, Err, Result, nat_lt, refl, ap, sym, ◌∙◌, arith}
use Rattle.std.specs.Option.{option_or, is_some}
use Rattle.std.specs.Result.{result_ok}
use Rattle.std.proofs.lemmas.Bool.Decides.{nat_tests}
use Rattle.units.specs.declared.direction.Access.TheVariants.{Read, Write}
use Rattle.units.specs.declared.fault.Fault.{Fault}
use Rattle.units.specs.declared.mapping.Reach.{Reach}
use Rattle.entry.specs.declared.entry.Entry.{Entry}
use Rattle.entry.specs.Words.{number_in}
use Rattle.walk.specs.Told.{Tells, with_frame}
use Rattle.walk.specs.Walks.{Walked, arrives, absent, lacking, walked, frame_at, both_walks, reach_in}

-- the number of the entry, if there is one
abbrev pub number_of : Option Entry → Option ℕ
number_of None = None
number_of (Some e) = Some (number_in e.word)

pub told_number : (k : Walked) (r : Result Entry Fault) → Tells k r → number_of (result_ok r) ≡ frame_at k
told_number (arrives w) (Ok e) h = ap (λ (v : ℕ). Some (number_in v)) h
told_number (arrives w) (Err f) h = absurd h
told_number (absent l) (Ok e) h = absurd (cc)
told_number (absent l) (Err f) h = refl
told_number (lacking l) (Ok e) h = absurd (cc)
told_number (lacking l) (Err f) h = refl

nothing_found : (r s : Option Entry) → option_or r s ≡ None → both_walks (number_of r) (number_of s) ≡ None
nothing_found None None h = refl
nothing_found None (Some e) h = absurd (cc)
nothing_found (Some d) s h = absurd (cc)

abbrev pub reach_at : ℕ → Option Entry → Option Entry → Option Reach
reach_at n r s = Some (record { frame = record { 0 = n }; rights = record { read = is_some r; write = is_some s } })

entry_found : (r s : Option Entry) (e : Entry) → option_or r s ≡ Some e → both_walks (number_of r) (number_of s) ≡ reach_at (number_in e.word) r s
entry_found None None e h = absurd (cc)
entry_found None (Some d) e h = let same : d ≡ e = cc in ap (λ (x : Entry). both_walks None (Some (number_in x.word))) same
entry_found (Some d) None e h = let same : d ≡ e = cc in ap (λ (x : Entry). both_walks (Some (number_in x.word)) None) same
entry_found (Some d) (Some g) e h = let same : d ≡ e = cc in ap (λ (x : Entry). both_walks (Some (number_in x.word)) (Some (number_in g.word))) same

module _ (C : ℕ) (ws : List ℕ) (c p : ℕ) (card : c < C) (page : p < 2 ^ 36) (x y : Result Entry Fault)
    (read : Tells (walked Read ws c p) x) (write : Tells (walked Write ws c p) y) (r s : Option Entry) (a : r ≡ result_ok x) (b : s ≡ result_ok y) where
  reached : reach_in C ws c p ≡ both_walks (number_of r) (number_of s)
  reached =
      let k = walked Read ws c p in
      let m = walked Write ws c p in
      let inside : (nat_lt c C && nat_lt p (2 ^ 36)) ≡ true = grind (arith, nat_tests) in
      let first : number_of r ≡ frame_at k = ap number_of a ∙ told_number k x read in
      let second : number_of s ≡ frame_at m = ap number_of b ∙ told_number m y write in
      ap (λ (t : Bool). cond t (both_walks (frame_at k) (frame_at m)) None) inside
      ∙ ap (λ (f : Option ℕ). both_walks f (frame_at m)) (sym first) ∙ ap (λ (f : Option ℕ). both_walks (number_of r) f) (sym second)

  pub reached_none : option_or r s ≡ None → with_frame (reach_in C ws c p) ≡ None
  reached_none h = ap with_frame (reached ∙ nothing_found r s h)

  pub reached_above : (e : Entry) → option_or r s ≡ Some e → 2 ^ 32 ≤ number_in e.word → with_frame (reach_in C ws c p) ≡ None
  reached_above e h above =
      let f : nat_lt (number_in e.word) (2 ^ 32) ≡ false = grind (arith, nat_tests) in
      ap with_frame (reached ∙ entry_found r s e h) ∙ ap (λ (t : Bool). cond t (reach_at (number_in e.word) r s) None) f

  pub reached_some : (e : Entry) → option_or r s ≡ Some e → number_in e.word < 2 ^ 32 → with_frame (reach_in C ws c p) ≡ reach_at (number_in e.word) r s
  reached_some e h below =
      let f : nat_lt (number_in e.word) (2 ^ 32) ≡ true = grind (arith, nat_tests) in
      ap with_frame (reached ∙ entry_found r s e h) ∙ ap (λ (t : Bool). cond t (reach_at (number_in e.word) r s) None) f
