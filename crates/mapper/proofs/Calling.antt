-- A call on any mapper, put together from its checks and what it did.
use Rattle.mapper.specs.declared.laws.Meaning.{Ghosts as Meaning}
use Rattle.std.proofs.Common.{◌≡◌, ℕ, ◌+◌, ◌*◌, ◌/◌, ◌%◌, ◌<◌, Bool, List, Some, None, Ok, Option, refl, ◌∙◌, arith}
use Rattle.units.specs.declared.direction.Access.{Access}
use Rattle.units.specs.declared.fault.Fault.{Fault}
use Rattle.units.specs.declared.mapping.Mapping.{Mapping}
use Rattle.units.specs.declared.mapping.Reach.{Reach}
use Rattle.units.specs.declared.number.Frame.{Frame}
use Rattle.meaning.specs.Memory.{bytes_of}
use Rattle.meaning.specs.Mappings.{reach_of}
use Rattle.meaning.specs.Worlds.{Setup}
use Rattle.meaning.specs.Laws.{Bounds}
use Rattle.meaning.specs.Calls.{Call, Answer, fails}
use Rattle.meaning.specs.Checks.{Verdict, fine, errs, card_checks, verdict}
use Rattle.meaning.specs.Effects.{accepted, moved, said}
use Rattle.meaning.proofs.Reaching.{reached_inside}
use Rattle.meaning.proofs.Verdicts.{card_access}
use Rattle.mapper.specs.Tasks.{Task, task_of, Left}
use Rattle.mapper.specs.Called.{here, seen, Called, Judged, Translated, Targeted}

unchanged : {M : Type 0} (leaves : M → Task → M → Type 0) (m : M) (t : Option Task) (f : Fault) → Left leaves m m t (fails f)
unchanged leaves m None f = refl
unchanged leaves m (Some t) f = refl

-- a frame that a translation gives lies in memory
pub judged_inside : (S : Setup) (reserved : ℕ → Bool) (o : List Mapping) → Bounds S reserved o → (c p l : ℕ) (a : Access) (f : Frame) → Judged (reach_of o c p) l a (Ok f) → f.0 < S.frames
judged_inside S reserved o b c p l a f j = go (reach_of o c p) refl j
  where
    go : (s : Option Reach) → reach_of o c p ≡ s → Judged s l a (Ok f) → f.0 < S.frames
    go None e k = cc
    go (Some s) e k = omega (arith, k.1 0, reached_inside S reserved o b c p s e)

module _ {M : Type 0} (I : Meaning M) where
  -- an error changes nothing
  pub refused : (m : M) (x : List ℕ) (k : Call) (f : Fault) → verdict (here I m x) (I.opened m) k ≡ errs f
      → Called I m m x x k (fails f)
  refused m x k f e = record { fixed = refl; answers = rw e; opens = rw e; memory = rw e; left = unchanged I.leaves m (task_of k) f }

  -- a call that is let pass
  pub passed : (m m' : M) (x x' : List ℕ) (k : Call) (a : Answer) → I.setup m' ≡ I.setup m → verdict (here I m x) (I.opened m) k ≡ fine
      → a ≡ said (here I m x) (seen (I.opened m) x) k → I.opened m' ≡ accepted (here I m x) (I.opened m) k
      → bytes_of x' ≡ moved (here I m x) (I.opened m) (bytes_of x) k → Left I.leaves m m' (task_of k) a → Called I m m' x x' k a
  passed m m' x x' k a same e t o b l = record { fixed = same; answers = rw e t; opens = rw e o; memory = rw e b; left = l }

  -- A card's access -----------------------------------------------------------------------------------------

  -- the byte that its checks and its translation let a card access
  pub target_found : {m m' : M} {x : List ℕ} {c v p n room : ℕ} {a : Access} {f : Frame} {offset : ℕ} → p ≡ v / 4096 → ((w : Verdict) → card_checks (here I m x) c v n room w ≡ w)
      → offset ≡ v % 4096 → Translated I m m' c p a (Ok f) → Targeted I m m' x c v n room a (Ok (f.0 * 4096 + offset))
  target_found {m} {x} {c} {v} {n} {room} {a} {f} page e o t =
      let u = rw page at t in
      let access = card_access (here I m x) c v n room fine (e fine) in
      let inside = judged_inside _ _ _ (I.bounds _ _ (I.standing m)) c (v / 4096) _ a f u.judged in
      let byte = u.judged.1 v in
      record {
        fixed = u.fixed;
        same = u.same;
        target = (e _ ∙ u.judged.0, cc, omega arith, access.roomy);
        left = u.left;
      }
