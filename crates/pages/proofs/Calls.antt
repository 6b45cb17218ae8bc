-- The calls of a mapper that lands each buffer at its own address and reserves no frame, put together from its checks and what it did.
use Rattle.std.proofs.Common.{◌≡◌, ℕ, false, List, Some, Ok, Err, Option, Bool, sym, refl, ap, ◌∙◌}
use Rattle.units.specs.declared.fault.Fault.{Fault}
use Rattle.units.specs.declared.mapping.Mapping.{Mapping}
use Rattle.units.specs.declared.mapping.Placement.{Placement}
use Rattle.units.specs.declared.mapping.Request.{Request}
use Rattle.units.specs.declared.mapping.Sync.{Sync}
use Rattle.units.specs.Holders.{holder_after}
use Rattle.meaning.specs.Memory.{Bytes, bytes_of}
use Rattle.meaning.specs.Mappings.{find, insert, remove, turn}
use Rattle.meaning.specs.Worlds.{Setup, Choice}
use Rattle.meaning.specs.Calls.{Call, map, unmap, sync, Answer, fails, done, at}
use Rattle.meaning.specs.Checks.{Verdict, fine, errs, chosen, admitted, unmap_checks, sync_checks, verdict}
use Rattle.meaning.specs.Effects.{answer, answered, said, new_mapping, on_found, on_choice, copy_in, copy_at_unmap, copy_at_sync}
use Rattle.meaning.proofs.Verdicts.{Admitted, admitted_facts}
use Rattle.meaning.proofs.Own.{own_in, own_unmap, own_sync}
use Rattle.mapper.specs.declared.laws.Meaning.{Ghosts as Meaning}
use Rattle.mapper.specs.Tasks.{opens, closes, turns}
use Rattle.mapper.specs.Called.{here, seen, Called}
use Rattle.mapper.proofs.Calling.{refused, passed}

module _ {M : Type 0} (I : Meaning M) (w : M) (x : List ℕ) where
  pub refused_call : (c : Call) (f : Fault) → verdict (here I w x) (I.opened w) c ≡ errs f → Called I w w x x c (fails f)
  refused_call c f e = refused I w x c f e

  pub refused_chosen : (r : Request) (f : Fault) → ((k : Verdict) → admitted (here I w x) r k ≡ k) → I.kind.choice (I.setup w) (I.opened w) r ≡ Err f → Called I w w x x (map r) (fails f)
  unfolding verdict
  refused_chosen r f e h = refused_call (map r) f (e _ ∙ ap chosen h)

  -- what a request that was let pass asks for
  pub asked : (r : Request) → ((k : Verdict) → admitted (here I w x) r k ≡ k) → Admitted (here I w x) r
  asked r e = admitted_facts (here I w x) r fine (e fine)

  module _ (r : Request) where
    abbrev said_so : Verdict → Answer
    said_so k = answered k (said (here I w x) (seen (I.opened w) x) (map r))

    pub would_refuse : (f : Fault) → verdict (here I w x) (I.opened w) (map r) ≡ errs f → fails f ≡ answer (here I w x) (seen (I.opened w) x) (map r)
    would_refuse f e = sym (ap said_so e)

    pub would_fail : (f : Fault) → ((k : Verdict) → admitted (here I w x) r k ≡ k) → I.kind.choice (I.setup w) (I.opened w) r ≡ Err f
        → fails f ≡ answer (here I w x) (seen (I.opened w) x) (map r)
    unfolding verdict
    would_fail f e h = sym (ap said_so (e _ ∙ ap chosen h))

    pub would_place : (p : Placement) → ((k : Verdict) → admitted (here I w x) r k ≡ k) → I.kind.choice (I.setup w) (I.opened w) r ≡ Ok p
        → at p.device.0 ≡ answer (here I w x) (seen (I.opened w) x) (map r)
    unfolding verdict
    would_place p e h = sym (ap said_so (e _ ∙ ap chosen h) ∙ ap (λ (z : Choice). on_choice z done (λ k. at k.device.0)) h)

-- from w to v, with the same memory before and after: each buffer lands at its own address
module _ {M : Type 0} (I : Meaning M) (plain : (S : Setup) → I.kind.reserved S ≡ (λ f. false)) (own : (w : M) (c v : ℕ) (m : Mapping) → find (I.opened w) c v ≡ Some m → m.landing ≡ m.buffer.address)
    (w v : M) (x : List ℕ) (same : I.setup v ≡ I.setup w) where
  stays_found : (c a : ℕ) (m : Mapping) (f : Mapping → Bytes) → find (I.opened w) c a ≡ Some m → f m ≡ bytes_of x → bytes_of x ≡ on_found (find (I.opened w) c a) (bytes_of x) f
  stays_found c a m f e h = sym (ap (λ (z : Option Mapping). on_found z (bytes_of x) f) e ∙ h)

  pub closed_call : (c d a n : ℕ) (m : Mapping) → unmap_checks (here I w x) (I.opened w) c d a n ≡ fine → find (I.opened w) c a ≡ Some m
      → I.opened v ≡ remove c a (I.opened w) → I.leaves w (closes c a) v → Called I w v x x (unmap c d a n) done
  unfolding verdict
  closed_call c d a n m e f o l = passed I w v x x (unmap c d a n) done same e refl o
      (stays_found c a m (λ k. copy_at_unmap k (bytes_of x)) f (own_unmap m (own w c a m f) (bytes_of x))) l

  pub turned_call : (s : Sync) (c a : ℕ) (m : Mapping) → sync_checks (here I w x) (I.opened w) s c a ≡ fine → find (I.opened w) c a ≡ Some m
      → I.opened v ≡ turn (holder_after s) c a (I.opened w) → I.leaves w (turns s c a) v → Called I w v x x (sync s c a) done
  unfolding verdict
  turned_call s c a m e f o l = passed I w v x x (sync s c a) done same e refl o
      (stays_found c a m (λ k. copy_at_sync s k (bytes_of x)) f (own_sync m (own w c a m f) (bytes_of x) s)) l

  pub opened_call : (r : Request) (p : Placement) → ((k : Verdict) → admitted (here I w x) r k ≡ k) → I.kind.choice (I.setup w) (I.opened w) r ≡ Ok p
      → p.landing ≡ r.buffer.address → I.opened v ≡ insert (new_mapping r p) (I.opened w) → I.leaves w (opens r) v → Called I w v x x (map r) (at p.device.0)
  unfolding verdict
  opened_call r p e f q o l = passed I w v x x (map r) (at p.device.0) same (e _ ∙ ap chosen f)
      (sym (ap (λ (z : Choice). on_choice z done (λ k. at k.device.0)) f)) (o ∙ sym (ap (λ (z : Choice). on_choice z (I.opened w) (λ k. insert (new_mapping r k) (I.opened w))) f))
      (sym (ap (λ (z : Choice). on_choice z (bytes_of x) (λ k. copy_in (I.kind.reserved (I.setup w)) (new_mapping r k) (bytes_of x))) f
      ∙ ap (λ (b : ℕ → Bool). copy_in b (new_mapping r p) (bytes_of x)) (plain (I.setup w))
      ∙ own_in (new_mapping r p) q (bytes_of x))) l
