-- What a mapper answers and leaves for a call that passes its checks.
use Rattle.std.proofs.Common.{◌≡◌, ℕ, ◌*◌, ◌<◌, true, List, is_some, Some, Ok, Err, Option, sym, refl, ap, ◌∙◌}
use Rattle.units.specs.declared.fault.Fault.{Fault}
use Rattle.units.specs.declared.mapping.Mapping.{Mapping}
use Rattle.units.specs.declared.mapping.Placement.{Placement}
use Rattle.units.specs.declared.mapping.Request.{Request}
use Rattle.units.specs.declared.mapping.Sync.{Sync}
use Rattle.units.specs.declared.number.DeviceAddress.{DeviceAddress}
use Rattle.units.specs.Directions.{code_of}
use Rattle.units.specs.Holders.{turned_by, holder_after}
use Rattle.meaning.specs.Mappings.{insert, remove, turn, find}
use Rattle.meaning.specs.Worlds.{World, Choice}
use Rattle.meaning.specs.Calls.{Call, map, unmap, sync, fails, done, at}
use Rattle.meaning.specs.Checks.{Verdict, fine, chosen, verdict}
use Rattle.meaning.specs.Effects.{State, answer, answered, after, said, accepted, moved, new_mapping, on_fine, on_found, on_choice, copy_in, copy_at_unmap, copy_at_sync}
use Rattle.meaning.specs.Told.{tells_at, tells_done}
use Rattle.meaning.proofs.Verdicts.{Admitted}
use Rattle.layer.proofs.Checks.{admitted_from, unmap_from, sync_from}

-- Map -----------------------------------------------------------------------------------------------------

map_verdict : (W : World) (o : List Mapping) (r : Request) → Admitted W r → verdict W o (map r) ≡ chosen (W.choice o r)
unfolding verdict
map_verdict W o r a = admitted_from W r (chosen (W.choice o r)) a

module _ (W : World) (s : State) (r : Request) (a : Admitted W r) where
  map_answer : answer W s (map r) ≡ answered (chosen (W.choice s.opens r)) (said W s (map r))
  map_answer = ap (λ (z : Verdict). answered z (said W s (map r))) (map_verdict W s.opens r a)

  -- a device address: the choice placed the request there
  pub placed : (v : DeviceAddress) → tells_at (Ok v) ≡ answer W s (map r) → (p : Placement) × (W.choice s.opens r ≡ Ok p) × (p.device ≡ v)
  placed v e = go (W.choice s.opens r) refl (e ∙ map_answer)
    where
      go : (k : Choice) → W.choice s.opens r ≡ k → at v.0 ≡ answered (chosen k) (on_choice k done (λ p. at p.device.0)) → (p : Placement) × (W.choice s.opens r ≡ Ok p) × (p.device ≡ v)
      go (Ok p) h i = let same : p.device.0 ≡ v.0 = cc in (p, h, λ j. record { 0 = same j })
      go (Err f) h i = absurd (cc)

  -- a refusal: the choice refused the request
  pub unplaced : (f : Fault) → tells_at (Err f) ≡ answer W s (map r) → W.choice s.opens r ≡ Err f
  unplaced f e = go (W.choice s.opens r) refl (e ∙ map_answer)
    where
      go : (k : Choice) → W.choice s.opens r ≡ k → fails f ≡ answered (chosen k) (on_choice k done (λ p. at p.device.0)) → W.choice s.opens r ≡ Err f
      go (Ok p) h i = absurd (cc)
      go (Err g) h i = let same : g ≡ f = cc in h ∙ ap (λ (z : Fault). Err z) same

  module _ (p : Placement) (e : W.choice s.opens r ≡ Ok p) where
    passes : verdict W s.opens (map r) ≡ fine
    passes = map_verdict W s.opens r a ∙ ap chosen e

    pub map_opens : (after W s (map r)).opens ≡ insert (new_mapping r p) s.opens
    map_opens = ap (λ (z : Verdict). on_fine z (accepted W s.opens (map r)) s.opens) passes ∙ ap (λ (z : Choice). on_choice z s.opens (λ q. insert (new_mapping r q) s.opens)) e

    pub map_moves : (after W s (map r)).memory ≡ copy_in W.reserved (new_mapping r p) s.memory
    map_moves = ap (λ (z : Verdict). on_fine z (moved W s.opens s.memory (map r)) s.memory) passes ∙ ap (λ (z : Choice). on_choice z s.memory (λ q. copy_in W.reserved (new_mapping r q) s.memory)) e

  pub unplaced_moves : (f : Fault) → W.choice s.opens r ≡ Err f → (after W s (map r)).memory ≡ s.memory
  unplaced_moves f e = ap (λ (z : Verdict). on_fine z (moved W s.opens s.memory (map r)) s.memory) (map_verdict W s.opens r a ∙ ap chosen e)

  -- the other way round
  pub placed_answer : (p : Placement) (v : ℕ) → W.choice s.opens r ≡ Ok p → p.device.0 ≡ v → at v ≡ answer W s (map r)
  placed_answer p v e d = ap at (sym d) ∙ sym (map_answer ∙ ap (λ (z : Choice). answered (chosen z) (on_choice z done (λ q. at q.device.0))) e)

  pub unplaced_answer : (f : Fault) → W.choice s.opens r ≡ Err f → fails f ≡ answer W s (map r)
  unplaced_answer f e = sym (map_answer ∙ ap (λ (z : Choice). answered (chosen z) (on_choice z done (λ q. at q.device.0))) e)

-- Unmap and sync ------------------------------------------------------------------------------------------

-- one that passes is answered so
done_only : (f : Fault) → tells_done (Err f) ≡ done → ⊥
done_only f e = cc

module _ (W : World) (s : State) (c v : ℕ) (m : Mapping) (card : c < W.cards) (memory : W.size ≡ W.frames * 4096) (e : find s.opens c v ≡ Some m) where
  abbrev close : Call
  close = unmap c (code_of m.direction) v m.buffer.length

  close_passes : verdict W s.opens close ≡ fine
  unfolding verdict
  close_passes = unmap_from W s.opens c v m card memory e

  pub close_succeeds : (f : Fault) → tells_done (Err f) ≡ answer W s close → ⊥
  close_succeeds f h = done_only f (h ∙ ap (λ (z : Verdict). answered z done) close_passes)

  pub close_opens : (after W s close).opens ≡ remove c v s.opens
  close_opens = ap (λ (z : Verdict). on_fine z (remove c v s.opens) s.opens) close_passes

  pub close_moves : (after W s close).memory ≡ copy_at_unmap m s.memory
  close_moves = ap (λ (z : Verdict). on_fine z (moved W s.opens s.memory close) s.memory) close_passes
      ∙ ap (λ (z : Option Mapping). on_found z s.memory (λ n. copy_at_unmap n s.memory)) e

  module _ (k : Sync) (turns : is_some (turned_by m.holder k) ≡ true) where
    turn_passes : verdict W s.opens (sync k c v) ≡ fine
    unfolding verdict
    turn_passes = sync_from W s.opens k c v m card memory e turns

    pub turn_succeeds : (f : Fault) → tells_done (Err f) ≡ answer W s (sync k c v) → ⊥
    turn_succeeds f h = done_only f (h ∙ ap (λ (z : Verdict). answered z done) turn_passes)

    pub turn_opens : (after W s (sync k c v)).opens ≡ turn (holder_after k) c v s.opens
    turn_opens = ap (λ (z : Verdict). on_fine z (turn (holder_after k) c v s.opens) s.opens) turn_passes

    pub turn_moves : (after W s (sync k c v)).memory ≡ copy_at_sync k m s.memory
    turn_moves = ap (λ (z : Verdict). on_fine z (moved W s.opens s.memory (sync k c v)) s.memory) turn_passes
        ∙ ap (λ (z : Option Mapping). on_found z s.memory (λ n. copy_at_sync k n s.memory)) e
