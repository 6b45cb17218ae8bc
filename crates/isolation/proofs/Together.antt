-- A call in both of two runs: their memories stay tied.
use Rattle.std.proofs.Common.{◌≡◌, ℕ, ◌/◌, List, Some, None, Ok, Err, Option, refl, inl, ◌↔◌}
use Rattle.units.specs.declared.mapping.Holder.{Holder}
use Rattle.units.specs.declared.mapping.Holder.TheVariants.{ByCard}
use Rattle.units.specs.declared.mapping.Mapping.{Mapping}
use Rattle.units.specs.declared.mapping.Placement.{Placement}
use Rattle.units.specs.declared.mapping.Request.{Request}
use Rattle.units.specs.declared.mapping.Sync.{Sync}
use Rattle.units.specs.Holders.{holder_after}
use Rattle.meaning.specs.Memory.{Bytes}
use Rattle.meaning.specs.Mappings.{Holds, find, reach_of, insert, remove, turn, turned}
use Rattle.meaning.specs.Worlds.{Setup, Kind, Choice, world}
use Rattle.meaning.specs.Calls.{Call, map, unmap, sync, cpu_read, cpu_write, card_read, card_write, report}
use Rattle.meaning.specs.Checks.{Verdict, fine, errs, chosen, verdict}
use Rattle.meaning.specs.Effects.{new_mapping, on_fine, on_found, on_choice, accepted, moved, copy_in, copy_at_unmap, copy_at_sync, reached_byte}
use Rattle.meaning.proofs.Lists.{in_remove, in_turn, find_is_in}
use Rattle.meaning.proofs.Verdicts.{Admitted, admitted_facts}
use Rattle.isolation.proofs.Moves.{frames_held}
use Rattle.isolation.proofs.Landing.{Lawful}
use Rattle.isolation.proofs.Tied.{Tied, more_granted, same_write, same_unmap, same_sync}
use Rattle.isolation.proofs.Opening.{fewer, mapped}

module _ (K : Kind) (S : Setup) (n : ℕ) (F : Mapping → Type 0) (turns : (h : Holder) (m : Mapping) → F m ↔ F (turned h m))
    (G : ℕ → Type 0) (o : List Mapping) (x y : Bytes) (laws : Lawful S (K.reserved S) o) (t : Tied (K.reserved S) F G o x y) where
  unmapped : (f : Option Mapping) (c v : ℕ) → find o c v ≡ f
      → Tied (K.reserved S) F G o (on_found f x (λ m. copy_at_unmap m x)) (on_found f y (λ m. copy_at_unmap m y))
  unmapped None c v e = t
  unmapped (Some m) c v e = same_unmap S (K.reserved S) F G o x y laws t m (find_is_in c v o m e)

  synced : (k : Sync) (f : Option Mapping) (c v : ℕ) → find o c v ≡ f
      → Tied (K.reserved S) F G o (on_found f x (λ m. copy_at_sync k m x)) (on_found f y (λ m. copy_at_sync k m y))
  synced k None c v e = t
  synced k (Some m) c v e = same_sync S (K.reserved S) F G o x y laws t k m (find_is_in c v o m e)

  module _ (H : ℕ → Type 0) (up : (b : ℕ) → G b → H b) where
    opened : (r : Request) (h : Choice) → K.choice S o r ≡ h → Admitted (world K S n) r
        → Lawful S (K.reserved S) (on_choice h o (λ p. insert (new_mapping r p) o))
        → ((p : Placement) → K.choice S o r ≡ Ok p → F (new_mapping r p) → (b : ℕ) → Holds (new_mapping r p) b → H b)
        → Tied (K.reserved S) F H (on_choice h o (λ p. insert (new_mapping r p) o))
        (on_choice h x (λ p. copy_in (K.reserved S) (new_mapping r p) x)) (on_choice h y (λ p. copy_in (K.reserved S) (new_mapping r p) y))
    opened r (Err f) e a later grant = more_granted (K.reserved S) F G H o x y up t
    opened r (Ok p) e a later grant = mapped S (K.reserved S) F G H o x y (new_mapping r p) later up
        (λ b h. let f = frames_held r.buffer.address r.buffer.length b h.from h.to in a.clean (b / 4096) f.0 f.1) (grant p e) t

    pub both_tied : (c : Call) (w : Verdict) → verdict (world K S n) o c ≡ w → Lawful S (K.reserved S) (on_fine w (accepted (world K S n) o c) o)
        → ((r : Request) (p : Placement) → c ≡ map r → w ≡ fine → K.choice S o r ≡ Ok p → F (new_mapping r p) → (b : ℕ) → Holds (new_mapping r p) b → H b)
        → Tied (K.reserved S) F H (on_fine w (accepted (world K S n) o c) o)
        (on_fine w (moved (world K S n) o x c) x) (on_fine w (moved (world K S n) o y c) y)
    unfolding verdict
    both_tied c (errs f) e later grant = more_granted (K.reserved S) F G H o x y up t
    both_tied (map r) fine e later grant =
        opened r (K.choice S o r) refl (admitted_facts (world K S n) r (chosen (K.choice S o r)) e) later (λ p. grant r p refl refl)
    both_tied (unmap c d v l) fine e later grant = more_granted (K.reserved S) F G H (remove c v o) _ _ up
        (fewer (K.reserved S) F G o (remove c v o) _ _ ByCard (λ m w. (turns ByCard m).1 w) (λ m w. (turns ByCard m).0 w)
        (λ m i. record { was = m; is_open = in_remove c v m o i; same = inl refl }) (unmapped (find o c v) c v refl))
    both_tied (sync k c v) fine e later grant = more_granted (K.reserved S) F G H (turn (holder_after k) c v o) _ _ up
        (fewer (K.reserved S) F G o (turn (holder_after k) c v o) _ _ (holder_after k) (λ m w. (turns (holder_after k) m).1 w) (λ m w. (turns (holder_after k) m).0 w)
        (λ m i. in_turn (holder_after k) c v m o i) (synced k (find o c v) c v refl))
    both_tied (cpu_read a l b) fine e later grant = more_granted (K.reserved S) F G H o x y up t
    both_tied (cpu_write a b) fine e later grant = more_granted (K.reserved S) F G H o _ _ up
        (same_write S (K.reserved S) F G o x y laws t a b)
    both_tied (card_read c v l b) fine e later grant = more_granted (K.reserved S) F G H o x y up t
    both_tied (card_write c v b) fine e later grant = more_granted (K.reserved S) F G H o _ _ up
        (same_write S (K.reserved S) F G o x y laws t (reached_byte (reach_of o c (v / 4096)) v) b)
    both_tied (report c) fine e later grant = more_granted (K.reserved S) F G H o x y up t
