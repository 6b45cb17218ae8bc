-- What every call keeps of the open mappings, once map, unmap and sync keep it.
use Rattle.std.proofs.Common.{◌≡◌, ℕ, List, Ok, Err, refl}
use Rattle.units.specs.declared.mapping.Holder.{Holder}
use Rattle.units.specs.declared.mapping.Mapping.{Mapping}
use Rattle.units.specs.declared.mapping.Placement.{Placement}
use Rattle.units.specs.declared.mapping.Request.{Request}
use Rattle.units.specs.Holders.{holder_after}
use Rattle.meaning.specs.Mappings.{insert, remove, turn}
use Rattle.meaning.specs.Worlds.{Choice, World}
use Rattle.meaning.specs.Calls.{Call, map, unmap, sync, cpu_read, cpu_write, card_read, card_write, report}
use Rattle.meaning.specs.Checks.{Verdict, fine, errs, chosen, verdict}
use Rattle.meaning.specs.Effects.{new_mapping, on_fine, on_choice, opens_after}
use Rattle.meaning.proofs.Verdicts.{Admitted, admitted_facts}

-- a predicate on lists of open mappings that the changes keep
pub record Stable (W : World) (P : List Mapping → Type 0) (o : List Mapping) : Type 0 where
  pub grows : (r : Request) (p : Placement) → Admitted W r → W.choice o r ≡ Ok p → P o → P (insert (new_mapping r p) o)
  pub shrinks : (c v : ℕ) → P o → P (remove c v o)
  pub turns : (h : Holder) (c v : ℕ) → P o → P (turn h c v o)

either : (P : List Mapping → Type 0) (w : Verdict) (a o : List Mapping) → (w ≡ fine → P a) → P o → P (on_fine w a o)
either P fine a o f h = f refl
either P (errs k) a o f h = h

on_choice_lem : (W : World) (P : List Mapping → Type 0) (o : List Mapping) → Stable W P o → P o → (r : Request) → Admitted W r
    → P (on_choice (W.choice o r) o (λ p. insert (new_mapping r p) o))
on_choice_lem W P o s h r a = go (W.choice o r) refl
  where
    go : (k : Choice) → W.choice o r ≡ k → P (on_choice k o (λ p. insert (new_mapping r p) o))
    go (Ok p) e = s.grows r p a e h
    go (Err f) e = h

pub opens_kept : (W : World) (P : List Mapping → Type 0) (o : List Mapping) → Stable W P o → P o → (c : Call) → P (opens_after W o c)
unfolding verdict
opens_kept W P o s h (map r) = either P (verdict W o (map r)) _ o (λ e. on_choice_lem W P o s h r (admitted_facts W r (chosen (W.choice o r)) e)) h
opens_kept W P o s h (unmap c d v n) = either P (verdict W o (unmap c d v n)) _ o (λ e. s.shrinks c v h) h
opens_kept W P o s h (sync k c v) = either P (verdict W o (sync k c v)) _ o (λ e. s.turns (holder_after k) c v h) h
opens_kept W P o s h (cpu_read a n t) = either P (verdict W o (cpu_read a n t)) o o (λ e. h) h
opens_kept W P o s h (cpu_write a t) = either P (verdict W o (cpu_write a t)) o o (λ e. h) h
opens_kept W P o s h (card_read c v n t) = either P (verdict W o (card_read c v n t)) o o (λ e. h) h
opens_kept W P o s h (card_write c v t) = either P (verdict W o (card_write c v t)) o o (λ e. h) h
opens_kept W P o s h (report c) = either P (verdict W o (report c)) o o (λ e. h) h
