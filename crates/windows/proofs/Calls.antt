-- The calls of the window mapper, put together from its checks and what the table did.
use Rattle.std.proofs.Common.{◌≡◌, ℕ, ◌<◌, true, List, length, Some, Ok, Err, refl, ap, ◌∙◌, subst, sym}
use Rattle.units.specs.declared.fault.Fault.{Fault}
use Rattle.units.specs.declared.mapping.Mapping.{Mapping}
use Rattle.units.specs.declared.mapping.Placement.{Placement}
use Rattle.units.specs.declared.mapping.Request.{Request}
use Rattle.units.specs.declared.mapping.Sync.{Sync}
use Rattle.units.specs.Holders.{holder_after}
use Rattle.meaning.specs.Mappings.{In, key, find, insert, remove, turn}
use Rattle.meaning.specs.Worlds.{Setup}
use Rattle.meaning.specs.Calls.{Call, map, unmap, sync, Answer, fails, done, at}
use Rattle.meaning.specs.Checks.{Verdict, fine, errs, admitted, unmap_checks, sync_checks, verdict}
use Rattle.meaning.specs.Effects.{new_mapping}
use Rattle.meaning.proofs.Lists.{find_is_in}
use Rattle.mapper.specs.Tasks.{Task, opens, closes, turns}
use Rattle.mapper.specs.Called.{here, Called}
use Rattle.pages.specs.Lawful.{lawful}
use Rattle.pages.proofs.Facts.{lawful_facts}
use Rattle.pages.proofs.Calls as generic
use Rattle.slots.specs.Slots.{opened_of}
use Rattle.window_table.specs.Choosing.{setup_of, window_choice}
use Rattle.window_table.specs.Left.{WindowsLeft}
use Rattle.window_table.proofs.Laws.{choice_room, choice_lawful, choice_new}
use Rattle.windows.specs.contracts.laws.WindowsMeaning.TheImpl.{ghosts as means}
use Rattle.windows.specs.declared.windows.Windows.{Windows}

abbrev pub setup_in : Windows → Setup
setup_in w = setup_of w.geometry

abbrev pub open_in : Windows → List Mapping
open_in w = opened_of w.table.slots

abbrev pub left_in : Windows → Task → Windows → Type 0
left_in w t v = WindowsLeft w.table.slots t v.table.slots

abbrev Done : Windows → Windows → List ℕ → Call → Answer → Type 0
Done w v x c a = Called means w v x x c a

pub refused_call : (w : Windows) (x : List ℕ) (c : Call) (f : Fault) → verdict (here means w x) (open_in w) c ≡ errs f → Done w w x c (fails f)
refused_call w x c f e = generic.refused_call means w x c f e

pub refused_chosen : (w : Windows) (x : List ℕ) (r : Request) (f : Fault) → ((k : Verdict) → admitted (here means w x) r k ≡ k) → window_choice (setup_in w) (open_in w) r ≡ Err f → Done w w x (map r) (fails f)
refused_chosen w x r f e h = generic.refused_chosen means w x r f e h

-- what a request that was let pass asks for
pub asked : (w : Windows) (x : List ℕ) (r : Request) → ((k : Verdict) → admitted (here means w x) r k ≡ k) → (r.card.0 < w.geometry.cards) × (0 < r.buffer.length)
asked w x r e = let a = generic.asked means w x r e in (a.card, a.some)

-- each buffer lands at its own address
own : (w : Windows) (c v : ℕ) (m : Mapping) → find (open_in w) c v ≡ Some m → m.landing ≡ m.buffer.address
own w c v m e = ((lawful_facts (setup_in w) (open_in w) w.kept).each m (find_is_in c v (open_in w) m e)).own

module _ (w v : Windows) (x : List ℕ) (same : v.geometry ≡ w.geometry) where
  pub closed_call : (c d a n : ℕ) (m : Mapping) → unmap_checks (here means w x) (open_in w) c d a n ≡ fine → find (open_in w) c a ≡ Some m
      → open_in v ≡ remove c a (open_in w) → left_in w (closes c a) v → Done w v x (unmap c d a n) done
  closed_call = generic.closed_call means (λ S. refl) own w v x (ap setup_of same)

  pub turned_call : (s : Sync) (c a : ℕ) (m : Mapping) → sync_checks (here means w x) (open_in w) s c a ≡ fine → find (open_in w) c a ≡ Some m
      → open_in v ≡ turn (holder_after s) c a (open_in w) → left_in w (turns s c a) v → Done w v x (sync s c a) done
  turned_call = generic.turned_call means (λ S. refl) own w v x (ap setup_of same)

  pub opened_call : (r : Request) (p : Placement) → ((k : Verdict) → admitted (here means w x) r k ≡ k) → window_choice (setup_in w) (open_in w) r ≡ Ok p
      → p.landing ≡ r.buffer.address → open_in v ≡ insert (new_mapping r p) (open_in w) → left_in w (opens r) v → Done w v x (map r) (at p.device.0)
  opened_call = generic.opened_call means (λ S. refl) own w v x (ap setup_of same)

-- Map -----------------------------------------------------------------------------------------------------

module _ (w : Windows) (x : List ℕ) (r : Request) (p : Placement) (e : (k : Verdict) → admitted (here means w x) r k ≡ k) (f : window_choice (setup_in w) (open_in w) r ≡ Ok p) where
  pub still_lawful : lawful (setup_in w) (insert (new_mapping r p) (open_in w)) ≡ true
  still_lawful = choice_lawful (setup_in w) (length x) (open_in w) r p (generic.asked means w x r e) f w.kept

  -- what the table holds once a free window took the mapping
  pub one_more : (m : Mapping) (o : List Mapping) → m ≡ new_mapping r p → (length (open_in w) < 8 → ((n : Mapping) → In n (open_in w) → key n ≡ key m → ⊥) → o ≡ insert m (open_in w)) → o ≡ insert (new_mapping r p) (open_in w)
  one_more m o same h =
      h (choice_room (setup_in w) (open_in w) r p f) (choice_new (setup_in w) (open_in w) m w.ranged (subst (λ (z : Mapping). lawful (setup_in w) (insert z (open_in w)) ≡ true) (sym same) still_lawful))
      ∙ ap (λ (z : Mapping). insert z (open_in w)) same
