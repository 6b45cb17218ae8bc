-- The calls of the table mapper, put together from its checks and what it did.
use Rattle.std.proofs.Common.{◌≡◌, ℕ, List, Some, Ok, Err, refl}
use Rattle.units.specs.declared.fault.Fault.{Fault}
use Rattle.units.specs.declared.mapping.Mapping.{Mapping}
use Rattle.units.specs.declared.mapping.Placement.{Placement}
use Rattle.units.specs.declared.mapping.Request.{Request}
use Rattle.units.specs.declared.mapping.Sync.{Sync}
use Rattle.units.specs.Holders.{holder_after}
use Rattle.meaning.specs.Mappings.{find, insert, remove, turn}
use Rattle.meaning.specs.Worlds.{Setup}
use Rattle.meaning.specs.Calls.{Call, map, unmap, sync, Answer, fails, done, at}
use Rattle.meaning.specs.Checks.{Verdict, fine, errs, admitted, unmap_checks, sync_checks, verdict}
use Rattle.meaning.specs.Effects.{new_mapping}
use Rattle.meaning.proofs.Lists.{find_is_in}
use Rattle.mapper.specs.Tasks.{opens, closes, turns}
use Rattle.mapper.specs.Called.{here, Called}
use Rattle.pages.proofs.Facts.{lawful_facts}
use Rattle.pages.proofs.Calls as generic
use Rattle.slots.specs.Slots.{opened_of}
use Rattle.cache.specs.Held.{held}
use Rattle.cache.specs.Posted.{posted}
use Rattle.table_meaning.specs.Choosing.{setup_of, table_choice}
use Rattle.tables.specs.Left.{Kept, TablesLeft}
use Rattle.tables.specs.contracts.laws.TablesMeaning.TheImpl.{ghosts as means}
use Rattle.tables.specs.declared.tables.Tables.{Tables}

abbrev pub setup_in : Tables → Setup
setup_in w = setup_of w.geometry w.count

abbrev pub open_in : Tables → List Mapping
open_in w = opened_of w.records.slots

-- what the mapper keeps
abbrev pub kept_in : Tables → Kept
kept_in w = record { tables = w.tables; words = w.words.now; records = w.records.slots; cache = held w.cache; queue = posted w.queue }

abbrev Done : Tables → Tables → List ℕ → Call → Answer → Type 0
Done w v x c a = Called means w v x x c a

pub refused_call : (w : Tables) (x : List ℕ) (c : Call) (f : Fault) → verdict (here means w x) (open_in w) c ≡ errs f → Done w w x c (fails f)
refused_call w x c f e = generic.refused_call means w x c f e

pub refused_chosen : (w : Tables) (x : List ℕ) (r : Request) (f : Fault) → ((k : Verdict) → admitted (here means w x) r k ≡ k) → table_choice (setup_in w) (open_in w) r ≡ Err f → Done w w x (map r) (fails f)
refused_chosen w x r f e h = generic.refused_chosen means w x r f e h

-- each buffer lands at its own address
own : (w : Tables) (c v : ℕ) (m : Mapping) → find (open_in w) c v ≡ Some m → m.landing ≡ m.buffer.address
own w c v m e = ((lawful_facts (setup_in w) (open_in w) w.possible.0.1).each m (find_is_in c v (open_in w) m e)).own

module _ (w v : Tables) (x : List ℕ) (same : setup_in v ≡ setup_in w) where
  pub closed_call : (c d a n : ℕ) (m : Mapping) → unmap_checks (here means w x) (open_in w) c d a n ≡ fine → find (open_in w) c a ≡ Some m
      → open_in v ≡ remove c a (open_in w) → TablesLeft w.geometry.cards w.count (kept_in w) (closes c a) (kept_in v) → Done w v x (unmap c d a n) done
  closed_call = generic.closed_call means (λ S. refl) own w v x same

  pub turned_call : (s : Sync) (c a : ℕ) (m : Mapping) → sync_checks (here means w x) (open_in w) s c a ≡ fine → find (open_in w) c a ≡ Some m
      → open_in v ≡ turn (holder_after s) c a (open_in w) → TablesLeft w.geometry.cards w.count (kept_in w) (turns s c a) (kept_in v) → Done w v x (sync s c a) done
  turned_call = generic.turned_call means (λ S. refl) own w v x same

  pub opened_call : (r : Request) (p : Placement) → ((k : Verdict) → admitted (here means w x) r k ≡ k) → table_choice (setup_in w) (open_in w) r ≡ Ok p
      → p.landing ≡ r.buffer.address → open_in v ≡ insert (new_mapping r p) (open_in w) → TablesLeft w.geometry.cards w.count (kept_in w) (opens r) (kept_in v) → Done w v x (map r) (at p.device.0)
  opened_call = generic.opened_call means (λ S. refl) own w v x same
