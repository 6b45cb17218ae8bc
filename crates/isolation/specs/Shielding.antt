-- What the promise asks of a mapper: two of its laws, and that buffers which are not whole land in reserved frames. Bounce layers show it.
use Rattle.std.specs.Prelude.{ℕ, List, []}
use Rattle.units.specs.declared.mapping.Mapping.{Mapping}
use Rattle.meaning.specs.Memory.{Bytes}
use Rattle.meaning.specs.Worlds.{Setup, Kind, world}
use Rattle.meaning.specs.Laws.{DisjointPages, Landings, Bounced}
use Rattle.meaning.specs.Calls.{Call}
use Rattle.meaning.specs.Effects.{opens_after}
use Rattle.isolation.specs.Lists.{left_by}

-- with n bytes of memory, whatever calls were made from set-up on
pub record Shielded (K : Kind) (S : Setup) (n : ℕ) : Type 0 where
  pub disjoint_pages : (x : Bytes) (l : List Call) → DisjointPages S (left_by (world K S n) x l).opens
  pub landing : (x : Bytes) (l : List Call) → Landings (K.reserved S) (left_by (world K S n) x l).opens
  pub bounced : (x : Bytes) (l : List Call) → Bounced (K.reserved S) (left_by (world K S n) x l).opens

-- the same of a mapper that names the lists of open mappings to which calls can lead
pub record Shielding (K : Kind) (S : Setup) (possible : Setup → List Mapping → Type 0) : Type 0 where
  pub start : possible S []
  pub kept : (o : List Mapping) (n : ℕ) (c : Call) → possible S o → possible S (opens_after (world K S n) o c)
  pub disjoint_pages : (o : List Mapping) → possible S o → DisjointPages S o
  pub landing : (o : List Mapping) → possible S o → Landings (K.reserved S) o
  pub bounced : (o : List Mapping) → possible S o → Bounced (K.reserved S) o
