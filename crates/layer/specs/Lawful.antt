-- What every mapper shows of the lists of open mappings that are possible, as one record.
use Rattle.std.specs.Prelude.{ℕ, List}
use Rattle.units.specs.declared.mapping.Mapping.{Mapping}
use Rattle.meaning.specs.Worlds.{Setup, Kind, world}
use Rattle.meaning.specs.Laws.{DisjointPages, Landings, EmptyRoom, ChoiceRefusals, Bounds}
use Rattle.meaning.specs.Calls.{Call}
use Rattle.meaning.specs.Effects.{opens_after}

pub record Lawful (K : Kind) (possible : Setup → List Mapping → Type 0) : Type 0 where
  pub kept : (S : Setup) (o : List Mapping) (n : ℕ) (c : Call) → possible S o → possible S (opens_after (world K S n) o c)
  pub disjoint_pages : (S : Setup) (o : List Mapping) → possible S o → DisjointPages S o
  pub landing : (S : Setup) (o : List Mapping) → possible S o → Landings (K.reserved S) o
  pub empty_room : (S : Setup) (o : List Mapping) → possible S o → EmptyRoom K S
  pub refusals : (S : Setup) (o : List Mapping) → possible S o → ChoiceRefusals K S o
  pub bounds : (S : Setup) (o : List Mapping) → possible S o → Bounds S (K.reserved S) o
