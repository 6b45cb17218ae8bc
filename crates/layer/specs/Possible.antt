-- What a set-up and calls can lead to above a layer.
use Rattle.std.specs.Prelude.{◌≡◌, ℕ, ◌+◌, ◌*◌, ◌/◌, ◌%◌, ◌<◌, ◌≤◌, Bool, true, false, ◌||◌, ◌⊎◌, List, []}
use Rattle.units.specs.declared.mapping.Mapping.{Mapping}
use Rattle.meaning.specs.Memory.{within}
use Rattle.meaning.specs.Mappings.{In, Pairwise, Whole, Holds, Lands, first_frame, page_count}
use Rattle.meaning.specs.Worlds.{Setup, Kind}
use Rattle.layer.specs.Lowering.{lowered}
use Rattle.layer.specs.Pools.{below_setup, pool_first, pool_count}

-- an open mapping over a pool, with frames reserved below
pub record Fitting (frames : ℕ) (reserved : ℕ → Bool) (first count : ℕ) (m : Mapping) : Type 0 where
  pub some : 0 < m.buffer.length
  pub short : page_count m ≤ 8
  pub inside : m.buffer.address + m.buffer.length ≤ frames * 4096
  pub offset_device : m.device.0 % 4096 ≡ m.buffer.address % 4096
  pub offset_landing : m.landing % 4096 ≡ m.buffer.address % 4096
  pub own : Whole m → m.landing ≡ m.buffer.address
  pub pooled : (Whole m → ⊥) → (first ≤ first_frame m) × (first_frame m + page_count m ≤ first + count)
  pub clean : (b : ℕ) → Holds m b → (within first count (b / 4096) || reserved (b / 4096)) ≡ false

-- what a layer keeps over a mapper with `frames` frames: its pool, each open mapping, and that no two land on a common pool frame
pub record Standing (frames : ℕ) (reserved : ℕ → Bool) (first count : ℕ) (o : List Mapping) : Type 0 where
  pub some : 1 ≤ count
  pub few : count ≤ 16
  pub inside : first + count ≤ frames
  pub clear : (f : ℕ) → within first count f ≡ true → reserved f ≡ false
  pub each : (m : Mapping) → In m o → Fitting frames reserved first count m
  pub unshared : Pairwise (λ m n. (q : ℕ) → Lands m q → Lands n q → within first count (q / 4096) ≡ true → ⊥) o

-- a refused layer has no cards, no frames and nothing open
pub record Refused (S : Setup) (o : List Mapping) : Type 0 where
  pub cards : S.cards ≡ 0
  pub frames : S.frames ≡ 0
  pub pool : pool_count S ≡ 0
  pub empty : o ≡ []

-- what is open above is possible below, and the layer stands
pub record Over (K : Kind) (possible : Setup → List Mapping → Type 0) (S : Setup) (o : List Mapping) : Type 0 where
  pub below : possible (below_setup S) (lowered o)
  pub standing : Standing S.frames (K.reserved (below_setup S)) (pool_first S) (pool_count S) o

abbrev pub layer_possible : Kind → (Setup → List Mapping → Type 0) → Setup → List Mapping → Type 0
layer_possible K possible S o = Refused S o ⊎ Over K possible S o
