-- What a pool lends, as loans, how lending changes it, and which frames it takes.
use Rattle.std.specs.Prelude.{◌≡◌, ℕ, ◌+◌, ◌-◌, ◌^◌, ◌≤◌, min, Bool, cond, ◌&&◌, List, replicate, Some, None, Option, nat_le, nat_lt, slice_set, slice_index_or}
use Rattle.units.specs.declared.buffer.Buffer.{Buffer}
use Rattle.units.specs.declared.mapping.Mapping.{Mapping}
use Rattle.units.specs.declared.number.Frame.{Frame}
use Rattle.units.specs.Buffers.{span}
use Rattle.chooser.specs.declared.gap.Range.{Range}
use Rattle.chooser.specs.Finding.{choice}
use Rattle.layer.specs.Lifting.{loan_of}
use Rattle.layer.specs.Pools.{frame_number, used_frames}
use Rattle.layer.specs.Possible.{Standing}
use Rattle.pool.specs.declared.pool.Pool.{Pool}

-- nothing is lent
abbrev pub empty_pool : ℕ → ℕ → Pool
empty_pool first count = record { first = record { 0 = first }; count = count; loans = replicate 16 None }

-- there is a place for a loan of the run from frame f on
abbrev pub has_record : Pool → ℕ → Bool
has_record p f = nat_le p.first.0 f && nat_lt (f - p.first.0) 16

-- the buffer that the run from frame f on is lent to
unfoldable pub loan_in : Pool → ℕ → Option Buffer
loan_in p f = cond (has_record p f) (slice_index_or p.loans (f - p.first.0) None) None

-- the run from frame f on lent to a buffer, or to none
unfoldable pub lent : Pool → ℕ → Option Buffer → Pool
lent p f b = cond (has_record p f) (record { first = p.first; count = p.count; loans = slice_set p.loans (f - p.first.0) b }) p

abbrev pub run_at : ℕ → Option Buffer → Range Frame
run_at f (Some b) = record { first = record { 0 = f }; count = span b.address b.length }
run_at f None = record { first = record { 0 = 0 }; count = 0 }

-- the frames that the loan at a place takes; a number of a frame has 32 bits
abbrev pub run_of : Pool → ℕ → Range Frame
run_of p i = run_at (min (p.first.0 + i) (2 ^ 32 - 1)) (slice_index_or p.loans i None)

-- the first of n frames that open mappings leave free, by the chooser
abbrev pub frames_of_pool : Pool → List Mapping → ℕ → Option ℕ
frames_of_pool p o n = choice frame_number p.first.0 (p.first.0 + p.count - 1) (used_frames o) n

-- the pool lends what open mappings take, in a memory of `frames` frames
pub record Lends (p : Pool) (frames : ℕ) (reserved : ℕ → Bool) (o : List Mapping) : Type 0 where
  pub standing : Standing frames reserved p.first.0 p.count o
  pub few : frames ≤ 1024
  pub loans : (f : ℕ) → loan_in p f ≡ loan_of o f
