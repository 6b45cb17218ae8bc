-- The open mappings above, from those below and the buffers that pool frames are lent to.
use Rattle.std.specs.Prelude.{ℕ, ◌+◌, ◌%◌, cond, not, ◌&&◌, List, [], ◌∷◌, Some, None, Option, ◌==◌, nat_lt}
use Rattle.units.specs.declared.buffer.Buffer.{Buffer}
use Rattle.units.specs.declared.mapping.Mapping.{Mapping}
use Rattle.units.specs.declared.mapping.Reach.{Reach}
use Rattle.meaning.specs.Mappings.{first_frame}
use Rattle.layer.specs.Pools.{is_whole}

-- the buffer that the frames from f on are lent to, if any
abbrev pub Loans : Type 0
Loans = ℕ → Option Buffer

-- the mapping above, of one below whose frames are lent to a buffer
abbrev pub lifted : Mapping → Option Buffer → Mapping
lifted m None = m
lifted m (Some b) = record {
  card = m.card;
  direction = m.direction;
  buffer = b;
  device = record { 0 = m.device.0 + b.address % 4096 };
  landing = m.landing + b.address % 4096;
  holder = m.holder;
}

unfoldable pub lifts : Loans → List Mapping → List Mapping
lifts loan [] = []
lifts loan (m ∷ p) = lifted m (loan (first_frame m)) ∷ lifts loan p

-- the buffer of the open mapping that lands from frame f on, if that is not whole
unfoldable pub loan_of : List Mapping → Loans
loan_of [] f = None
loan_of (m ∷ o) f = cond (not (is_whole m) && first_frame m == f) (Some m.buffer) (loan_of o f)

-- what is open above a pool of `count` frames: without a pool nothing
abbrev pub opened_above : ℕ → Loans → List Mapping → List Mapping
opened_above count loan p = cond (nat_lt 0 count) (lifts loan p) []

-- what a card reaches above: without a pool nothing
abbrev pub reached_above : ℕ → Option Reach → Option Reach
reached_above count s = cond (nat_lt 0 count) s None
