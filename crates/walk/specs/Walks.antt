-- The walk through tables of 512 words, as VT-d second-level paging has it.
use Rattle.std.specs.Prelude.{ℕ, zero, suc, ◌+◌, ◌*◌, ◌^◌, true, false, cond, ◌&&◌, List, Some, None, Option, nat_lt, slice_index_or}
use Rattle.units.specs.declared.direction.Access.{Access}
use Rattle.units.specs.declared.direction.Access.TheVariants.{Read, Write}
use Rattle.units.specs.declared.mapping.Reach.{Reach}
use Rattle.units.specs.Directions.{allows}
use Rattle.entry.specs.Words.{rights_in, number_in, is_clear, is_present}
use Rattle.walk.specs.Indices.{index}

-- word i of table t; a word past the end is 0
abbrev pub cell : List ℕ → ℕ → ℕ → ℕ
cell ws t i = slice_index_or ws (t * 512 + i) 0

-- what a walk comes to: a word of level 1, or the level of the first word that is absent or lacks the wanted right
pub data Walked : Type 0 where
  arrives : (word : ℕ) → Walked
  absent : (level : ℕ) → Walked
  lacking : (level : ℕ) → Walked

-- at a word of level l: onward, unless it is absent or lacks the right. One with a reserved bit, which cannot exist, counts as absent
abbrev pub passing : ℕ → Access → ℕ → Walked → Walked
passing l a w onward = cond (is_clear w && is_present w) (cond (allows a (rights_in w)) onward (lacking l)) (absent l)

-- from table t of level l + 1
unfoldable pub walk_from : ℕ → Access → List ℕ → ℕ → ℕ → Walked
walk_from zero a ws t p = passing 1 a (cell ws t (index 0 p)) (arrives (cell ws t (index 0 p)))
walk_from (suc l) a ws t p = passing (suc (suc l)) a (cell ws t (index (suc l) p)) (walk_from l a ws (number_in (cell ws t (index (suc l) p))) p)

-- for an access of card c at device page p: from its root, table c
abbrev pub walked : Access → List ℕ → ℕ → ℕ → Walked
walked a ws c p = walk_from 3 a ws c p

-- the frame where a walk arrives
abbrev pub frame_at : Walked → Option ℕ
frame_at (arrives w) = Some (number_in w)
frame_at (absent l) = None
frame_at (lacking l) = None

-- the walks for reading and for writing together: a right for each that arrives
abbrev pub both_walks : Option ℕ → Option ℕ → Option Reach
both_walks None None = None
both_walks None (Some f) = Some (record { frame = record { 0 = f }; rights = record { read = false; write = true } })
both_walks (Some f) None = Some (record { frame = record { 0 = f }; rights = record { read = true; write = false } })
both_walks (Some f) (Some g) = Some (record { frame = record { 0 = f }; rights = record { read = true; write = true } })

-- what card c, of C cards, reaches at device page p by walks of the words; a device page has 36 bits
abbrev pub reach_in : ℕ → List ℕ → ℕ → ℕ → Option Reach
reach_in C ws c p = cond (nat_lt c C && nat_lt p (2 ^ 36)) (both_walks (frame_at (walked Read ws c p)) (frame_at (walked Write ws c p))) None
