-- The world of the shared rack: 10 tables with a layer over them, whose pool is frames 6 and 7.
use Rattle.std.specs.Prelude.{◌≡◌, ℕ, List, [], ◌∷◌, replicate}
use Rattle.meaning.specs.Worlds.{Setup, Kind, World, world}
use Rattle.table_meaning.specs.Choosing.{table_kind}
use Rattle.layer.specs.Choosing.{layer_kind}
use Rattle.mapper.specs.declared.laws.Meaning.{Ghosts as Meaning}
use Rattle.cache.specs.Held.{held}
use Rattle.slots.specs.Slots.{opened_of}
use Rattle.tables.specs.declared.tables.Tables.{Tables}
use Rattle.pool.specs.Lending.{empty_pool}
use Rattle.bounce.specs.declared.bounce.Bounce.{Bounce}
use Rattle.runs.specs.declared.command.Step.{Step}
use Rattle.runs.specs.Commands.{LeftInTurn}
use Rattle.rack.specs.Numbers.{last_pages, numbers}

-- the pool's first frame, its count, and the number of tables are the numbers fixed from the layer down
abbrev pub shared_setup : Setup
shared_setup = record { cards = 2; lasts = last_pages; frames = 8; fixed = 6 ∷ 2 ∷ 10 ∷ [] }

abbrev pub shared_kind : Kind
shared_kind = layer_kind table_kind

-- handed a memory of n bytes
abbrev pub shared_world : ℕ → World
shared_world n = world shared_kind shared_setup n

-- the rack's mapper with nothing open: all words are 0, nothing is cached, and the whole pool is free
pub record New {I : Meaning Tables} (m : Bounce Tables I) : Type 0 where
  pub numbers : m.lower.geometry ≡ numbers
  pub words : m.lower.words.now ≡ replicate 5120 0
  pub empty : opened_of m.lower.records.slots ≡ []
  pub cache : held m.lower.cache ≡ []
  pub pool : m.pool ≡ empty_pool 6 2

-- the new mapper became m step by step
pub record LeftFromNew {I : Meaning Tables} (J : Meaning (Bounce Tables I)) (m : Bounce Tables I) (before past : List Step) : Type 0 where
  pub first : Bounce Tables I
  pub new : New first
  pub left : LeftInTurn J first m before past
