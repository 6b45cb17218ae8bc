-- What a mapper is to all that stands above it: its set-up, and functions of set-up and open mappings.
use Rattle.std.specs.Prelude.{ℕ, Bool, List, Option, Result, slice_index_or}
use Rattle.units.specs.declared.fault.Fault.{Fault}
use Rattle.units.specs.declared.mapping.Mapping.{Mapping}
use Rattle.units.specs.declared.mapping.Placement.{Placement}
use Rattle.units.specs.declared.mapping.Reach.{Reach}
use Rattle.units.specs.declared.mapping.Request.{Request}
use Rattle.units.specs.declared.number.DevicePage.{DevicePage}
use Rattle.meaning.specs.Mappings.{reach_of}

-- the numbers given at set-up: cards, last device page of each, frames, and all fixed numbers from there down
pub record Setup : Type 0 where
  pub cards : ℕ
  pub lasts : List DevicePage
  pub frames : ℕ
  pub fixed : List ℕ

-- the last device page of card c
abbrev pub last_of : Setup → ℕ → ℕ
last_of S c = (slice_index_or S.lasts c (record { 0 = 0 })).0

-- where a buffer would be put, or why it would not
abbrev pub Choice : Type 0
Choice = Result Placement Fault

-- what a mapper of one kind fixes: reserved frames, choice, and the level that a block at a card's page names
pub record Kind : Type 0 where
  pub reserved : Setup → ℕ → Bool
  pub choice : Setup → List Mapping → Request → Choice
  pub level : Setup → List Mapping → ℕ → ℕ → ℕ

-- a mapper at its set-up, handed a memory of `size` bytes
pub record World : Type 0 where
  pub cards : ℕ
  pub last : ℕ → ℕ
  pub frames : ℕ
  pub size : ℕ
  pub reserved : ℕ → Bool
  pub choice : List Mapping → Request → Choice
  pub reach : List Mapping → ℕ → ℕ → Option Reach
  pub level : List Mapping → ℕ → ℕ → ℕ

-- equal set-ups make equal worlds
abbrev pub world : Kind → Setup → ℕ → World
world K S n = record {
  cards = S.cards;
  last = last_of S;
  frames = S.frames;
  size = n;
  reserved = K.reserved S;
  choice = K.choice S;
  reach = reach_of;
  level = K.level S;
}
