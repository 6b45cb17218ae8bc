-- What an accepted call leaves of tables, words, cache and queue. Which free table is taken is the one thing left open: the words are
-- those that the tables hold by where they stand and what is open, whichever it is.
use Rattle.std.specs.Prelude.{◌≡◌, ℕ, cond, List, [], is_some, Some, None, Option}
use Rattle.units.specs.declared.mapping.Mapping.{Mapping}
use Rattle.units.specs.declared.mapping.Reach.{Reach}
use Rattle.units.specs.declared.mapping.Sync.{Sync}
use Rattle.units.specs.Holders.{holder_after}
use Rattle.meaning.specs.Mappings.{first_page, page_count, find, reach_of}
use Rattle.mapper.specs.Tasks.{Task, opens, closes, turns, translates}
use Rattle.slots.specs.declared.slot.Slot.{Slot}
use Rattle.slots.specs.Slots.{opened_of, FirstTaken, freed, passed}
use Rattle.cache.specs.declared.cache.Translation.{Translation}
use Rattle.cache.specs.declared.queue.Descriptor.{Descriptor}
use Rattle.cache.specs.Entries.{added, cached, without_span}
use Rattle.tree.specs.declared.place.Table.{Table}
use Rattle.tree.specs.Places.{Stay}
use Rattle.tree.specs.Layout.{Fits}
use Rattle.table_meaning.specs.Opened.{leaf_of, pages_of}

-- what the mapper keeps: where its tables stand, their words, its records, and what cache and queue hold
pub record Kept : Type 0 where
  pub tables : List Table
  pub words : List ℕ
  pub records : List Slot
  pub cache : List Translation
  pub queue : List Descriptor

abbrev pub open_in : Kept → List Mapping
open_in x = opened_of x.records

-- the words are those that T tables for C cards hold for what is open, with a table below the roots for each prefix of an open page and no other
abbrev pub LaidOut : (C T : ℕ) → Kept → Type 0
LaidOut C T x = Fits C T x.tables (leaf_of (open_in x)) (pages_of (open_in x)) x.words

-- map: tables in use stay where they stand, and free ones are taken; the first free record takes the mapping; nothing is cached or posted
pub record Grown (C T : ℕ) (x y : Kept) : Type 0 where
  pub stay : Stay x.tables y.tables
  pub laid : LaidOut C T y
  pub records : FirstTaken x.records y.records
  pub cache : y.cache ≡ x.cache
  pub queue : y.queue ≡ x.queue

-- unmap of m: no table is taken, and those in use stood there before; the entries of m's pages are removed, and the queue is empty
pub record Shrunk (C T : ℕ) (x y : Kept) (m : Mapping) : Type 0 where
  pub stay : Stay y.tables x.tables
  pub laid : LaidOut C T y
  pub records : y.records ≡ freed m.card.0 m.device.0 x.records
  pub cache : y.cache ≡ without_span m.card.0 (first_page m) (page_count m) x.cache
  pub queue : y.queue ≡ []

-- a sync: one record at most passes to the other holder
pub record Turned (s : Sync) (c v : ℕ) (x y : Kept) : Type 0 where
  pub tables : y.tables ≡ x.tables
  pub words : y.words ≡ x.words
  pub records : y.records ≡ passed (holder_after s) c v x.records
  pub cache : y.cache ≡ x.cache
  pub queue : y.queue ≡ x.queue

-- an entry that is there is used; else an allowed walk adds its own
abbrev pub noted : List Translation → ℕ → ℕ → Option Reach → List Translation
noted xs c p None = xs
noted xs c p (Some s) = cond (is_some (cached xs c p)) xs (added xs (record { card = record { 0 = c }; page = record { 0 = p }; reach = s }))

-- an access of card c to page p that is let pass
pub record Accessed (x y : Kept) (c p : ℕ) : Type 0 where
  pub tables : y.tables ≡ x.tables
  pub words : y.words ≡ x.words
  pub records : y.records ≡ x.records
  pub cache : y.cache ≡ noted x.cache c p (reach_of (open_in x) c p)
  pub queue : y.queue ≡ x.queue

abbrev pub TablesLeft : (C T : ℕ) → Kept → Task → Kept → Type 0
TablesLeft C T x (opens r) y = Grown C T x y
TablesLeft C T x (closes c v) y = (m : Mapping) → find (open_in x) c v ≡ Some m → Shrunk C T x y m
TablesLeft C T x (turns s c v) y = Turned s c v x y
TablesLeft C T x (translates c p a) y = Accessed x y c p
