-- The open mappings page by page: what word each page has, and which pages are open.
use Rattle.std.specs.Prelude.{ℕ, ◌/◌, ◌%◌, ◌^◌, List, [], ◌∷◌, ◌++◌, Some, None, Option}
use Rattle.units.specs.declared.mapping.Mapping.{Mapping}
use Rattle.units.specs.declared.mapping.Reach.{Reach}
use Rattle.meaning.specs.Mappings.{key, page_count, reach_of}
use Rattle.entry.specs.Words.{word_of}
use Rattle.tree.specs.Counts.{pages_from}

-- the word of level 1 for what a card reaches at a page
abbrev pub word_for : Option Reach → ℕ
word_for None = 0
word_for (Some r) = word_of r.rights r.frame.0

-- the word of page q, as numbered over all cards
unfoldable pub leaf_of : List Mapping → ℕ → ℕ
leaf_of o q = word_for (reach_of o (q / 2 ^ 36) (q % 2 ^ 36))

-- the open pages, over all cards: a mapping's key is the number of its first page
unfoldable pub pages_of : List Mapping → List ℕ
pages_of [] = []
pages_of (m ∷ o) = pages_from (key m) (page_count m) ++ pages_of o
