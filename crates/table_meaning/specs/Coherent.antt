-- The translation cache against what is open.
use Rattle.std.specs.Prelude.{◌≡◌, ℕ, true, List, Some, None}
use Rattle.std.specs.List.{All}
use Rattle.units.specs.declared.mapping.Mapping.{Mapping}
use Rattle.cache.specs.declared.cache.Translation.{Translation}
use Rattle.cache.specs.Entries.{cached}
use Rattle.meaning.specs.Mappings.{on_page, reach_of}

-- each entry is what its card reaches at its page
abbrev pub Coherent : List Translation → List Mapping → Type 0
Coherent xs o = All (λ x. reach_of o x.card.0 x.page.0 ≡ Some x.reach) xs

-- no entry names a page of the mapping
abbrev pub Unnamed : List Translation → Mapping → Type 0
Unnamed xs m = (c p : ℕ) → on_page c p m ≡ true → cached xs c p ≡ None
