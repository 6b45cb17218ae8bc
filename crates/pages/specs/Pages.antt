-- Which device pages a mapping takes: the chooser's, among those that the card's open mappings leave free.
use Rattle.std.specs.Prelude.{◌≡◌, ℕ, ◌+◌, ◌*◌, ◌%◌, cond, List, [], ◌∷◌, Some, None, Ok, Err, Option, ◌==◌}
use Rattle.units.specs.declared.fault.FaultKind.TheVariants.{NoPages}
use Rattle.units.specs.declared.mapping.Mapping.{Mapping}
use Rattle.units.specs.declared.mapping.Placement.{Placement}
use Rattle.units.specs.declared.mapping.Request.{Request}
use Rattle.units.specs.declared.number.DevicePage.{DevicePage}
use Rattle.units.specs.Buffers.{span}
use Rattle.chooser.specs.declared.gap.Range.{Range}
use Rattle.chooser.specs.Finding.{choice}
use Rattle.chooser.specs.Gaps.{Chosen, NoRoom}
use Rattle.meaning.specs.Mappings.{first_page, page_count}
use Rattle.meaning.specs.Worlds.{Setup, last_of, Choice}

abbrev pub page_number : DevicePage → ℕ
page_number p = p.0

abbrev pub pages_of : Mapping → Range DevicePage
pages_of m = record { first = record { 0 = first_page m }; count = page_count m }

-- the pages of card c that are taken
unfoldable pub used_pages : List Mapping → ℕ → List (Range DevicePage)
used_pages [] c = []
used_pages (m ∷ o) c = cond (m.card.0 == c) (pages_of m ∷ used_pages o c) (used_pages o c)

-- the first page for a request, among 1 to its card's last
abbrev pub page_for : Setup → List Mapping → Request → Option ℕ
page_for S o r = choice page_number 1 (last_of S r.card.0) (used_pages o r.card.0) (span r.buffer.address r.buffer.length)

-- a buffer that lands at its own address, on pages from p
abbrev pub placed_at : Request → ℕ → Placement
placed_at r p = record { device = record { 0 = p * 4096 + r.buffer.address % 4096 }; landing = r.buffer.address }

-- a choice that accepts only pages of the chooser, each buffer at its own address
abbrev pub TakesPages : (Setup → List Mapping → Request → Choice) → Type 0
TakesPages K = (S : Setup) (o : List Mapping) (r : Request) (q : Placement) → K S o r ≡ Ok q → (p : ℕ) × (page_for S o r ≡ Some p) × (q ≡ placed_at r p)

-- no gap of device pages holds n
abbrev pub no_pages_for : ℕ → Choice
no_pages_for n = Err (record { kind = NoPages; layer = 0; place = n })

abbrev pub on_page_found : Option ℕ → ℕ → (ℕ → Choice) → Choice
on_page_found None n f = no_pages_for n
on_page_found (Some p) n f = f p

-- the highest n free pages of the best gap begin at q
abbrev pub BestPages : Setup → List Mapping → Request → ℕ → Type 0
BestPages S o r q = Chosen page_number 1 (last_of S r.card.0) (used_pages o r.card.0) (span r.buffer.address r.buffer.length) q

-- no gap of the card's device pages holds the span
abbrev pub NoPagesLeft : Setup → List Mapping → Request → Type 0
NoPagesLeft S o r = NoRoom page_number 1 (last_of S r.card.0) (used_pages o r.card.0) (span r.buffer.address r.buffer.length)
