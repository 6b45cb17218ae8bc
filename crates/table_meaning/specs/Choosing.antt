-- Set-up, choice and level of the table mapper.
use Rattle.std.specs.Prelude.{◌≡◌, ℕ, ◌+◌, ◌-◌, ◌*◌, ◌^◌, ◌<◌, ◌≤◌, Bool, cond, ◌&&◌, ◌⊎◌, List, [], ◌∷◌, ◌++◌, length, Some, None, Ok, Err, Option, ◌==◌, nat_le, nat_lt, slice_index_or}
use Rattle.units.specs.declared.fault.FaultKind.{FaultKind}
use Rattle.units.specs.declared.fault.FaultKind.TheVariants.{NoRecord, NoTables, WrongSetup}
use Rattle.units.specs.declared.mapping.Mapping.{Mapping}
use Rattle.units.specs.declared.mapping.Request.{Request}
use Rattle.units.specs.declared.number.Geometry.{Geometry}
use Rattle.units.specs.Buffers.{span}
use Rattle.units.specs.Geometry.{in_range}
use Rattle.meaning.specs.Worlds.{Setup, Kind, Choice}
use Rattle.pages.specs.Lawful.{Possible, none_reserved}
use Rattle.pages.specs.Pages.{page_for, placed_at, no_pages_for, on_page_found, BestPages, NoPagesLeft}
use Rattle.tree.specs.Places.{page_of}
use Rattle.tree.specs.Layout.{level_in}
use Rattle.tree.specs.Counts.{pages_from, tables_of}
use Rattle.table_meaning.specs.Opened.{pages_of}

-- a set-up with T tables
abbrev pub setup_of : Geometry → ℕ → Setup
setup_of g T = record { cards = g.cards; lasts = g.lasts; frames = g.frames; fixed = T ∷ [] }

abbrev pub tables_in : Setup → ℕ
tables_in S = slice_index_or S.fixed 0 0

-- numbers in range, 3 tables more than there are cards up to 64, and words for exactly so many
abbrev pub accepts : Geometry → ℕ → ℕ → Bool
accepts g T words = in_range g && (nat_le (g.cards + 3) T && (nat_le T 64 && words == T * 512))

-- the numbers that are kept: those given or, where they are refused, none
abbrev pub granted : Geometry → ℕ → ℕ → Geometry
granted g T words = cond (accepts g T words) g (record { cards = 0; lasts = g.lasts; frames = 0 })

abbrev pub granted_tables : Geometry → ℕ → ℕ → ℕ
granted_tables g T words = cond (accepts g T words) T 0

-- why a set-up with these numbers is refused, if it is
abbrev pub setup_refusal : Geometry → ℕ → ℕ → Option FaultKind
setup_refusal g T words = cond (accepts g T words) None (Some WrongSetup)

-- the refusal that tables with these numbers tell, if any
abbrev pub told_by : Geometry → Option FaultKind
told_by g = cond (nat_lt 0 g.cards) None (Some WrongSetup)

-- all 32 records are in use
abbrev pub no_record : Choice
no_record = Err (record { kind = NoRecord; layer = 0; place = 32 })

-- fewer tables are free than the n that the mapping lacks
abbrev pub no_tables : ℕ → Choice
no_tables n = Err (record { kind = NoTables; layer = 0; place = n })

-- the open pages, with those that a request gets from page p on
abbrev pub pages_with : List Mapping → Request → ℕ → List ℕ
pages_with o r p = pages_from (page_of r.card.0 p) (span r.buffer.address r.buffer.length) ++ pages_of o

-- how many tables below the roots the open mappings take
abbrev pub tables_taken : List Mapping → ℕ
tables_taken o = tables_of (pages_of o)

-- how many tables a request lacks on pages from p on
abbrev pub tables_lacking : List Mapping → Request → ℕ → ℕ
tables_lacking o r p = tables_of (pages_with o r p) - tables_taken o

-- there are as many tables as the roots, the open mappings and the request take
abbrev pub room_for : Setup → List Mapping → Request → ℕ → Bool
room_for S o r p = nat_le (S.cards + tables_of (pages_with o r p)) (tables_in S)

-- pages by the chooser, then a record, then tables
unfoldable pub table_choice : Setup → List Mapping → Request → Choice
table_choice S o r = on_page_found (page_for S o r) (span r.buffer.address r.buffer.length) (λ p.
    cond (nat_le 32 (length o)) no_record (cond (room_for S o r p) (Ok (placed_at r p)) (no_tables (tables_lacking o r p))))

-- of pages from q on: 11 exactly when all 32 records are in use, else 12 exactly when fewer tables are free than are lacking, else these pages
abbrev pub Granted : Setup → List Mapping → Request → ℕ → Choice → Type 0
Granted S o r q k = ((32 ≤ length o) × (k ≡ no_record))
    ⊎ ((length o < 32) × (tables_in S < S.cards + tables_of (pages_with o r q)) × (k ≡ no_tables (tables_lacking o r q)))
    ⊎ ((length o < 32) × (S.cards + tables_of (pages_with o r q) ≤ tables_in S) × (k ≡ Ok (placed_at r q)))

-- 10 exactly when no gap holds the span, else as the best gap's pages allow
abbrev pub Chooses : Setup → List Mapping → Request → Choice → Type 0
Chooses S o r k = (NoPagesLeft S o r × (k ≡ no_pages_for (span r.buffer.address r.buffer.length)))
    ⊎ ((q : ℕ) × BestPages S o r q × Granted S o r q k)

-- the level that a block of card c at page p names: of the first absent word on the way there, and 1 where the right is lacking
abbrev pub table_level : Setup → List Mapping → ℕ → ℕ → ℕ
table_level S o c p = cond (nat_lt c S.cards && nat_lt p (2 ^ 36)) (level_in (pages_of o) (page_of c p)) 4

-- no frame is reserved
abbrev pub table_kind : Kind
table_kind = record { reserved = none_reserved; choice = table_choice; level = table_level }

-- what set-up and calls can lead to: with cards there are 3 tables more than these at least
abbrev pub TablesPossible : Setup → List Mapping → Type 0
TablesPossible S o = Possible S o × (0 < S.cards → S.cards + 3 ≤ tables_in S)
