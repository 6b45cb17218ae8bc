-- Set-up and choice of the window mapper.
use Rattle.std.specs.Prelude.{◌≡◌, ℕ, ◌<◌, ◌≤◌, cond, ◌⊎◌, List, [], length, Some, None, Ok, Err, Option, nat_le, nat_lt}
use Rattle.units.specs.declared.fault.FaultKind.{FaultKind}
use Rattle.units.specs.declared.fault.FaultKind.TheVariants.{NoRecord, WrongSetup}
use Rattle.units.specs.declared.mapping.Mapping.{Mapping}
use Rattle.units.specs.declared.mapping.Request.{Request}
use Rattle.units.specs.declared.number.Geometry.{Geometry}
use Rattle.units.specs.Buffers.{span}
use Rattle.units.specs.Geometry.{in_range}
use Rattle.meaning.specs.Worlds.{Setup, Kind, Choice}
use Rattle.pages.specs.Lawful.{none_reserved}
use Rattle.pages.specs.Pages.{page_for, placed_at, no_pages_for, on_page_found, BestPages, NoPagesLeft}

abbrev pub setup_of : Geometry → Setup
setup_of g = record { cards = g.cards; lasts = g.lasts; frames = g.frames; fixed = [] }

-- the numbers that are kept: those given or, out of range, no cards and no frames
abbrev pub granted : Geometry → Geometry
granted g = cond (in_range g) g (record { cards = 0; lasts = g.lasts; frames = 0 })

-- why a set-up with these numbers is refused, if it is
abbrev pub setup_refusal : Geometry → Option FaultKind
setup_refusal g = cond (in_range g) None (Some WrongSetup)

-- the refusal that windows with these numbers tell, if any
abbrev pub told_by : Geometry → Option FaultKind
told_by g = cond (nat_lt 0 g.cards) None (Some WrongSetup)

-- all 8 windows are in use
abbrev pub no_window : Choice
no_window = Err (record { kind = NoRecord; layer = 0; place = 8 })

-- pages by the chooser, and then a window
unfoldable pub window_choice : Setup → List Mapping → Request → Choice
window_choice S o r = on_page_found (page_for S o r) (span r.buffer.address r.buffer.length) (λ p. cond (nat_le 8 (length o)) no_window (Ok (placed_at r p)))

-- 10 exactly when no gap holds the span, else 11 exactly when all 8 windows are in use, else the best gap's pages
abbrev pub Chooses : Setup → List Mapping → Request → Choice → Type 0
Chooses S o r k = (NoPagesLeft S o r × (k ≡ no_pages_for (span r.buffer.address r.buffer.length)))
    ⊎ ((q : ℕ) × BestPages S o r q × (((8 ≤ length o) × (k ≡ no_window)) ⊎ ((length o < 8) × (k ≡ Ok (placed_at r q)))))

-- no frame is reserved, and blocks have level 0
abbrev pub window_kind : Kind
window_kind = record { reserved = none_reserved; choice = window_choice; level = λ S o c p. 0 }
