-- What slots hold, as open mappings, as reach and as pages in use.
use Rattle.std.specs.Prelude.{◌≡◌, ℕ, Bool, true, false, cond, List, [], ◌∷◌, length, Some, None, Option, ◌==◌, nat_lt}
use Rattle.std.specs.List.{position_or_len}
use Rattle.units.specs.declared.mapping.Holder.{Holder}
use Rattle.units.specs.declared.mapping.Mapping.{Mapping}
use Rattle.units.specs.declared.mapping.Reach.{Reach}
use Rattle.units.specs.declared.number.DevicePage.{DevicePage}
use Rattle.chooser.specs.declared.gap.Range.{Range}
use Rattle.meaning.specs.Mappings.{insert, on_page, reach_through, starts, turned}
use Rattle.meaning.specs.Effects.{on_found}
use Rattle.pages.specs.Pages.{pages_of}
use Rattle.slots.specs.declared.slot.Slot.{Slot}

abbrev pub free_slot : Slot
free_slot = record { mapping = None }

abbrev pub holding : Mapping → Slot
holding m = record { mapping = Some m }

-- the slot is free
abbrev pub is_free : Slot → Bool
is_free s = on_found s.mapping true (λ m. false)

-- the slot's mapping is such
abbrev pub has : (Mapping → Bool) → Slot → Bool
has such s = on_found s.mapping false such

-- the place of the first slot that is such, if there is one
abbrev pub place_in : (Slot → Bool) → List Slot → Option ℕ
place_in such ss = cond (nat_lt (position_or_len such ss) (length ss)) (Some (position_or_len such ss)) None

-- each slot holds one open mapping
unfoldable pub opened_of : List Slot → List Mapping
opened_of [] = []
opened_of (s ∷ ss) = on_found s.mapping (opened_of ss) (λ m. insert m (opened_of ss))

-- what card c reaches through the slot at page p
abbrev pub reach_by : ℕ → ℕ → Slot → Option Reach
reach_by c p s = on_found s.mapping None (λ m. cond (on_page c p m) (reach_through m p) None)

-- an access is judged by the slot with its card and page
unfoldable pub reach_in : List Slot → ℕ → ℕ → Option Reach
reach_in [] c p = None
reach_in (s ∷ ss) c p = cond (has (on_page c p) s) (reach_by c p s) (reach_in ss c p)

abbrev pub no_pages : Range DevicePage
no_pages = record { first = record { 0 = 0 }; count = 0 }

-- the pages of card c that the slot takes
abbrev pub pages_in : ℕ → Slot → Range DevicePage
pages_in c s = on_found s.mapping no_pages (λ m. cond (m.card.0 == c) (pages_of m) no_pages)

unfoldable pub all_pages : ℕ → List Slot → List (Range DevicePage)
all_pages c [] = []
all_pages c (s ∷ ss) = pages_in c s ∷ all_pages c ss

-- the first slot that is such becomes what f makes of it; where none is, all stay
unfoldable pub first_becomes : (Slot → Bool) → (Slot → Slot) → List Slot → List Slot
first_becomes such f [] = []
first_becomes such f (s ∷ ss) = cond (such s) (f s ∷ ss) (s ∷ first_becomes such f ss)

-- the first free slot takes the mapping
abbrev pub taken : Mapping → List Slot → List Slot
taken m = first_becomes is_free (λ s. holding m)

-- the slot whose mapping starts at card c's device address v becomes free
abbrev pub freed : (c v : ℕ) → List Slot → List Slot
freed c v = first_becomes (has (starts c v)) (λ s. free_slot)

-- that slot's mapping passes to the holder h
abbrev pub passed : Holder → (c v : ℕ) → List Slot → List Slot
passed h c v = first_becomes (has (starts c v)) (λ s. on_found s.mapping s (λ m. holding (turned h m)))

-- the first free slot took a mapping
pub record FirstTaken (ss ss' : List Slot) : Type 0 where
  pub mapping : Mapping
  pub became : ss' ≡ taken mapping ss
