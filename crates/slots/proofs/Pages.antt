-- The chooser over the slots' pages.
use Rattle.std.proofs.Common.{◌≡◌, ℕ, ◌<◌, List, sym, ap, ◌∙◌, arith}
use Rattle.units.specs.declared.mapping.Request.{Request}
use Rattle.units.specs.declared.number.DevicePage.{DevicePage}
use Rattle.units.specs.Buffers.{span}
use Rattle.chooser.specs.declared.gap.Range.{Range}
use Rattle.chooser.specs.Finding.{choice}
use Rattle.chooser.proofs.Same.{any_order}
use Rattle.meaning.specs.Worlds.{Setup, last_of}
use Rattle.pages.specs.Pages.{page_number, used_pages, page_for}
use Rattle.slots.specs.declared.slot.Slot.{Slot}
use Rattle.slots.specs.Slots.{opened_of, all_pages}
use Rattle.slots.proofs.Slots.{pages_same, pages_back}

-- it chooses as over the open mappings
pub page_is : (S : Setup) (ss : List Slot) (r : Request) (used : List (Range DevicePage)) (n : ℕ) → 0 < r.buffer.length → used ≡ all_pages r.card.0 ss → n ≡ span r.buffer.address r.buffer.length
    → page_for S (opened_of ss) r ≡ choice page_number 1 (last_of S r.card.0) used n
page_is S ss r used n some e f =
    let pos : 0 < span r.buffer.address r.buffer.length = omega arith in
    sym (any_order page_number 1 (last_of S r.card.0) (span r.buffer.address r.buffer.length) (all_pages r.card.0 ss) (used_pages (opened_of ss) r.card.0) pos
    (λ x. pages_same r.card.0 x ss) (λ x. pages_back r.card.0 x ss))
    ∙ ap (λ (u : List (Range DevicePage)). choice page_number 1 (last_of S r.card.0) u (span r.buffer.address r.buffer.length)) (sym e)
    ∙ ap (λ (k : ℕ). choice page_number 1 (last_of S r.card.0) used k) (sym f)
