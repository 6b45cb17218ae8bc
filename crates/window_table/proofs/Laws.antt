-- The window mapper keeps the laws.
use Rattle.std.proofs.Common.{◌≡◌, ℕ, ◌<◌, Bool, true, false, cond, ltb, leb, List, [], length, Some, None, Ok, Err, Option, sym, refl, ap, subst, inl, inr, arith}
use Rattle.std.proofs.lemmas.Bool.{leb-true, leb-false, lt-ltb, cases_Bool, cond-true}
use Rattle.units.specs.declared.mapping.Mapping.{Mapping}
use Rattle.units.specs.declared.mapping.Placement.{Placement}
use Rattle.units.specs.declared.mapping.Request.{Request}
use Rattle.units.specs.declared.number.Geometry.{Geometry}
use Rattle.units.specs.Buffers.{span}
use Rattle.units.specs.declared.fault.FaultKind.TheVariants.{NoPages, NoRecord, WrongSetup}
use Rattle.units.specs.Faults.{is_choice_kind}
use Rattle.units.specs.Geometry.{in_range}
use Rattle.chooser.proofs.Answer.{choice_none, choice_some}
use Rattle.meaning.specs.Mappings.{In, key, insert, reach_of}
use Rattle.meaning.specs.Worlds.{Setup, last_of, world}
use Rattle.meaning.specs.Laws.{DisjointPages, Landings, EmptyRoom, ChoiceRefusals, Bounds, Accepts}
use Rattle.meaning.specs.Calls.{Call}
use Rattle.meaning.specs.Effects.{new_mapping, opens_after}
use Rattle.meaning.proofs.Unique.{one_on_page}
use Rattle.meaning.proofs.Verdicts.{Admitted}
use Rattle.pages.specs.Lawful.{Ranged, lawful, Possible, none_reserved}
use Rattle.pages.specs.Pages.{page_number, used_pages, page_for, placed_at, TakesPages, no_pages_for, on_page_found}
use Rattle.pages.proofs.Laws.{disjoint, landed, bounds, kept}
use Rattle.pages.proofs.Ranges.{range_facts}
use Rattle.pages.proofs.Facts.{lawful_uninsert, key_apart}
use Rattle.pages.proofs.Taking.{first_page_lem, grown}
use Rattle.slots.specs.declared.slot.Slot.{Slot}
use Rattle.window_table.specs.Choosing.{setup_of, granted, setup_refusal, told_by, no_window, window_choice, window_kind, Chooses}
use Rattle.slots.specs.Slots.{opened_of, reach_in}
use Rattle.slots.proofs.Slots.{reach_slots}

-- The choice ----------------------------------------------------------------------------------------------

pub choice_full : (S : Setup) (o : List Mapping) (r : Request) → page_for S o r ≡ None
    → no_pages_for (span r.buffer.address r.buffer.length) ≡ window_choice S o r
unfolding window_choice
choice_full S o r e = cc

pub choice_crowded : (S : Setup) (o : List Mapping) (r : Request) (p : ℕ) → page_for S o r ≡ Some p → leb 8 (length o) ≡ true → no_window ≡ window_choice S o r
unfolding window_choice
choice_crowded S o r p e f = cc

pub choice_found : (S : Setup) (o : List Mapping) (r : Request) (p : ℕ) → page_for S o r ≡ Some p → leb 8 (length o) ≡ false → Ok (placed_at r p) ≡ window_choice S o r
unfolding window_choice
choice_found S o r p e f = cc

takes_pages : TakesPages window_choice
takes_pages S o r q e = go (page_for S o r) refl
  where
    go : (f : Option ℕ) → page_for S o r ≡ f → (p : ℕ) × (page_for S o r ≡ Some p) × (q ≡ placed_at r p)
    go None h = let k = choice_full S o r h in absurd (cc)
    go (Some p) h = elim (cases_Bool (leb 8 (length o))) [
      | inl f ↦ (let k = choice_crowded S o r p h f in absurd (cc))
      | inr f ↦ (let k = choice_found S o r p h f in (p, h, cc))
    ]

-- the choice in words
pub choice_words : (S : Setup) (o : List Mapping) (r : Request) → 0 < r.buffer.length → Chooses S o r (window_choice S o r)
choice_words S o r some = go (page_for S o r) refl
  where
    pos : 0 < span r.buffer.address r.buffer.length
    pos = omega arith

    go : (f : Option ℕ) → page_for S o r ≡ f → Chooses S o r (window_choice S o r)
    go None e = inl (choice_none page_number 1 (last_of S r.card.0) (used_pages o r.card.0) (span r.buffer.address r.buffer.length) pos e, sym (choice_full S o r e))
    go (Some q) e = inr (
      q,
      choice_some page_number 1 (last_of S r.card.0) (used_pages o r.card.0) (span r.buffer.address r.buffer.length) q pos e,
      (elim (cases_Bool (leb 8 (length o))) [
        | inl t ↦ inl (leb-true 8 (length o) t, sym (choice_crowded S o r q e t))
        | inr f ↦ inr (leb-false 8 (length o) f, sym (choice_found S o r q e f))
      ]),
    )

-- an accepted request finds a window
pub choice_room : (S : Setup) (o : List Mapping) (r : Request) (q : Placement) → window_choice S o r ≡ Ok q → length o < 8
choice_room S o r q e = elim (cases_Bool (leb 8 (length o))) [
  | inl f ↦ (let t = takes_pages S o r q e in let k = choice_crowded S o r t.0 t.1 f in absurd (cc))
  | inr f ↦ leb-false 8 (length o) f
]

-- at its own address
pub choice_own : (S : Setup) (o : List Mapping) (r : Request) (q : Placement) → window_choice S o r ≡ Ok q → q.landing ≡ r.buffer.address
choice_own S o r q e = ap (λ (z : Placement). z.landing) (takes_pages S o r q e).2

-- and leaves a lawful list, in which its key is new
pub choice_lawful : (S : Setup) (n : ℕ) (o : List Mapping) (r : Request) (q : Placement) → Admitted (world window_kind S n) r → window_choice S o r ≡ Ok q → lawful S o ≡ true
    → lawful S (insert (new_mapping r q) o) ≡ true
choice_lawful S n o r q a e l =
    let t = takes_pages S o r q e in
    subst (λ (z : Placement). lawful S (insert (new_mapping r z) o) ≡ true) (sym t.2) (grown window_kind S n o r t.0 a t.1 l)

pub choice_new : (S : Setup) (o : List Mapping) (m : Mapping) → Ranged S → lawful S (insert m o) ≡ true → (k : Mapping) → In k o → key k ≡ key m → ⊥
choice_new S o m ranged l k i e = let u = lawful_uninsert S m o l in
    key_apart S m k (λ c h. (ranged.2 c h).1) u.first (u.rest k i) (u.apart k i) e

-- The laws ------------------------------------------------------------------------------------------------

pub window_kept : (S : Setup) (o : List Mapping) (n : ℕ) (c : Call) → Possible S o → Possible S (opens_after (world window_kind S n) o c)
window_kept = kept window_kind takes_pages

pub window_disjoint : (S : Setup) (o : List Mapping) → Possible S o → DisjointPages S o
window_disjoint S o h = disjoint S o h.1

pub window_reach : (S : Setup) (ws : List Slot) → lawful S (opened_of ws) ≡ true → (c p : ℕ) → reach_in ws c p ≡ reach_of (opened_of ws) c p
window_reach S ws e c p = reach_slots c p ws (one_on_page S (opened_of ws) (disjoint S (opened_of ws) e) c p)

pub window_landing : (S : Setup) (o : List Mapping) → Possible S o → Landings (none_reserved S) o
window_landing = landed

pub window_bounds : (S : Setup) (o : List Mapping) → Possible S o → Bounds S (none_reserved S) o
window_bounds = bounds

pub window_room : (S : Setup) (o : List Mapping) → Possible S o → EmptyRoom window_kind S
window_room S o h r f = let e = choice_found S [] r (last_of S r.card.0) (first_page_lem S (none_reserved S) r h.0 f) refl in
    subst Accepts e tt

pub window_refusals : (S : Setup) (o : List Mapping) → Possible S o → ChoiceRefusals window_kind S o
unfolding window_choice
window_refusals S o h r f e = go (page_for S o r) (leb 8 (length o)) e
  where
    go : (p : Option ℕ) (b : Bool) → on_page_found p (span r.buffer.address r.buffer.length) (λ k. cond b no_window (Ok (placed_at r k))) ≡ Err f → is_choice_kind f.kind ≡ true
    go None b k = let z : f.kind ≡ NoPages = cc in ap is_choice_kind z
    go (Some p) true k = let z : f.kind ≡ NoRecord = cc in ap is_choice_kind z
    go (Some p) false k = absurd (cc)

-- Set-up --------------------------------------------------------------------------------------------------

pub granted_ranged : (g : Geometry) → Ranged (setup_of (granted g))
granted_ranged g = go (in_range g) refl
  where
    go : (b : Bool) → in_range g ≡ b → Ranged (setup_of (cond b g (record { cards = 0; lasts = g.lasts; frames = 0 })))
    go true e = (range_facts g [] e).0
    go false e = (omega arith, omega arith, λ c h. absurd (omega arith))

pub granted_told : (g : Geometry) → told_by (granted g) ≡ setup_refusal g
granted_told g = go (in_range g) refl
  where
    go : (b : Bool) → in_range g ≡ b → told_by (cond b g (record { cards = 0; lasts = g.lasts; frames = 0 })) ≡ cond b None (Some WrongSetup)
    go true e = cond-true (ltb 0 g.cards) None (Some WrongSetup) (lt-ltb 0 g.cards (range_facts g [] e).1)
    go false e = refl

pub fresh : (S : Setup) → lawful S [] ≡ true
unfolding lawful
fresh S = refl
