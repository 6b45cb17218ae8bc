-- What the table mapper's choice answers, and when.
use Rattle.std.proofs.Common.{◌≡◌, ℕ, ◌+◌, ◌<◌, Bool, true, false, cond, leb, List, length, Some, None, Ok, Err, Option, sym, refl, ap, subst, inl, inr, arith}
use Rattle.std.proofs.lemmas.Bool.{leb-true, leb-false, cases_Bool}
use Rattle.units.specs.declared.fault.FaultKind.TheVariants.{NoPages, NoRecord, NoTables}
use Rattle.units.specs.declared.mapping.Mapping.{Mapping}
use Rattle.units.specs.declared.mapping.Placement.{Placement}
use Rattle.units.specs.declared.mapping.Request.{Request}
use Rattle.units.specs.Buffers.{span}
use Rattle.units.specs.Faults.{is_choice_kind}
use Rattle.chooser.proofs.Answer.{choice_none, choice_some}
use Rattle.meaning.specs.Mappings.{In, key, insert}
use Rattle.meaning.specs.Worlds.{Setup, last_of, world}
use Rattle.meaning.specs.Laws.{ChoiceRefusals}
use Rattle.meaning.specs.Effects.{new_mapping}
use Rattle.meaning.proofs.Verdicts.{Admitted}
use Rattle.pages.specs.Lawful.{Ranged, lawful}
use Rattle.pages.specs.Pages.{page_number, used_pages, page_for, placed_at, TakesPages, no_pages_for, on_page_found}
use Rattle.pages.proofs.Facts.{lawful_uninsert, key_apart}
use Rattle.pages.proofs.Taking.{grown}
use Rattle.tree.specs.Counts.{tables_of}
use Rattle.table_meaning.specs.Choosing.{tables_in, no_record, no_tables, pages_with, tables_lacking, room_for, table_choice, table_kind, Granted, Chooses}

module _ (S : Setup) (o : List Mapping) (r : Request) where
  pub choice_full : page_for S o r ≡ None → no_pages_for (span r.buffer.address r.buffer.length) ≡ table_choice S o r
  unfolding table_choice
  choice_full e = cc

  pub choice_crowded : (p : ℕ) → page_for S o r ≡ Some p → leb 32 (length o) ≡ true → no_record ≡ table_choice S o r
  unfolding table_choice
  choice_crowded p e f = cc

  pub choice_short : (p : ℕ) → page_for S o r ≡ Some p → leb 32 (length o) ≡ false → room_for S o r p ≡ false → no_tables (tables_lacking o r p) ≡ table_choice S o r
  unfolding table_choice
  choice_short p e f g = cc

  pub choice_found : (p : ℕ) → page_for S o r ≡ Some p → leb 32 (length o) ≡ false → room_for S o r p ≡ true → Ok (placed_at r p) ≡ table_choice S o r
  unfolding table_choice
  choice_found p e f g = cc

  -- an accepted request has pages, a record and tables
  pub record Accepted (q : Placement) : Type 0 where
    pub page : ℕ
    pub found : page_for S o r ≡ Some page
    pub place : q ≡ placed_at r page
    pub record_free : length o < 32
    pub room : room_for S o r page ≡ true

  pub accepted_choice : (q : Placement) → table_choice S o r ≡ Ok q → Accepted q
  accepted_choice q e = go (page_for S o r) refl
    where
      go : (f : Option ℕ) → page_for S o r ≡ f → Accepted q
      go None h = let k = choice_full h in absurd (cc)
      go (Some p) h = elim (cases_Bool (leb 32 (length o))) [
        | inl f ↦ (let k = choice_crowded p h f in absurd (cc))
        | inr f ↦ elim (cases_Bool (room_for S o r p)) [
          | inl g ↦ (let k = choice_found p h f g in record { page = p; found = h; place = cc; record_free = leb-false 32 (length o) f; room = g })
          | inr g ↦ (let k = choice_short p h f g in absurd (cc))
        ]
      ]

  -- the choice in words
  pub choice_words : 0 < r.buffer.length → Chooses S o r (table_choice S o r)
  choice_words some = go (page_for S o r) refl
    where
      pos : 0 < span r.buffer.address r.buffer.length
      pos = omega arith

      granted : (q : ℕ) → page_for S o r ≡ Some q → Granted S o r q (table_choice S o r)
      granted q e = elim (cases_Bool (leb 32 (length o))) [
        | inl f ↦ inl (leb-true 32 (length o) f, sym (choice_crowded q e f))
        | inr f ↦ elim (cases_Bool (room_for S o r q)) [
          | inl g ↦ inr (inr (leb-false 32 (length o) f, leb-true (S.cards + tables_of (pages_with o r q)) (tables_in S) g, sym (choice_found q e f g)))
          | inr g ↦ inr (inl (leb-false 32 (length o) f, leb-false (S.cards + tables_of (pages_with o r q)) (tables_in S) g, sym (choice_short q e f g)))
        ]
      ]

      go : (f : Option ℕ) → page_for S o r ≡ f → Chooses S o r (table_choice S o r)
      go None e = inl (choice_none page_number 1 (last_of S r.card.0) (used_pages o r.card.0) (span r.buffer.address r.buffer.length) pos e, sym (choice_full e))
      go (Some q) e = inr (q, choice_some page_number 1 (last_of S r.card.0) (used_pages o r.card.0) (span r.buffer.address r.buffer.length) q pos e, granted q e)

pub takes_pages : TakesPages table_choice
takes_pages S o r q e = let a = accepted_choice S o r q e in (a.page, a.found, a.place)

-- at its own address
pub choice_own : (S : Setup) (o : List Mapping) (r : Request) (q : Placement) → table_choice S o r ≡ Ok q → q.landing ≡ r.buffer.address
choice_own S o r q e = ap (λ (z : Placement). z.landing) (accepted_choice S o r q e).place

-- and leaves a lawful list, in which its key is new
pub choice_lawful : (S : Setup) (n : ℕ) (o : List Mapping) (r : Request) (q : Placement) → Admitted (world table_kind S n) r → table_choice S o r ≡ Ok q → lawful S o ≡ true
    → lawful S (insert (new_mapping r q) o) ≡ true
choice_lawful S n o r q a e l =
    let t = accepted_choice S o r q e in
    subst (λ (z : Placement). lawful S (insert (new_mapping r z) o) ≡ true) (sym t.place) (grown table_kind S n o r t.page a t.found l)

pub choice_new : (S : Setup) (o : List Mapping) (m : Mapping) → Ranged S → lawful S (insert m o) ≡ true → (k : Mapping) → In k o → key k ≡ key m → ⊥
choice_new S o m ranged l k i e = let u = lawful_uninsert S m o l in
    key_apart S m k (λ c h. (ranged.2 c h).1) u.first (u.rest k i) (u.apart k i) e

pub table_refusals : (S : Setup) (o : List Mapping) → ChoiceRefusals table_kind S o
unfolding table_choice
table_refusals S o r f e = go (page_for S o r) (leb 32 (length o)) e
  where
    tables : (p : ℕ) (b : Bool) → cond b (Ok (placed_at r p)) (no_tables (tables_lacking o r p)) ≡ Err f → is_choice_kind f.kind ≡ true
    tables p true k = absurd (cc)
    tables p false k = let z : f.kind ≡ NoTables = cc in ap is_choice_kind z

    go : (p : Option ℕ) (b : Bool) → on_page_found p (span r.buffer.address r.buffer.length) (λ k. cond b no_record (cond (room_for S o r k) (Ok (placed_at r k)) (no_tables (tables_lacking o r k)))) ≡ Err f → is_choice_kind f.kind ≡ true
    go None b k = let z : f.kind ≡ NoPages = cc in ap is_choice_kind z
    go (Some p) true k = let z : f.kind ≡ NoRecord = cc in ap is_choice_kind z
    go (Some p) false k = tables p (room_for S o r p) k
