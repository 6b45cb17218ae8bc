-- There is room for a request exactly when as many tables are free as it lacks.
use Rattle.std.proofs.Common.{◌≡◌, ℕ, ◌+◌, ◌<◌, ◌≤◌, true, false, leb, List, sym, ap, ◌∙◌, inl, inr, arith}
use Rattle.std.proofs.lemmas.Bool.{cases_lt, le-leb, lt-leb, leb-true}
use Rattle.units.specs.declared.mapping.Mapping.{Mapping}
use Rattle.units.specs.declared.mapping.Request.{Request}
use Rattle.units.specs.Buffers.{span}
use Rattle.meaning.specs.Worlds.{Setup}
use Rattle.tree.specs.declared.place.Table.{Table}
use Rattle.tree.specs.Places.{page_of}
use Rattle.tree.specs.Layout.{Fits}
use Rattle.tree.specs.Counts.{free_count, lacking, tables_of}
use Rattle.table_count.proofs.Counting.{counted}
use Rattle.table_count.proofs.Spans.{lacking_counts}
use Rattle.table_meaning.specs.Opened.{leaf_of, pages_of}
use Rattle.table_meaning.specs.Choosing.{tables_in, pages_with, tables_lacking, room_for}

module _ (S : Setup) (ts : List Table) (o : List Mapping) (ws : List ℕ) (f : Fits S.cards (tables_in S) ts (leaf_of o) (pages_of o) ws) (r : Request) (p : ℕ) where
  counts : lacking ts (page_of r.card.0 p) (span r.buffer.address r.buffer.length) + tables_of (pages_of o) ≡ tables_of (pages_with o r p)
  counts = lacking_counts ts (page_of r.card.0 p) (span r.buffer.address r.buffer.length) (pages_of o) f.served

  -- n tables are lacking, of pages from q on, and k are free
  module _ (n q count k : ℕ) (lack : n ≡ lacking ts q count) (first : q ≡ page_of r.card.0 p) (long : count ≡ span r.buffer.address r.buffer.length) (free : k ≡ free_count ts) where
    same : n ≡ lacking ts (page_of r.card.0 p) (span r.buffer.address r.buffer.length)
    same = lack ∙ ap (λ (z : ℕ). lacking ts z count) first ∙ ap (lacking ts (page_of r.card.0 p)) long

    pub enough_room : n ≤ k → room_for S o r p ≡ true
    enough_room b =
        let e = counts in
        let s = same in
        let c = counted S.cards (tables_in S) ts (leaf_of o) (pages_of o) ws f in
        le-leb (S.cards + tables_of (pages_with o r p)) (tables_in S) (omega arith)

    pub short_room : k < n → (room_for S o r p ≡ false) × (n ≡ tables_lacking o r p)
    short_room b =
        let e = counts in
        let s = same in
        let c = counted S.cards (tables_in S) ts (leaf_of o) (pages_of o) ws f in
        (lt-leb (S.cards + tables_of (pages_with o r p)) (tables_in S) (omega arith), omega arith)

  pub lacking_is : lacking ts (page_of r.card.0 p) (span r.buffer.address r.buffer.length) ≡ tables_lacking o r p
  lacking_is = let e = counts in omega arith

  -- there is room exactly when as many are free as are lacking
  pub room_is : leb (lacking ts (page_of r.card.0 p) (span r.buffer.address r.buffer.length)) (free_count ts) ≡ room_for S o r p
  room_is =
      let e = counts in
      let c = counted S.cards (tables_in S) ts (leaf_of o) (pages_of o) ws f in
      elim (cases_lt (free_count ts) (lacking ts (page_of r.card.0 p) (span r.buffer.address r.buffer.length))) [
        | inl g ↦ lt-leb _ (free_count ts) g ∙ sym (lt-leb (S.cards + tables_of (pages_with o r p)) (tables_in S) (omega arith))
        | inr l ↦ le-leb _ (free_count ts) l ∙ sym (le-leb (S.cards + tables_of (pages_with o r p)) (tables_in S) (omega arith))
      ]

  -- where there is room, as many are free as are lacking
  pub room_enough : room_for S o r p ≡ true → lacking ts (page_of r.card.0 p) (span r.buffer.address r.buffer.length) ≤ free_count ts
  room_enough h =
      let e = counts in
      let c = counted S.cards (tables_in S) ts (leaf_of o) (pages_of o) ws f in
      let l = leb-true (S.cards + tables_of (pages_with o r p)) (tables_in S) h in
      omega arith
