-- The table mapper keeps the laws.
use Rattle.std.proofs.Common.{◌≡◌, ℕ, ◌+◌, ◌*◌, ◌^◌, true, List, [], ◌++◌, refl, ap, ◌∙◌, subst, arith}
use Rattle.std.proofs.lemmas.Bool.{le-leb}
use Rattle.units.specs.declared.mapping.Mapping.{Mapping}
use Rattle.units.specs.Buffers.{span}
use Rattle.meaning.specs.Worlds.{Setup, last_of, world}
use Rattle.meaning.specs.Laws.{DisjointPages, Landings, EmptyRoom, ChoiceRefusals, Bounds, Accepts}
use Rattle.meaning.specs.Calls.{Call}
use Rattle.meaning.specs.Effects.{opens_after}
use Rattle.pages.specs.Lawful.{none_reserved}
use Rattle.pages.proofs.Laws.{disjoint, landed, bounds, kept}
use Rattle.pages.proofs.Taking.{first_page_lem}
use Rattle.tree.specs.Counts.{pages_from, tables_of}
use Rattle.table_meaning.specs.Opened.{pages_of}
use Rattle.table_meaning.specs.Choosing.{tables_in, pages_with, room_for, table_kind, TablesPossible}
use Rattle.table_meaning.proofs.Choice.{choice_found, takes_pages, table_refusals}

pub tables_kept : (S : Setup) (o : List Mapping) (n : ℕ) (c : Call) → TablesPossible S o → TablesPossible S (opens_after (world table_kind S n) o c)
tables_kept S o n c h = (kept table_kind takes_pages S o n c h.0, h.1)

pub tables_disjoint : (S : Setup) (o : List Mapping) → TablesPossible S o → DisjointPages S o
tables_disjoint S o h = disjoint S o h.0.1

pub tables_landing : (S : Setup) (o : List Mapping) → TablesPossible S o → Landings (none_reserved S) o
tables_landing S o h = landed S o h.0

pub tables_bounds : (S : Setup) (o : List Mapping) → TablesPossible S o → Bounds S (none_reserved S) o
tables_bounds S o h = bounds S o h.0

pub tables_refusals : (S : Setup) (o : List Mapping) → TablesPossible S o → ChoiceRefusals table_kind S o
tables_refusals S o h = table_refusals S o

-- one page takes 3 tables
one_page : (q : ℕ) → tables_of (pages_from q 1 ++ []) ≡ 3
one_page q = refl

pub tables_room : (S : Setup) (o : List Mapping) → TablesPossible S o → EmptyRoom table_kind S
unfolding pages_of
tables_room S o h r f =
    let p = last_of S r.card.0 in
    let starts = f.starts in
    let one = f.one in
    let card = f.card in
    let s : span r.buffer.address r.buffer.length ≡ 1 = omega arith in
    let three : tables_of (pages_with [] r p) ≡ 3 = ap (λ (n : ℕ). tables_of (pages_from (r.card.0 * 2 ^ 36 + p) n ++ [])) s ∙ one_page (r.card.0 * 2 ^ 36 + p) in
    let enough = h.1 (omega arith) in
    let room : room_for S [] r p ≡ true = le-leb (S.cards + tables_of (pages_with [] r p)) (tables_in S) (omega arith) in
    subst Accepts (choice_found S [] r p (first_page_lem S (none_reserved S) r h.0.0 f) refl room) tt
