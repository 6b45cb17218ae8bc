-- The laws of a mapper that takes the chooser's pages and lands each buffer at its own address.
use Rattle.std.proofs.Common.{◌≡◌, ℕ, ◌%◌, true, false, List, sym, refl, ap, subst, arith}
use Rattle.units.specs.declared.mapping.Mapping.{Mapping}
use Rattle.units.specs.declared.mapping.Placement.{Placement}
use Rattle.meaning.specs.Mappings.{Pages, Lands, insert}
use Rattle.meaning.specs.Worlds.{Setup, Kind, world}
use Rattle.meaning.specs.Laws.{DisjointPages, Landings, Bounds, Bounded}
use Rattle.meaning.specs.Calls.{Call}
use Rattle.meaning.specs.Effects.{new_mapping, opens_after}
use Rattle.meaning.proofs.Lists.{pair_map}
use Rattle.meaning.proofs.Keeping.{Stable, opens_kept}
use Rattle.pages.specs.Pages.{TakesPages}
use Rattle.pages.specs.Lawful.{share, lawful, Possible, none_reserved}
use Rattle.pages.proofs.Facts.{Fitting, lawful_facts, share_none, lawful_remove, lawful_turn}
use Rattle.pages.proofs.Taking.{grown}

not_reserved : false ≡ true → ⊥
not_reserved e = cc

pub disjoint : (S : Setup) (o : List Mapping) → lawful S o ≡ true → DisjointPages S o
disjoint S o e =
    let l = lawful_facts S o e in
    record {
      offset_device = λ m i. (l.each m i).offset;
      offset_landing = λ m i. ap (λ (z : ℕ). z % 4096) (l.each m i).own;
      pages_given = λ m i p g.
          let low = (l.each m i).low in
          let high = (l.each m i).high in
          let from = g.from in
          let to = g.to in (omega arith, omega arith);
      pages_apart = pair_map (λ m n. share m n ≡ false) (λ m n. m.card.0 ≡ n.card.0 → (p : ℕ) → Pages m p → Pages n p → ⊥) o share_none l.apart;
    }

pub landed : (S : Setup) (o : List Mapping) → Possible S o → Landings (none_reserved S) o
landed S o h =
    let l = lawful_facts S o h.1 in
    record {
      lands = λ m i other. absurd (other (l.each m i).own);
      landings_apart = pair_map (λ m n. share m n ≡ false) (λ m n. (q : ℕ) → Lands m q → Lands n q → false ≡ true → ⊥) o (λ m n s q a b. not_reserved) l.apart;
    }

bounded : (S : Setup) (m : Mapping) → Fitting S m → Bounded S (none_reserved S) m
bounded S m f =
    let inside = f.inside in
    let own = f.own in
    record { card = f.card; some = f.some; short = f.short; inside = inside; landing = omega arith; clean = λ b g. refl }

pub bounds : (S : Setup) (o : List Mapping) → Possible S o → Bounds S (none_reserved S) o
bounds S o h = record {
  cards = h.0.0;
  lasts = h.0.2;
  frames = h.0.1;
  reserves = λ f e. absurd (not_reserved e);
  each = λ m i. bounded S m ((lawful_facts S o h.1).each m i);
}

stable : (K : Kind) → TakesPages K.choice → (S : Setup) (n : ℕ) (o : List Mapping) → Stable (world K S n) (Possible S) o
stable K takes S n o = record {
  grows = λ r q a e h.
      let t = takes S o r q e in
      (h.0, subst (λ (z : Placement). lawful S (insert (new_mapping r z) o) ≡ true) (sym t.2) (grown K S n o r t.0 a t.1 h.1));
  shrinks = λ c v h. (h.0, lawful_remove S c v o h.1);
  turns = λ t c v h. (h.0, lawful_turn S t c v o h.1);
}

-- every call keeps to lawful lists
pub kept : (K : Kind) → TakesPages K.choice → (S : Setup) (o : List Mapping) (n : ℕ) (c : Call) → Possible S o → Possible S (opens_after (world K S n) o c)
kept K takes S o n c h = opens_kept (world K S n) (Possible S) o (stable K takes S n o) h c
