-- By disjoint pages, what lies on a page or starts at a device address is one mapping.
use Rattle.std.proofs.Common.{◌≡◌, ℕ, ◌+◌, ◌/◌, ◌<◌, ◌≤◌, true, List, sym, ◌∙◌, inl, inr, arith}
use Rattle.std.proofs.lemmas.Bool.Decides.{nat_tests}
use Rattle.units.specs.declared.mapping.Mapping.{Mapping}
use Rattle.meaning.specs.Mappings.{In, Pages, on_page, starts, first_page, page_count}
use Rattle.meaning.specs.Worlds.{Setup}
use Rattle.meaning.specs.Laws.{DisjointPages}
use Rattle.meaning.proofs.Facts.{page_fact}
use Rattle.meaning.proofs.Lists.{pairwise_in}

-- a mapping lies on the page that it starts on
pub start_page : (c v : ℕ) (m : Mapping) → 0 < m.buffer.length → starts c v m ≡ true → on_page c (v / 4096) m ≡ true
start_page c v m some s =
    let d : m.device.0 ≡ v = grind (arith, nat_tests) in
    let low : first_page m ≤ v / 4096 = omega arith in
    let high : v / 4096 < first_page m + page_count m = omega arith in grind (arith, nat_tests)

module _ (S : Setup) (o : List Mapping) (law : DisjointPages S o) where
  pub one_on_page : (c p : ℕ) (m n : Mapping) → In m o → In n o → on_page c p m ≡ true → on_page c p n ≡ true → n ≡ m
  one_on_page c p m n i j a b =
      let x = page_fact c p m a in
      let y = page_fact c p n b in
      elim (pairwise_in (λ k l. k.card.0 ≡ l.card.0 → (q : ℕ) → Pages k q → Pages l q → ⊥) o law.pages_apart m n i j) [
        | inl e ↦ sym e
        | inr (inl r) ↦ absurd (r (x.0 ∙ sym y.0) p x.1 y.1)
        | inr (inr r) ↦ absurd (r (y.0 ∙ sym x.0) p y.1 x.1)
      ]

  pub one_start : (c v : ℕ) (m n : Mapping) → In m o → In n o → 0 < m.buffer.length → 0 < n.buffer.length → starts c v m ≡ true → starts c v n ≡ true → n ≡ m
  one_start c v m n i j a b s t = one_on_page c (v / 4096) m n i j (start_page c v m a s) (start_page c v n b t)
