-- Where landings lie at a list of open mappings that a shielding mapper can have.
use Rattle.std.proofs.Common.{◌≡◌, ℕ, ◌/◌, Bool, true, ◌⊎◌, List, inl, inr}
use Rattle.std.proofs.lemmas.Bool.{cases_eq}
use Rattle.units.specs.declared.mapping.Mapping.{Mapping}
use Rattle.meaning.specs.Mappings.{In, Whole, Holds, Lands}
use Rattle.meaning.specs.Worlds.{Setup}
use Rattle.meaning.specs.Laws.{DisjointPages, Landings, Bounced}
use Rattle.meaning.proofs.Lists.{pairwise_in}
use Rattle.isolation.proofs.Moves.{whole_holds, whole_or_not}

-- what a shielding mapper shows of a list of open mappings
pub record Lawful (S : Setup) (reserved : ℕ → Bool) (o : List Mapping) : Type 0 where
  pub pages : DisjointPages S o
  pub landing : Landings reserved o
  pub bounced : Bounced reserved o

module _ (S : Setup) (reserved : ℕ → Bool) (o : List Mapping) (laws : Lawful S reserved o) where
  -- a reserved frame is of one landing
  pub one_landing : (m n : Mapping) → In m o → In n o → (q : ℕ) → Lands m q → Lands n q → reserved (q / 4096) ≡ true → m ≡ n
  one_landing m n i j q a b r =
      elim (pairwise_in (λ m n. (q : ℕ) → Lands m q → Lands n q → reserved (q / 4096) ≡ true → ⊥) o laws.landing.landings_apart m n i j) [
        | inl e ↦ e
        | inr (inl h) ↦ absurd (h q a b r)
        | inr (inr h) ↦ absurd (h q b a r)
      ]

  -- a whole buffer lands at its own address
  pub whole_lands : (m : Mapping) → In m o → Whole m → m.landing ≡ m.buffer.address
  whole_lands m i w = elim (cases_eq m.landing m.buffer.address) [ inl e ↦ e | inr n ↦ absurd ((laws.landing.lands m i n).0 w) ]

  -- a byte of a landing is a byte of the buffer, or reserved
  pub landed : (m : Mapping) → In m o → (q : ℕ) → Lands m q → (Holds m q × (m.landing ≡ m.buffer.address)) ⊎ (reserved (q / 4096) ≡ true)
  landed m i q l = elim (whole_or_not m) [
    | inl w ↦ (let e = whole_lands m i w in inl (whole_holds m q w e l, e))
    | inr n ↦ inr (laws.bounced m i n q l)
  ]
