-- The promise of every mapper that shields, told by what every list of calls leaves open, or by a predicate that calls keep.
use Rattle.std.proofs.Common.{◌≡◌, ℕ, List, [], ◌∷◌, ◌++◌, refl, ap, subst, ◌∙◌}
use Rattle.units.specs.declared.mapping.Mapping.{Mapping}
use Rattle.meaning.specs.Memory.{Bytes}
use Rattle.meaning.specs.Worlds.{Setup, Kind, World, world}
use Rattle.meaning.specs.Calls.{Call}
use Rattle.meaning.specs.Effects.{State, opens_after}
use Rattle.meaning.specs.Runs.{final}
use Rattle.isolation.specs.Lists.{at_set_up, left_by, struck}
use Rattle.isolation.specs.Shielding.{Shielded, Shielding}
use Rattle.isolation.specs.Promise.{Isolated, Isolation}
use Rattle.isolation.proofs.Landing.{Lawful}
use Rattle.isolation.proofs.Granting.{final_last}
use Rattle.isolation.proofs.Main.{isolated_by, open_left}

-- o is left open by some calls from set-up on
abbrev Reached : World → Bytes → List Mapping → Type 0
Reached W x o = (l : List Call) × ((left_by W x l).opens ≡ o)

reached_next : (W : World) (x : Bytes) (o : List Mapping) (c : Call) → Reached W x o → Reached W x (opens_after W o c)
reached_next W x o c r = (
  r.0 ++ (c ∷ []),
  ap (λ (s : State). s.opens) (final_last W (at_set_up x) r.0 c) ∙ ap (λ (z : List Mapping). opens_after W z c) r.1,
)

nothing_reached : (W : World) (x : Bytes) → Reached W x []
unfolding final
nothing_reached W x = ([], refl)

pub isolation : Isolation
isolation K S n h A x l k e = isolated_by K S n A (Reached (world K S n) x) (reached_next (world K S n) x)
    (λ o r. subst (Lawful S (K.reserved S)) r.1 (record { pages = h.disjoint_pages x r.0; landing = h.landing x r.0; bounced = h.bounced x r.0 }))
    (nothing_reached (world K S n) x) x l k e

-- what a mapper supplies that names the lists to which calls can lead
pub shielded : (K : Kind) (S : Setup) (possible : Setup → List Mapping → Type 0) → Shielding K S possible → (n : ℕ) → Shielded K S n
shielded K S possible h n = record {
  disjoint_pages = λ x l. h.disjoint_pages _ (stays x l);
  landing = λ x l. h.landing _ (stays x l);
  bounced = λ x l. h.bounced _ (stays x l);
}
  where
    stays : (x : Bytes) (l : List Call) → possible S (left_by (world K S n) x l).opens
    stays x l = open_left (world K S n) (possible S) (λ o c i. h.kept o n c i) (at_set_up x) h.start l

pub isolated : (K : Kind) (S : Setup) (possible : Setup → List Mapping → Type 0) → Shielding K S possible
    → (n A : ℕ) (x : Bytes) (l k : List Call) → struck A l ≡ struck A k → Isolated (world K S n) A x l k
isolated K S possible h n A x l k e = isolation K S n (shielded K S possible h n) A x l k e
