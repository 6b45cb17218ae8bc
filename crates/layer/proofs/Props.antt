-- What a layer keeps is a proposition, so that a type may keep it in a ghost field.
use Rattle.std.proofs.Common.{ℕ, Bool, List, [], ◌∷◌}
use Rattle.std.proofs.Props.{props}
use Rattle.units.specs.declared.mapping.Mapping.{Mapping}
use Rattle.meaning.specs.Mappings.{Pairwise}
use Rattle.layer.specs.Possible.{Standing}

pub pairwise_prop : (R : Mapping → Mapping → Type 0) → ((m n : Mapping) → IsProp (R m n)) → (o : List Mapping) → IsProp (Pairwise R o)
pairwise_prop R h [] = hlevel
pairwise_prop R h (m ∷ o) = hlevel (h, pairwise_prop R h o)

pub standing_prop : (frames : ℕ) (reserved : ℕ → Bool) (first count : ℕ) (o : List Mapping) → IsProp (Standing frames reserved first count o)
standing_prop frames reserved first count o = hlevel (props, pairwise_prop)
