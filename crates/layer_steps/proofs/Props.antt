-- What ties a pool to the mapper below is a proposition, so that a type may keep it in a ghost field.
use Rattle.mapper.specs.declared.laws.Meaning.{Ghosts as Meaning}
use Rattle.std.proofs.Common.{◌≡◌, ℕ, zero, suc, List, Option, refl}
use Rattle.std.specs.Coded.{Coded, Coded-set, code_by, coded_ℕ, coded×, coded_list, coded_option}
use Rattle.units.specs.declared.buffer.Buffer.{Buffer}
use Rattle.units.specs.declared.direction.Direction.{Direction}
use Rattle.units.specs.declared.direction.Direction.TheVariants.{Both, ToCard, FromCard}
use Rattle.units.specs.declared.mapping.Holder.{Holder}
use Rattle.units.specs.declared.mapping.Holder.TheVariants.{ByCard, ByCpu}
use Rattle.units.specs.declared.mapping.Mapping.{Mapping}
use Rattle.units.specs.Directions.{code_of, coded}
use Rattle.meaning.specs.Effects.{direction_of}
use Rattle.layer.proofs.Props.{standing_prop}
use Rattle.pool.specs.declared.pool.Pool.{Pool}
use Rattle.layer_steps.specs.Tied.{Tied}

-- Codes ---------------------------------------------------------------------------------------------------

buffer_code : Coded Buffer
buffer_code = code_by (ℕ × ℕ) (coded× coded_ℕ coded_ℕ) (λ b. (b.address, b.length)) (λ t. record { address = t.0; length = t.1 }) (λ b. refl)

direction_back : (d : Direction) → direction_of (coded (code_of d)) ≡ d
direction_back Both = refl
direction_back ToCard = refl
direction_back FromCard = refl

direction_code : Coded Direction
direction_code = code_by ℕ coded_ℕ code_of (λ n. direction_of (coded n)) direction_back

abbrev holder_number : Holder → ℕ
holder_number ByCard = 0
holder_number ByCpu = 1

abbrev numbered_holder : ℕ → Holder
numbered_holder zero = ByCard
numbered_holder (suc n) = ByCpu

holder_back : (h : Holder) → numbered_holder (holder_number h) ≡ h
holder_back ByCard = refl
holder_back ByCpu = refl

holder_code : Coded Holder
holder_code = code_by ℕ coded_ℕ holder_number numbered_holder holder_back

abbrev Parts : Type 0
Parts = ℕ × (Direction × (Buffer × (ℕ × (ℕ × Holder))))

abbrev parts : Mapping → Parts
parts m = (m.card.0, (m.direction, (m.buffer, (m.device.0, (m.landing, m.holder)))))

abbrev whole : Parts → Mapping
whole t = record { card = record { 0 = t.0 }; direction = t.1.0; buffer = t.1.1.0; device = record { 0 = t.1.1.1.0 }; landing = t.1.1.1.1.0; holder = t.1.1.1.1.1 }

mapping_code : Coded Mapping
mapping_code = code_by Parts (coded× coded_ℕ (coded× direction_code (coded× buffer_code (coded× coded_ℕ (coded× coded_ℕ holder_code))))) parts whole (λ m. refl)

-- Propositions --------------------------------------------------------------------------------------------

mappings_set : IsSet (List Mapping)
mappings_set = Coded-set (coded_list mapping_code)

loan_set : IsSet (Option Buffer)
loan_set = Coded-set (coded_option buffer_code)

pub tied_prop : {M : Type 0} (I : Meaning M) (m : M) (q : Pool) → IsProp (Tied I m q)
tied_prop I m q = hlevel (standing_prop, mappings_set, loan_set)
