-- The mapping that a driver's state names.
use Rattle.std.specs.Prelude.{◌≡◌, ◌≢◌, ◌⊎◌, ℕ, Bool, false, ◌&&◌, List, Some, nat_le}
use Rattle.units.specs.declared.fault.Fault.{Fault}
use Rattle.units.specs.declared.fault.FaultKind.{FaultKind}
use Rattle.units.specs.declared.mapping.Holder.{Holder}
use Rattle.units.specs.declared.mapping.Mapping.{Mapping}
use Rattle.units.specs.declared.mapping.Request.{Request}
use Rattle.units.specs.declared.mapping.UnmapRequest.{UnmapRequest}
use Rattle.units.specs.declared.number.DeviceAddress.{DeviceAddress}
use Rattle.units.specs.Directions.{code_of}
use Rattle.units.specs.Faults.{number_of}
use Rattle.meaning.specs.Mappings.{find}
use Rattle.driver.specs.declared.buffer.Transfer.{Transfer}

-- the map call for a transfer
abbrev pub request_of : Transfer → Request
request_of t = record { card = t.card; direction = code_of t.direction; buffer = t.buffer }

-- the unmap call for a transfer that is mapped at device address v
abbrev pub closing_of : Transfer → DeviceAddress → UnmapRequest
closing_of t v = record { card = t.card; direction = code_of t.direction; device = v; length = t.buffer.length }

-- among the open mappings o, the transfer's stands at device address v, with that holder
pub record Stands (o : List Mapping) (t : Transfer) (v : ℕ) (h : Holder) : Type 0 where
  pub mapping : Mapping
  pub is_open : find o t.card.0 v ≡ Some mapping
  pub direction : mapping.direction ≡ t.direction
  pub buffer : mapping.buffer ≡ t.buffer
  pub holder : mapping.holder ≡ h

-- what is open is other than the caller says: not open, another mapping, another holder
abbrev pub is_mismatch_kind : FaultKind → Bool
is_mismatch_kind k = nat_le 6 (number_of k) && nat_le (number_of k) 8

-- a refusal for another reason, after which the mapping stands as before
pub record StillStands (o : List Mapping) (t : Transfer) (v : ℕ) (h : Holder) (f : Fault) : Type 0 where
  pub stands : Stands o t v h
  pub other : is_mismatch_kind f.kind ≡ false

-- what stood in o stands in p as before
abbrev pub KeepsAll : List Mapping → List Mapping → Type 0
KeepsAll o p = (t : Transfer) (v : ℕ) (h : Holder) → Stands o t v h → Stands p t v h

-- what stood in o elsewhere than at device address w of card c stands in p as before
abbrev pub KeepsOthers : List Mapping → List Mapping → ℕ → ℕ → Type 0
KeepsOthers o p c w = (t : Transfer) (v : ℕ) (h : Holder) → (t.card.0 ≢ c) ⊎ (v ≢ w) → Stands o t v h → Stands p t v h
