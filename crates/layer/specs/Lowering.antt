-- What is mapped below a layer for the open mappings above.
use Rattle.std.specs.Prelude.{ℕ, ◌*◌, ◌/◌, List, [], ◌∷◌}
use Rattle.units.specs.declared.mapping.Mapping.{Mapping}
use Rattle.meaning.specs.Mappings.{page_count}

-- the first address of the page or frame that an address lies in
abbrev pub base_of : ℕ → ℕ
base_of a = a / 4096 * 4096

-- the whole frames of the landing, on whole device pages
abbrev pub down : Mapping → Mapping
down m = record {
  card = m.card;
  direction = m.direction;
  buffer = record { address = base_of m.landing; length = page_count m * 4096 };
  device = record { 0 = base_of m.device.0 };
  landing = base_of m.landing;
  holder = m.holder;
}

unfoldable pub lowered : List Mapping → List Mapping
lowered [] = []
lowered (m ∷ o) = down m ∷ lowered o
