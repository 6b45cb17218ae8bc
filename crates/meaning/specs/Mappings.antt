-- Words for open mappings: what one covers, where it lies, and lists of them in their one order.
use Rattle.std.specs.Prelude.{◌≡◌, ℕ, ◌+◌, ◌-◌, ◌*◌, ◌/◌, ◌%◌, ◌^◌, ◌<◌, ◌≤◌, Bool, true, false, cond, ◌&&◌, ◌||◌, ◌⊎◌, List, [], ◌∷◌, Some, None, Option, ◌==◌, nat_lt}
use Rattle.units.specs.declared.mapping.Holder.{Holder}
use Rattle.units.specs.declared.mapping.Holder.TheVariants.{ByCard, ByCpu}
use Rattle.units.specs.declared.mapping.Mapping.{Mapping}
use Rattle.units.specs.declared.mapping.Reach.{Reach}
use Rattle.units.specs.Buffers.{span}
use Rattle.units.specs.Directions.{rights_of}
use Rattle.meaning.specs.Memory.{within}

-- One mapping ---------------------------------------------------------------------------------------------

abbrev pub first_page : Mapping → ℕ
first_page m = m.device.0 / 4096

abbrev pub first_frame : Mapping → ℕ
first_frame m = m.landing / 4096

-- device pages of the mapping, and frames of its landing
abbrev pub page_count : Mapping → ℕ
page_count m = span m.buffer.address m.buffer.length

-- page p of card c is one of the mapping's
abbrev pub on_page : ℕ → ℕ → Mapping → Bool
on_page c p m = m.card.0 == c && within (first_page m) (page_count m) p

-- the mapping starts at device address v of card c
abbrev pub starts : ℕ → ℕ → Mapping → Bool
starts c v m = m.card.0 == c && m.device.0 == v

-- byte b is in the buffer
abbrev pub covers : Mapping → ℕ → Bool
covers m b = within m.buffer.address m.buffer.length b

-- frame f is one of the landing's
abbrev pub lands_on : Mapping → ℕ → Bool
lands_on m f = within (first_frame m) (page_count m) f

abbrev pub card_holds : Holder → Bool
card_holds ByCard = true
card_holds ByCpu = false

abbrev pub turned : Holder → Mapping → Mapping
turned h m = record { card = m.card; direction = m.direction; buffer = m.buffer; device = m.device; landing = m.landing; holder = h }

-- the same words as facts, for the laws

pub record Whole (m : Mapping) : Type 0 where
  pub starts : m.buffer.address % 4096 ≡ 0
  pub ends : m.buffer.length % 4096 ≡ 0

-- byte b is in the buffer
pub record Holds (m : Mapping) (b : ℕ) : Type 0 where
  pub from : m.buffer.address ≤ b
  pub to : b < m.buffer.address + m.buffer.length

-- byte q is in a frame of the landing
pub record Lands (m : Mapping) (q : ℕ) : Type 0 where
  pub from : first_frame m ≤ q / 4096
  pub to : q / 4096 < first_frame m + page_count m

-- device page p is one of the mapping's
pub record Pages (m : Mapping) (p : ℕ) : Type 0 where
  pub from : first_page m ≤ p
  pub to : p < first_page m + page_count m

-- Lists of them -------------------------------------------------------------------------------------------

abbrev pub In : Mapping → List Mapping → Type 0
In m [] = ⊥
In m (x ∷ xs) = (m ≡ x) ⊎ In m xs

-- each earlier one stands so to each later one
abbrev pub Pairwise : (Mapping → Mapping → Type 0) → List Mapping → Type 0
Pairwise R [] = Unit {0}
Pairwise R (m ∷ o) = ((n : Mapping) → In n o → R m n) × Pairwise R o

-- open mappings have no order of their own: a list of them is by card and then first device page, which is below 2^36
abbrev pub key : Mapping → ℕ
key m = m.card.0 * 2 ^ 36 + first_page m

unfoldable pub insert : Mapping → List Mapping → List Mapping
insert m [] = m ∷ []
insert m (n ∷ o) = cond (nat_lt (key m) (key n)) (m ∷ n ∷ o) (n ∷ insert m o)

unfoldable pub remove : ℕ → ℕ → List Mapping → List Mapping
remove c v [] = []
remove c v (m ∷ o) = cond (starts c v m) (remove c v o) (m ∷ remove c v o)

unfoldable pub turn : Holder → ℕ → ℕ → List Mapping → List Mapping
turn h c v [] = []
turn h c v (m ∷ o) = cond (starts c v m) (turned h m) m ∷ turn h c v o

-- the open mapping of card c that starts at device address v
unfoldable pub find : List Mapping → ℕ → ℕ → Option Mapping
find [] c v = None
find (m ∷ o) c v = cond (starts c v m) (Some m) (find o c v)

-- byte b is in a buffer whose holder is a card
unfoldable pub held : List Mapping → ℕ → Bool
held [] b = false
held (m ∷ o) b = (card_holds m.holder && covers m b) || held o b

-- page j of a mapping reaches frame j counted from its landing, with the direction's rights
abbrev pub reach_through : Mapping → ℕ → Option Reach
reach_through m p = Some (record { frame = record { 0 = first_frame m + (p - first_page m) }; rights = rights_of m.direction })

-- what card c reaches at device page p, and it reaches nothing else
unfoldable pub reach_of : List Mapping → ℕ → ℕ → Option Reach
reach_of [] c p = None
reach_of (m ∷ o) c p = cond (on_page c p m) (reach_through m p) (reach_of o c p)
