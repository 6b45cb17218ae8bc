-- The laws that every mapper shows.
use Rattle.std.specs.Prelude.{◌≡◌, ℕ, ◌+◌, ◌*◌, ◌/◌, ◌%◌, ◌^◌, ◌<◌, ◌≤◌, Bool, true, false, List, [], Ok, Err, ◌≢◌}
use Rattle.units.specs.declared.fault.Fault.{Fault}
use Rattle.units.specs.declared.mapping.Mapping.{Mapping}
use Rattle.units.specs.declared.mapping.Request.{Request}
use Rattle.units.specs.Faults.{is_choice_kind}
use Rattle.meaning.specs.Mappings.{In, Pairwise, Whole, Holds, Lands, Pages, first_frame, page_count}
use Rattle.meaning.specs.Worlds.{Setup, last_of, Kind, Choice}

-- disjoint pages: addresses are equal modulo 4,096, and open mappings of one card share no device page and stay in 1 to its last
pub record DisjointPages (S : Setup) (o : List Mapping) : Type 0 where
  pub offset_device : (m : Mapping) → In m o → m.device.0 % 4096 ≡ m.buffer.address % 4096
  pub offset_landing : (m : Mapping) → In m o → m.landing % 4096 ≡ m.buffer.address % 4096
  pub pages_given : (m : Mapping) → In m o → (p : ℕ) → Pages m p → (1 ≤ p) × (p ≤ last_of S m.card.0)
  pub pages_apart : Pairwise (λ m n. m.card.0 ≡ n.card.0 → (p : ℕ) → Pages m p → Pages n p → ⊥) o

-- landing: the buffer's own address or, for a buffer not whole, reserved frames; no two landings share a reserved frame
pub record Landings (reserved : ℕ → Bool) (o : List Mapping) : Type 0 where
  pub lands : (m : Mapping) → In m o → (m.landing ≢ m.buffer.address)
      → (Whole m → ⊥) × ((q : ℕ) → Lands m q → reserved (q / 4096) ≡ true)
  pub landings_apart : Pairwise (λ m n. (q : ℕ) → Lands m q → Lands n q → reserved (q / 4096) ≢ true) o

-- an open mapping whose buffer is not whole lands in reserved frames only; not every mapper shows it, a bounce layer does
abbrev pub Bounced : (ℕ → Bool) → List Mapping → Type 0
Bounced reserved o = (m : Mapping) → In m o → (Whole m → ⊥) → (q : ℕ) → Lands m q → reserved (q / 4096) ≡ true

-- a whole buffer of one unreserved frame, for a card
pub record OneFrame (S : Setup) (reserved : ℕ → Bool) (r : Request) : Type 0 where
  pub card : r.card.0 < S.cards
  pub direction : r.direction ≤ 2
  pub starts : r.buffer.address % 4096 ≡ 0
  pub one : r.buffer.length ≡ 4096
  pub frame : r.buffer.address / 4096 < S.frames
  pub unreserved : reserved (r.buffer.address / 4096) ≡ false

abbrev pub Accepts : Choice → Type 0
Accepts (Ok p) = Unit {0}
Accepts (Err f) = ⊥

-- empty room: with nothing open, the choice accepts each whole buffer of one unreserved frame for each card
abbrev pub EmptyRoom : Kind → Setup → Type 0
EmptyRoom K S = (r : Request) → OneFrame S (K.reserved S) r → Accepts (K.choice S [] r)

-- a choice that refuses does so with 9 to 12
abbrev pub ChoiceRefusals : Kind → Setup → List Mapping → Type 0
ChoiceRefusals K S o = (r : Request) (f : Fault) → K.choice S o r ≡ Err f → is_choice_kind f.kind ≡ true

-- the bounds of an open mapping
pub record Bounded (S : Setup) (reserved : ℕ → Bool) (m : Mapping) : Type 0 where
  pub card : m.card.0 < S.cards
  pub some : 0 < m.buffer.length
  pub short : page_count m ≤ 8
  pub inside : m.buffer.address + m.buffer.length ≤ S.frames * 4096
  pub landing : first_frame m + page_count m ≤ S.frames
  pub clean : (b : ℕ) → Holds m b → reserved (b / 4096) ≡ false

-- and of a mapper
pub record Bounds (S : Setup) (reserved : ℕ → Bool) (o : List Mapping) : Type 0 where
  pub cards : S.cards ≤ 4
  pub lasts : (c : ℕ) → c < S.cards → (1 ≤ last_of S c) × (last_of S c < 2 ^ 36)
  pub frames : S.frames ≤ 1024
  pub reserves : (f : ℕ) → reserved f ≡ true → f < S.frames
  pub each : (m : Mapping) → In m o → Bounded S reserved m
