-- The promise: what two runs have in common, whose lists of calls differ in card A's accesses and reports alone.
use Rattle.std.specs.Prelude.{◌≡◌, ℕ, ◌+◌, ◌/◌, ◌<◌, ◌≤◌, false, ◌⊎◌, List, ◌∷◌, ◌++◌}
use Rattle.units.specs.declared.mapping.Mapping.{Mapping}
use Rattle.units.specs.declared.mapping.Request.{Request}
use Rattle.meaning.specs.Memory.{Bytes}
use Rattle.meaning.specs.Mappings.{In}
use Rattle.meaning.specs.Worlds.{Setup, Kind, World, world}
use Rattle.meaning.specs.Calls.{Call, map, cpu_read, card_read, at}
use Rattle.meaning.specs.Effects.{answer, buffer_after}
use Rattle.meaning.specs.Runs.{answers}
use Rattle.isolation.specs.Lists.{at_set_up, left_by, struck, is_own, struck_answers, InBoth}
use Rattle.isolation.specs.Shielding.{Shielded}

-- in the list l a map of a buffer that holds byte b, for card A under a direction that lets it write, gave no error
pub record Accepted (W : World) (A : ℕ) (x : Bytes) (l : List Call) (b : ℕ) : Type 0 where
  pub before : List Call
  pub request : Request
  pub rest : List Call
  pub made : l ≡ before ++ (map request ∷ rest)
  pub device : ℕ
  pub given : answer W (left_by W x before) (map request) ≡ at device
  pub card : request.card.0 ≡ A
  pub direction : (request.direction ≡ 0) ⊎ (request.direction ≡ 2)
  pub from : request.buffer.address ≤ b
  pub to : b < request.buffer.address + request.buffer.length

-- what card c finds at device address v stands for byte b: v lies in an open mapping of c as far past its start as b lies in its buffer
pub record StandsFor (o : List Mapping) (c v b : ℕ) : Type 0 where
  pub mapping : Mapping
  pub is_open : In mapping o
  pub card : mapping.card.0 ≡ c
  pub index : ℕ
  pub below : index < mapping.buffer.length
  pub address : v ≡ mapping.device.0 + index
  pub byte : b ≡ mapping.buffer.address + index

-- the answer buffer t after the call c, made when the calls p were made
abbrev pub buffer_left : World → Bytes → List Call → Call → List ℕ → Bytes
buffer_left W x p c t = buffer_after (answer W (left_by W x p) c) t

-- two runs from set-up on, over equal memories x
pub record Isolated (W : World) (A : ℕ) (x : Bytes) (l k : List Call) : Type 0 where
  -- every other call has the same answer, errors too, apart from bytes that reads return
  pub same_answers : struck_answers A l (answers W (at_set_up x) l) ≡ struck_answers A k (answers W (at_set_up x) k)
  -- after both lists every byte outside reserved frames is equal, unless map accepted it for A's writing
  pub same_memory : (b : ℕ) → W.reserved (b / 4096) ≡ false → (Accepted W A x l b → ⊥) → (left_by W x l).memory b ≡ (left_by W x k).memory b
  -- every byte that the CPU reads is equal, unless by then map had accepted it for A's writing
  pub same_cpu_reads : (p q : List Call) (a n : ℕ) (t : List ℕ) → InBoth A l k p q (cpu_read a n t)
      → (i : ℕ) → (i < n → Accepted W A x p (a + i) → ⊥)
      → buffer_left W x p (cpu_read a n t) t i ≡ buffer_left W x q (cpu_read a n t) t i
  -- every byte that another card reads is equal, unless by then map had accepted for A's writing the byte that it stands for
  pub same_card_reads : (p q : List Call) (c v n : ℕ) (t : List ℕ) → InBoth A l k p q (card_read c v n t)
      → (i : ℕ) → (i < n → (b : ℕ) → StandsFor (left_by W x p).opens c (v + i) b → Accepted W A x p b → ⊥)
      → buffer_left W x p (card_read c v n t) t i ≡ buffer_left W x q (card_read c v n t) t i

-- each of the other calls in one such list stands in the other as well, after the same calls but for A's
abbrev pub Standing : Type 0
Standing = (A : ℕ) (l k : List Call) → struck A l ≡ struck A k → (p rest : List Call) (c : Call) → l ≡ p ++ (c ∷ rest)
    → is_own A c ≡ false → (q : List Call) × InBoth A l k p q c

-- of every mapper that shields, every card, memory and two lists that are the same without the card's accesses and reports
abbrev pub Isolation : Type 0
Isolation = (K : Kind) (S : Setup) (n : ℕ) → Shielded K S n → (A : ℕ) (x : Bytes) (l k : List Call)
    → struck A l ≡ struck A k → Isolated (world K S n) A x l k
