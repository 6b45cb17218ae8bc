-- What a call on a mapper answers and leaves, over the meaning of any mapper.
use Rattle.mapper.specs.declared.laws.Meaning.{Ghosts as Meaning}
use Rattle.std.specs.Prelude.{◌≡◌, ℕ, ◌+◌, ◌*◌, ◌/◌, ◌%◌, ◌≤◌, Bool, true, false, List, length, None, Ok, Err, Option, Result, MatchResult}
use Rattle.units.specs.declared.direction.Access.{Access}
use Rattle.units.specs.declared.fault.Fault.{Fault}
use Rattle.units.specs.declared.fault.FaultKind.{FaultKind}
use Rattle.units.specs.declared.mapping.Mapping.{Mapping}
use Rattle.units.specs.declared.mapping.Reach.{Reach}
use Rattle.units.specs.declared.number.Frame.{Frame}
use Rattle.meaning.specs.Memory.{bytes_of}
use Rattle.meaning.specs.Mappings.{reach_of}
use Rattle.meaning.specs.Worlds.{World, world}
use Rattle.meaning.specs.Calls.{Call, Answer}
use Rattle.meaning.specs.Checks.{Verdict, fine, errs, allowed, card_checks, judged}
use Rattle.meaning.specs.Effects.{State, answer, after, buffer_after, reached_byte}
use Rattle.mapper.specs.Tasks.{task_of, translates, Left}

-- the mapper m handed the memory x
abbrev pub here : {M : Type 0} → Meaning M → M → List ℕ → World
here I m x = world I.kind (I.setup m) (length x)

-- what a mapper sees of the state: it keeps no reports
abbrev pub seen : List Mapping → List ℕ → State
seen o x = record { opens = o; memory = bytes_of x; reports = λ c. record { count = 0; latest = None } }

-- from m and memory x to m' and memory x' by the call c, answered by a; on an error the mapper is as it was
pub record Called {M : Type 0} (I : Meaning M)
    (m m' : M) (x x' : List ℕ) (c : Call) (a : Answer) : Type 0 where
  pub fixed : I.setup m' ≡ I.setup m
  pub answers : a ≡ answer (here I m x) (seen (I.opened m) x) c
  pub opens : I.opened m' ≡ (after (here I m x) (seen (I.opened m) x) c).opens
  pub memory : bytes_of x' ≡ (after (here I m x) (seen (I.opened m) x) c).memory
  pub left : Left I.leaves m m' (task_of c) a

-- a card's read: the same, and the answer buffer t becomes t'
pub record Read {M : Type 0} (I : Meaning M)
    (m m' : M) (x : List ℕ) (t t' : List ℕ) (c : Call) (a : Answer) : Type 0 where
  pub called : Called I m m' x x c a
  pub buffer : bytes_of t' ≡ buffer_after a t

-- one check by itself: its test holds, or the refusal of kind k at place p
abbrev pub Checked : Bool → FaultKind → ℕ → Result (Unit {0}) Fault → Type 0
Checked test k p (Ok u) = test ≡ true
Checked test k p (Err f) = (test ≡ false) × (f ≡ record { kind = k; layer = 0; place = p })

-- the frame that a reach lets a card access, or the block at level l
abbrev pub Judged : Option Reach → ℕ → Access → Result Frame Fault → Type 0
Judged s l a (Ok f) = (allowed s l a ≡ fine) × ((v : ℕ) → reached_byte s v ≡ f.0 * 4096 + v % 4096)
Judged s l a (Err f) = allowed s l a ≡ errs f

-- a translation for card c at device page p, answered by r
pub record Translated {M : Type 0} (I : Meaning M)
    (m m' : M) (c p : ℕ) (a : Access) (r : Result Frame Fault) : Type 0 where
  pub fixed : I.setup m' ≡ I.setup m
  pub same : I.opened m' ≡ I.opened m
  pub judged : Judged (reach_of (I.opened m) c p) (I.kind.level (I.setup m) (I.opened m) c p) a r
  pub left : MatchResult r (λ _. I.leaves m (translates c p a) m') (λ _. m' ≡ m)

-- the memory address of n bytes that the checks let a card access, in memory and with room for them, or the first error
abbrev pub Target : Verdict → (byte n size room : ℕ) → Result ℕ Fault → Type 0
Target w byte n size room (Ok at) = (w ≡ fine) × (at ≡ byte) × (at + n ≤ size) × (n ≤ room)
Target w byte n size room (Err f) = w ≡ errs f

-- an access of card c to n bytes at device address v, judged
pub record Targeted {M : Type 0} (I : Meaning M)
    (m m' : M) (x : List ℕ) (c v n room : ℕ) (a : Access) (r : Result ℕ Fault) : Type 0 where
  pub fixed : I.setup m' ≡ I.setup m
  pub same : I.opened m' ≡ I.opened m
  pub target : Target (card_checks (here I m x) c v n room (judged (here I m x) (I.opened m) c (v / 4096) a))
      (reached_byte (reach_of (I.opened m) c (v / 4096)) v) n (length x) room r
  pub left : MatchResult r (λ _. I.leaves m (translates c (v / 4096) a) m') (λ _. m' ≡ m)
