-- Lists of calls made from set-up on, and the same lists without one card's accesses and reports.
use Rattle.std.specs.Prelude.{◌≡◌, ℕ, Bool, false, cond, List, [], ◌∷◌, ◌++◌, None, ◌==◌}
use Rattle.meaning.specs.Memory.{Bytes}
use Rattle.meaning.specs.Worlds.{World}
use Rattle.meaning.specs.Calls.{Call, map, unmap, sync, cpu_read, cpu_write, card_read, card_write, report, Answer, fails, done, at, bytes, tells}
use Rattle.meaning.specs.Effects.{State}
use Rattle.meaning.specs.Runs.{final}

-- at set-up: nothing open, nothing counted
abbrev pub at_set_up : Bytes → State
at_set_up x = record { opens = []; memory = x; reports = λ c. record { count = 0; latest = None } }

-- what the calls l leave, made from set-up on over memory x
abbrev pub left_by : World → Bytes → List Call → State
left_by W x l = final W (at_set_up x) l

-- card A's accesses, erring ones too, and its reports
abbrev pub is_own : ℕ → Call → Bool
is_own A (map r) = false
is_own A (unmap c d v n) = false
is_own A (sync s c v) = false
is_own A (cpu_read a n t) = false
is_own A (cpu_write a t) = false
is_own A (card_read c v n t) = c == A
is_own A (card_write c v t) = c == A
is_own A (report c) = c == A

-- the other calls
unfoldable pub struck : ℕ → List Call → List Call
struck A [] = []
struck A (c ∷ l) = cond (is_own A c) (struck A l) (c ∷ struck A l)

-- an answer, apart from the bytes that a read returns
abbrev pub without_bytes : Answer → Answer
without_bytes (fails f) = fails f
without_bytes done = done
without_bytes (at v) = at v
without_bytes (bytes f) = bytes (λ i. 0)
without_bytes (tells r) = tells r

-- so the answers to the other calls
unfoldable pub struck_answers : ℕ → List Call → List Answer → List Answer
struck_answers A [] b = []
struck_answers A (c ∷ l) [] = []
struck_answers A (c ∷ l) (a ∷ b) = cond (is_own A c) (struck_answers A l b) (without_bytes a ∷ struck_answers A l b)

-- one of the other calls where it stands in two lists: after p in l and after q in k, which are the same without A's calls
pub record InBoth (A : ℕ) (l k p q : List Call) (c : Call) : Type 0 where
  pub other : is_own A c ≡ false
  pub in_first : (rest : List Call) × (l ≡ p ++ (c ∷ rest))
  pub in_second : (rest : List Call) × (k ≡ q ++ (c ∷ rest))
  pub same_before : struck A p ≡ struck A q
