-- The bytes that a run's maps accept for card A's writing, call by call.
use Rattle.std.proofs.Common.{◌≡◌, ℕ, ◌+◌, ◌<◌, ◌≤◌, ◌⊎◌, List, [], ◌∷◌, ◌++◌, Ok, refl, sym, ap, subst, ◌∙◌, inl, inr, append_assoc}
use Rattle.units.specs.declared.mapping.Placement.{Placement}
use Rattle.units.specs.declared.mapping.Request.{Request}
use Rattle.meaning.specs.Memory.{Bytes}
use Rattle.meaning.specs.Worlds.{Choice, World}
use Rattle.meaning.specs.Calls.{Call, map, done, at}
use Rattle.meaning.specs.Checks.{Verdict, fine, chosen, verdict}
use Rattle.meaning.specs.Effects.{State, answer, answered, after, said, on_choice}
use Rattle.meaning.specs.Runs.{final}
use Rattle.meaning.proofs.Verdicts.{admitted_facts}
use Rattle.isolation.specs.Lists.{at_set_up, left_by}
use Rattle.isolation.specs.Promise.{Accepted}

-- in state s the call c maps a buffer that holds byte b, for card A's writing
pub record Grants (W : World) (A : ℕ) (s : State) (c : Call) (b : ℕ) : Type 0 where
  pub request : Request
  pub asked : c ≡ map request
  pub device : ℕ
  pub given : answer W s (map request) ≡ at device
  pub card : request.card.0 ≡ A
  pub direction : (request.direction ≡ 0) ⊎ (request.direction ≡ 2)
  pub from : request.buffer.address ≤ b
  pub to : b < request.buffer.address + request.buffer.length

abbrev pub Granted : World → ℕ → State → List Call → ℕ → Type 0
Granted W A s [] b = ⊥
Granted W A s (c ∷ l) b = Grants W A s c b ⊎ Granted W A (after W s c) l b

pub given_at : (W : World) (s : State) (r : Request) (p : Placement) → verdict W s.opens (map r) ≡ fine → W.choice s.opens r ≡ Ok p
    → answer W s (map r) ≡ at p.device.0
given_at W s r p e h =
    ap (λ (w : Verdict). answered w (said W s (map r))) e ∙ ap (λ (z : Choice). on_choice z done (λ p. at p.device.0)) h

pub low_direction : (W : World) (s : State) (r : Request) → verdict W s.opens (map r) ≡ fine → r.direction ≤ 2
unfolding verdict
low_direction W s r e = (admitted_facts W r (chosen (W.choice s.opens r)) e).direction

pub final_append : (W : World) (s : State) (l k : List Call) → final W s (l ++ k) ≡ final W (final W s l) k
unfolding final
final_append W s [] k = refl
final_append W s (c ∷ l) k = final_append W (after W s c) l k

pub final_last : (W : World) (s : State) (l : List Call) (c : Call) → final W s (l ++ (c ∷ [])) ≡ after W (final W s l) c
unfolding final
final_last W s l c = final_append W s l (c ∷ [])

pub accepted_after : (W : World) (A : ℕ) (x : Bytes) (p l : List Call) (b : ℕ) → Granted W A (left_by W x p) l b → Accepted W A x (p ++ l) b
accepted_after W A x p [] b g = absurd g
accepted_after W A x p (c ∷ l) b (inl g) = record {
  before = p;
  request = g.request;
  rest = l;
  made = ap (λ (z : Call). p ++ (z ∷ l)) g.asked;
  device = g.device;
  given = g.given;
  card = g.card;
  direction = g.direction;
  from = g.from;
  to = g.to;
}
accepted_after W A x p (c ∷ l) b (inr g) =
    subst (λ (z : List Call). Accepted W A x z b) (append_assoc p (c ∷ []) l)
    (accepted_after W A x (p ++ (c ∷ [])) l b (subst (λ (s : State). Granted W A s l b) (sym (final_last W (at_set_up x) p c)) g))

pub accepted_from : (W : World) (A : ℕ) (x : Bytes) (l : List Call) (b : ℕ) → Granted W A (at_set_up x) l b → Accepted W A x l b
unfolding final
accepted_from W A x l b g = accepted_after W A x [] l b g
