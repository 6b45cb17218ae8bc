-- A run one step longer.
use Rattle.std.proofs.Common.{◌≡◌, ℕ, ◌+◌, ◌<◌, List, [], ◌∷◌, ◌++◌, length, get_or, drop, take, set, vec_items, refl, arith}
use Rattle.std.proofs.lemmas.Grind.{common_steps}
use Rattle.std.proofs.lemmas.List.{take_more, take_more_set}
use Rattle.mapper.specs.declared.laws.Meaning.{Ghosts as Meaning}
use Rattle.mapper.specs.Tasks.{task_of, Left}
use Rattle.mapper.specs.Called.{here}
use Rattle.engine.specs.declared.Engine.{Engine}
use Rattle.engine.specs.Made.{state}
use Rattle.meaning.specs.Memory.{bytes_of}
use Rattle.meaning.specs.Worlds.{World}
use Rattle.meaning.specs.Calls.{Call}
use Rattle.meaning.specs.Effects.{State, answer, after, buffer_after}
use Rattle.meaning.specs.Runs.{answers, final}
use Rattle.runs.specs.declared.command.Step.{Step}
use Rattle.runs.specs.Commands.{call_of, answer_of, commands_of, calls_of, answers_of, Buffered, MadeOne, Ran, LeftInTurn, none, next}

calls_push : (l : List Step) (s : Step) → calls_of (l ++ (s ∷ [])) ≡ calls_of l ++ (call_of s ∷ [])
unfolding calls_of
calls_push [] s = refl
calls_push (x ∷ l) s = rw (calls_push l s)

told_push : (l : List Step) (s : Step) → answers_of (l ++ (s ∷ [])) ≡ answers_of l ++ (answer_of s ∷ [])
unfolding answers_of
told_push [] s = refl
told_push (x ∷ l) s = rw (told_push l s)

commands_push : (l : List Step) (s : Step) → commands_of (l ++ (s ∷ [])) ≡ commands_of l ++ (s.command ∷ [])
unfolding commands_of
commands_push [] s = refl
commands_push (x ∷ l) s = rw (commands_push l s)

final_push : (W : World) (s : State) (l : List Call) (c : Call) → final W s (l ++ (c ∷ [])) ≡ after W (final W s l) c
unfolding final
final_push W s [] c = refl
final_push W s (b ∷ l) c = final_push W (after W s b) l c

answers_push : (W : World) (s : State) (l : List Call) (c : Call) → answers W s (l ++ (c ∷ [])) ≡ answers W s l ++ (answer W (final W s l) c ∷ [])
unfolding answers final
answers_push W s [] c = refl
answers_push W s (b ∷ l) c = rw (answers_push W (after W s b) l c)

buffered_push : (l k : List Step) (s t : Step) → Buffered l k → bytes_of (vec_items t.out) ≡ buffer_after (answer_of t) (vec_items s.out)
    → length (vec_items t.out) ≡ length (vec_items s.out) → Buffered (l ++ (s ∷ [])) (k ++ (t ∷ []))
unfolding Buffered
buffered_push [] [] s t b e f = (e, f, tt)
buffered_push [] (y ∷ k) s t b e f = absurd b
buffered_push (x ∷ l) [] s t b e f = absurd b
buffered_push (x ∷ l) (y ∷ k) s t b e f = (b.0, b.1, buffered_push l k s t b.2 e f)

pub ran_none : (W : World) (s : State) → Ran W s s [] []
unfolding commands_of answers_of calls_of answers final Buffered
ran_none W s = record { asked = refl; answered = refl; left = refl; buffered = tt }

pub ran_more : (W : World) (s t u : State) (before past : List Step) (x y : Step) → Ran W s t before past → answer_of y ≡ answer W t (call_of x) → u ≡ after W t (call_of x)
    → bytes_of (vec_items y.out) ≡ buffer_after (answer_of y) (vec_items x.out) → y.command ≡ x.command → length (vec_items y.out) ≡ length (vec_items x.out)
    → Ran W s u (before ++ (x ∷ [])) (past ++ (y ∷ []))
ran_more W s t u before past x y r a e b c n = record {
  asked = rw (commands_push, commands_push, r.asked, c);
  answered = rw (told_push, calls_push, answers_push, r.answered, a, r.left);
  left = rw (calls_push, final_push, e, r.left);
  buffered = buffered_push before past x y r.buffered b n;
}

-- the step at i has run
pub ran_step : {M : Type 0} {I : Meaning M} {e e' : Engine M} {x x' : List ℕ} (e₀ : Engine M) (x₀ : List ℕ) (old now : List Step) (i : ℕ) (y d : Step)
    → I.setup e.mapper ≡ I.setup e₀.mapper → length x ≡ length x₀ → i < length old → i < length now → drop i now ≡ drop i old
    → Ran (here I e₀.mapper x₀) (state (I.opened e₀.mapper) x₀ e₀.reports) (state (I.opened e.mapper) x e.reports) (take i old) (take i now)
    → MadeOne I e e' x x' (vec_items (get_or now i d).out) (vec_items y.out) (call_of (get_or now i d)) (answer_of y)
    → y.command ≡ (get_or now i d).command → length (vec_items y.out) ≡ length (vec_items (get_or now i d).out)
    → Ran (here I e₀.mapper x₀) (state (I.opened e₀.mapper) x₀ e₀.reports) (state (I.opened e'.mapper) x' e'.reports) (take (i + 1) old) (take (i + 1) (set now i y))
ran_step e₀ x₀ old now i y d fixed size there here' rest ran made asked kept =
    let same : get_or old i d ≡ get_or now i d = grind (arith, common_steps) in
    let a = rw (fixed, size) at made.made.answers in
    let b = rw (fixed, size) at made.made.becomes in
    rw (take_more old i d there, same, take_more_set now i y here') (ran_more _ _ _ _ _ _ _ _ ran a b made.buffer asked kept)

left_push : {M : Type 0} {I : Meaning M} {m m' m'' : M} {before past : List Step} (x y : Step) → LeftInTurn I m m' before past
    → Left I.leaves m' m'' (task_of (call_of x)) (answer_of y) → LeftInTurn I m m'' (before ++ (x ∷ [])) (past ++ (y ∷ []))
left_push x y (none m) last = next last (none _)
left_push x y (next first rest) last = next first (left_push x y rest last)

pub left_step : {M : Type 0} {I : Meaning M} {m m' m'' : M} (old now : List Step) (i : ℕ) (y d : Step) → i < length old → i < length now → drop i now ≡ drop i old
    → LeftInTurn I m m' (take i old) (take i now) → Left I.leaves m' m'' (task_of (call_of (get_or now i d))) (answer_of y)
    → LeftInTurn I m m'' (take (i + 1) old) (take (i + 1) (set now i y))
left_step old now i y d there here' rest all left =
    let same : get_or old i d ≡ get_or now i d = grind (arith, common_steps) in
    rw (take_more old i d there, same, take_more_set now i y here') (left_push _ _ all left)
