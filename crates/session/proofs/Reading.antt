-- A script read record by record, each made a step.
use Rattle.std.proofs.Common.{◌≡◌, ℕ, ◌≤◌, List, [], ◌∷◌, ◌++◌, length, take, Some, None, Ok, Err, refl, ap, sym, ◌∙◌, append_assoc, arith}
use Rattle.std.proofs.Common.{append-nil}
use Rattle.units.specs.declared.fault.Fault.{Fault}
use Rattle.meaning.specs.Calls.{Call}
use Rattle.script.specs.declared.reader.Reader.{Reader}
use Rattle.script.specs.Items.{Item}
use Rattle.script.specs.Format.{Parsed, end, refused, found, answer_of, on_from}
use Rattle.script.specs.Readers.{script_of, place_of, ahead}
use Rattle.script.specs.Scripts.{Script, go_on, read_from, read_all}
use Rattle.script.proofs.Turns.{goes_on}
use Rattle.runs.specs.declared.command.Step.{Step}
use Rattle.runs.specs.Commands.{call_of, calls_of}
use Rattle.session.specs.Asking.{calls_for}

-- What stands at a place, by what a reader answers there --------------------------------------------------

item_found : (p : Parsed) (i : Item) (at : ℕ) → Ok (Some i) ≡ answer_of p → p ≡ found i (on_from at p)
item_found end i at e = absurd (cc)
item_found (refused f) i at e = absurd (cc)
item_found (found j next) i at e = let same : j ≡ i = cc in ap (λ (x : Item). found x next) same

end_found : (p : Parsed) → Ok None ≡ answer_of p → p ≡ end
end_found end e = refl
end_found (refused f) e = absurd (cc)
end_found (found j next) e = absurd (cc)

refusal_found : (p : Parsed) (f : Fault) → Err f ≡ answer_of p → p ≡ refused f
refusal_found end f e = absurd (cc)
refusal_found (refused g) f e = let same : g ≡ f = cc in ap refused same
refusal_found (found j next) f e = absurd (cc)

-- Steps ---------------------------------------------------------------------------------------------------

calls_push : (xs : List Step) (s : Step) → calls_of (xs ++ s ∷ []) ≡ calls_of xs ++ call_of s ∷ []
unfolding calls_of
calls_push [] s = refl
calls_push (x ∷ xs) s = ap (λ (l : List Call). call_of x ∷ l) (calls_push xs s)

calls_none : calls_of [] ≡ []
unfolding calls_of
calls_none = refl

-- the steps so far make the calls of the records so far, and the rest of the script stands ahead of the reader
pub record Read (bytes : List ℕ) (r : Reader) (steps : List Step) : Type 0 where
  pub script : script_of r ≡ take 16384 bytes
  pub place : place_of r ≤ length (script_of r)
  pub calls : calls_of steps ++ calls_for (read_from (script_of r) (place_of r)).items ≡ calls_for (read_all bytes).items
  pub refusal : (read_from (script_of r) (place_of r)).refusal ≡ (read_all bytes).refusal

pub read_start : (bytes : List ℕ) (r : Reader) (steps : List Step) → script_of r ≡ take 16384 bytes → place_of r ≡ 0 → steps ≡ [] → Read bytes r steps
read_start bytes r steps s p e =
    let same : read_from (script_of r) (place_of r) ≡ read_all bytes = ap (λ (x : List ℕ). read_from x (place_of r)) s ∙ ap (read_from (take 16384 bytes)) p in
    let none : calls_of steps ≡ [] = ap calls_of e ∙ calls_none in
    record {
      script = s;
      place = omega arith;
      calls = ap (λ (l : List Call). l ++ calls_for (read_from (script_of r) (place_of r)).items) none ∙ ap (λ (x : Script). calls_for x.items) same;
      refusal = ap (λ (x : Script). x.refusal) same;
    }

module _ (bytes : List ℕ) (r : Reader) (steps : List Step) (h : Read bytes r steps) where
  onward : (p : Parsed) → ahead r ≡ p → read_from (script_of r) (place_of r) ≡ go_on (read_from (script_of r)) p
  onward p e = goes_on (script_of r) (place_of r) ∙ ap (go_on (read_from (script_of r))) e

  -- one record more
  pub read_more : (i : Item) (r' : Reader) (s : Step) (more : List Step) → Ok (Some i) ≡ answer_of (ahead r) → place_of r' ≡ on_from (place_of r) (ahead r)
      → script_of r' ≡ script_of r → place_of r' ≤ length (script_of r') → call_of s ∷ [] ≡ calls_for (i ∷ []) → more ≡ steps ++ s ∷ [] → Read bytes r' more
  read_more i r' s more a p same within c e =
      let rest : read_from (script_of r) (place_of r) ≡ go_on (read_from (script_of r)) (found i (place_of r')) =
      onward (found i (place_of r')) (item_found (ahead r) i (place_of r) a ∙ ap (found i) (sym p)) in
      let there : read_from (script_of r') (place_of r') ≡ read_from (script_of r) (place_of r') = ap (λ (x : List ℕ). read_from x (place_of r')) same in
      let later : List Call = calls_for (read_from (script_of r) (place_of r')).items in
      let first : calls_of more ≡ calls_of steps ++ calls_for (i ∷ []) = ap calls_of e ∙ calls_push steps s ∙ ap (λ (l : List Call). calls_of steps ++ l) c in
      record {
        script = same ∙ h.script;
        place = within;
        calls = ap (λ (x : Script). calls_of more ++ calls_for x.items) there ∙ ap (λ (l : List Call). l ++ later) first ∙ append_assoc (calls_of steps) (calls_for (i ∷ [])) later
            ∙ sym (ap (λ (x : Script). calls_of steps ++ calls_for x.items) rest) ∙ h.calls;
        refusal = ap (λ (x : Script). x.refusal) there ∙ sym (ap (λ (x : Script). x.refusal) rest) ∙ h.refusal;
      }

  all_calls : (p : Parsed) → ahead r ≡ p → (go_on (read_from (script_of r)) p).items ≡ [] → calls_of steps ≡ calls_for (read_all bytes).items
  all_calls p e none =
      let last : (read_from (script_of r) (place_of r)).items ≡ [] = ap (λ (x : Script). x.items) (onward p e) ∙ none in
      sym (append-nil (calls_of steps)) ∙ sym (ap (λ (l : List Item). calls_of steps ++ calls_for l) last) ∙ h.calls

  -- the end, and a refusal
  pub read_end : Ok None ≡ answer_of (ahead r) → (calls_of steps ≡ calls_for (read_all bytes).items) × (None ≡ (read_all bytes).refusal)
  read_end a =
      let e = end_found (ahead r) a in
      (all_calls end e refl, sym (ap (λ (x : Script). x.refusal) (onward end e)) ∙ h.refusal)

  pub read_refused : (f : Fault) → Err f ≡ answer_of (ahead r) → (calls_of steps ≡ calls_for (read_all bytes).items) × (Some f ≡ (read_all bytes).refusal)
  read_refused f a =
      let e = refusal_found (ahead r) f a in
      (all_calls (refused f) e refl, sym (ap (λ (x : Script). x.refusal) (onward (refused f) e)) ∙ h.refusal)
