-- What a session makes of a script.
use Rattle.std.specs.Prelude.{◌≡◌, List, map, replicate, vec_items}
use Rattle.meaning.specs.Calls.{Call}
use Rattle.script.specs.Items.{Item}
use Rattle.script.specs.Scripts.{Script}
use Rattle.runs.specs.Commands.{calls_of}
use Rattle.runs.specs.Scripted.{call_for}
use Rattle.session.specs.declared.Session.{Session}

-- the call of each item, with an answer buffer of 64 bytes
abbrev pub calls_for : List Item → List Call
calls_for = map (λ i. call_for i (replicate 64 0))

-- the steps make the script's calls in their order, and the script's refusal is kept
pub record Asked (script : Script) (s : Session) : Type 0 where
  pub calls : calls_of (vec_items s.steps) ≡ calls_for script.items
  pub refusal : s.refusal ≡ script.refusal
