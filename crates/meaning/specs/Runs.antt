-- Lists of calls, one after the other.
use Rattle.std.specs.Prelude.{List, [], ◌∷◌}
use Rattle.meaning.specs.Worlds.{World}
use Rattle.meaning.specs.Calls.{Call, Answer}
use Rattle.meaning.specs.Effects.{State, answer, after}

-- what each call answers
unfoldable pub answers : World → State → List Call → List Answer
answers W s [] = []
answers W s (c ∷ l) = answer W s c ∷ answers W (after W s c) l

-- what they leave
unfoldable pub final : World → State → List Call → State
final W s [] = s
final W s (c ∷ l) = final W (after W s c) l
