use Rattle.isolation.proofs.Example.{example}
use Rattle.isolation.proofs.example_holds.Goals as goal

pub returns : goal.returns
returns c = example
