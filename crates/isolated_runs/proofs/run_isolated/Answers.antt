use Rattle.std.proofs.Common.{length, subst}
use Rattle.meaning.specs.Memory.{bytes_of}
use Rattle.runs.specs.Commands.{calls_of}
use Rattle.isolation.proofs.Shielding.{isolated}
use Rattle.bounce.specs.contracts.laws.BounceMeaning.TheImpl.{ghosts}
use Rattle.isolated_runs.proofs.Shields.{layer_shielding}
use Rattle.isolated_runs.proofs.run_isolated.Goals as goal

pub returns-clause-isolated : goal.returns-clause-isolated
returns-clause-isolated g c fresh A k e =
    let I = ghosts g.row.M g.M.Mapper g.M.Mapper-dict g.M.Meaning g.M.Meaning-dict in
    let m = c.args.engine.now.mapper in
    let S = I.setup m in
    isolated I.kind S I.possible (layer_shielding g.M.Meaning S (subst (λ o. I.possible S o) fresh.empty (I.standing m))) (length c.args.memory.now) A (bytes_of c.args.memory.now) (calls_of c.args.steps.now) k e
