use Rattle.std.proofs.Common.{subst}
use Rattle.isolation.proofs.Shielding.{shielded}
use Rattle.bounce.specs.contracts.laws.BounceMeaning.TheImpl.{ghosts}
use Rattle.isolated_runs.proofs.Shields.{layer_shielding}
use Rattle.isolated_runs.proofs.layer_shields.Goals as goal

pub returns : goal.returns
returns g c empty n =
    let I = ghosts g.row.M g.M.Mapper g.M.Mapper-dict g.M.Meaning g.M.Meaning-dict in
    let S = I.setup c.args.layer.now in
    shielded I.kind S I.possible (layer_shielding g.M.Meaning S (subst (λ o. I.possible S o) empty (I.standing c.args.layer.now))) n
