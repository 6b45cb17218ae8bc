-- What a layer shows of the lists that calls can lead to.
use Rattle.std.proofs.Common.{[]}
use Rattle.meaning.specs.Worlds.{Setup}
use Rattle.isolation.specs.Shielding.{Shielding}
use Rattle.mapper.specs.declared.laws.Meaning.{Ghosts as Meaning}
use Rattle.layer.specs.Choosing.{layer_kind}
use Rattle.layer.specs.Possible.{layer_possible}
use Rattle.layer.proofs.Lawful.{over_any, bounced_over_any}

pub layer_shielding : {M : Type 0} (I : Meaning M) (S : Setup) → layer_possible I.kind I.possible S [] → Shielding (layer_kind I.kind) S (layer_possible I.kind I.possible)
layer_shielding I S start = record {
  start = start;
  kept = λ o n c h. (over_any I).kept S o n c h;
  disjoint_pages = λ o h. (over_any I).disjoint_pages S o h;
  landing = λ o h. (over_any I).landing S o h;
  bounced = λ o h. bounced_over_any I S o h;
}
