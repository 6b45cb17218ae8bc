-- What a run to the wait behind a span's descriptors leaves.
use Rattle.std.proofs.Common.{List, ap, ◌∙◌}
use Rattle.cache.specs.declared.cache.Translation.{Translation}
use Rattle.cache.specs.Entries.{cached}
use Rattle.cache.specs.Descriptors.{Invalidates}
use Rattle.cache.proofs.Entries.{span_gone, span_kept}
use Rattle.cache.proofs.Running.{posts_run}

pub invalidates : Invalidates
invalidates card p n ds xs =
    let e = posts_run card p n ds xs in
    record {
      gone = λ d q within. ap (λ (ys : List Translation). cached ys d q) e ∙ span_gone card.0 p n d q xs within;
      others = λ d q out. ap (λ (ys : List Translation). cached ys d q) e ∙ span_kept card.0 p n d q xs out;
    }
