use Rattle.std.proofs.Common.{◌≡◌, [], ◌∷◌, ◌++◌, List, sym, ap, ◌∙◌, arith}
use Rattle.cache.specs.declared.queue.Descriptor.{Descriptor}
use Rattle.cache.specs.declared.queue.Descriptor.TheVariants.{Wait}
use Rattle.cache.specs.Held.{held}
use Rattle.cache.specs.Posted.{posted}
use Rattle.cache.specs.Descriptors.{posts, after_wait, after_run}
use Rattle.cache.proofs.Running.{posts_none, page_posted, wait_posted, posts_behind, posts_run}
use Rattle.cache.proofs.queue.Queue.invalidate.Goals as goal

pub loop-i-init : goal.loop-i-init
loop-i-init c = c.requires.empty ∙ sym (posts_none c.args.card c.args.first.0)

pub loop-i-preserved : goal.loop-i-preserved
loop-i-preserved c = c.post.ensures.left ∙ page_posted c.args.card c.args.first.0 c.loop-i.i _ c.loop-i.invariant (omega arith)

pub returns : goal.returns
returns c =
    let card = c.args.card in
    let p = c.args.first.0 in
    let n = c.args.count in
    let pages : posted c.loop-i.self ≡ posts card p n = c.loop-i.invariant ∙ ap (posts card p) (omega arith) in
    let all : posted c.post-2.new.self ≡ posts card p n ++ Wait ∷ [] = c.post-2.ensures.left ∙ wait_posted card p n _ pages (omega arith) in
    record {
      queue = c.run.ensures.queue ∙ ap after_wait all ∙ posts_behind card p n [];
      cache = c.run.ensures.cache ∙ ap (λ (ds : List Descriptor). after_run ds (held c.args.cache.now)) all ∙ posts_run card p n [] (held c.args.cache.now);
    }
