use Rattle.std.proofs.Common.{◌≡◌, ℕ, ◌-◌, take, ap, ◌∙◌, arith}
use Rattle.cache.specs.Held.{held}
use Rattle.cache.specs.Posted.{posted}
use Rattle.cache.specs.Descriptors.{after_wait, after_run}
use Rattle.cache.proofs.Places.{first_min, moved_front}
use Rattle.cache.proofs.queue.Queue.run.Goals as goal

pub returns-clause-queue : goal.returns-clause-queue
unfolding posted
returns-clause-queue c =
    let s = c.args.self.now in
    let n = c.len-count.result in
    let t = c.run_to_wait-taken in
    let all : take n s.descriptors ≡ posted s = ap (λ (k : ℕ). take k s.descriptors) c.len-count.ensures ∙ first_min s.descriptors s.count 16 (omega arith) in
    ap (take (n - t.result)) c.copy_within.ensures.after
    ∙ moved_front s.descriptors t.result n (omega (arith, t.ensures.count)) (omega arith) ∙ t.ensures.queue ∙ ap after_wait all

pub returns-clause-cache : goal.returns-clause-cache
unfolding posted
returns-clause-cache c =
    let s = c.args.self.now in
    let all : take c.len-count.result s.descriptors ≡ posted s = ap (λ (k : ℕ). take k s.descriptors) c.len-count.ensures ∙ first_min s.descriptors s.count 16 (omega arith) in
    c.run_to_wait-taken.ensures.cache ∙ ap (λ ds. after_run ds (held c.args.cache.now)) all
