use Rattle.std.proofs.Common.{◌+◌, drop, sym, ap, ◌∙◌, arith}
use Rattle.std.proofs.Math.ListN.{drop_of_length-le}
use Rattle.cache.specs.Descriptors.{after_run}
use Rattle.cache.proofs.Running.{wait_behind, wait_stops, page_behind, page_runs, end_behind, end_stops}
use Rattle.cache.proofs.queue.run_to_wait.Goals as goal

pub returns-in-Wait-clause-queue : goal.returns-in-Wait-clause-queue
returns-in-Wait-clause-queue c =
    sym (wait_behind c.args.descriptors.now c.loop-i.i _ (omega arith) c.in-Wait.is) ∙ c.loop-i.invariant.queue

pub returns-in-Wait-clause-cache : goal.returns-in-Wait-clause-cache
returns-in-Wait-clause-cache c =
    sym (wait_stops c.args.descriptors.now c.loop-i.i _ (omega arith) _ c.in-Wait.is) ∙ c.loop-i.invariant.cache

pub loop-i-preserved : goal.loop-i-preserved
loop-i-preserved c =
    let ds = c.args.descriptors.now in
    let i = c.loop-i.i in
    record {
      queue = sym (page_behind ds i _ (omega arith) _ _ c.in-Page.is) ∙ c.loop-i.invariant.queue;
      cache = ap (after_run (drop (i + 1) ds)) c.remove.ensures ∙ sym (page_runs ds i _ (omega arith) _ _ c.in-Page.is _) ∙ c.loop-i.invariant.cache;
    }

pub returns-clause-queue : goal.returns-clause-queue
returns-clause-queue c =
    let ds = c.args.descriptors.now in
    drop_of_length-le ds (omega arith) ∙ sym (end_behind ds c.loop-i.i (omega arith)) ∙ c.loop-i.invariant.queue

pub returns-clause-cache : goal.returns-clause-cache
returns-clause-cache c = sym (end_stops c.args.descriptors.now c.loop-i.i _ (omega arith)) ∙ c.loop-i.invariant.cache
