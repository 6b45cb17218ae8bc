use Rattle.std.proofs.Common.{min, ap, ◌∙◌, arith}
use Rattle.cache.specs.Held.{held}
use Rattle.cache.specs.Entries.{without}
use Rattle.cache.proofs.Places.{first_min}
use Rattle.cache.proofs.Removing.{passed_over, kept, removed}
use Rattle.cache.proofs.cache.Cache.remove.Goals as goal

pub loop-i-preserved-then-is_of : goal.loop-i-preserved-then-is_of
loop-i-preserved-then-is_of c =
    let v = c.loop-i.invariant in
    record { count = v.count; removes = passed_over _ _ _ _ _ _ _ _ v.removes (omega arith) c.is_of.ensures c.if-is_of.true }

pub loop-i-preserved : goal.loop-i-preserved
loop-i-preserved c =
    let v = c.loop-i.invariant in
    record { count = v.count; removes = kept _ _ _ _ _ _ _ _ v.removes (omega arith) c.is_of.ensures c.if-is_of.false }

pub returns : goal.returns
unfolding held
returns c =
    let s = c.args.self.now in
    removed c.args.card.0 c.args.page.0 s.entries c.loop-i.self.entries c.loop-i.kept (min s.count 8) c.loop-i.i c.loop-i.invariant.removes (omega arith) (omega arith)
    ∙ ap (without c.args.card.0 c.args.page.0) (first_min s.entries s.count 8 (omega arith))
