use Rattle.std.proofs.Common.{sym, ◌∙◌, arith}
use Rattle.std.proofs.lemmas.Bool.{lt-ltb, le-ltb}
use Rattle.cache.specs.Posted.{posted}
use Rattle.cache.proofs.Places.{posted_at, posted_full, room_by_count}
use Rattle.cache.proofs.queue.Queue.post.Goals as goal

pub returns-then-self-ge16-clause-told : goal.returns-then-self-ge16-clause-told
unfolding posted
returns-then-self-ge16-clause-told c =
    let s = c.args.self.now in
    sym (room_by_count s.descriptors s.count (omega arith) ∙ le-ltb s.count 16 (omega arith))

pub returns-then-self-ge16-clause-left : goal.returns-then-self-ge16-clause-left
unfolding posted
returns-then-self-ge16-clause-left c =
    let s = c.args.self.now in posted_full s.descriptors s.count c.args.descriptor (omega arith) (omega arith)

pub returns-clause-told : goal.returns-clause-told
unfolding posted
returns-clause-told c =
    let s = c.args.self.now in
    sym (room_by_count s.descriptors s.count (omega arith) ∙ lt-ltb s.count 16 (omega arith))

pub returns-clause-left : goal.returns-clause-left
unfolding posted
returns-clause-left c =
    let s = c.args.self.now in
    posted_at s.descriptors s.count c.args.descriptor (omega arith) (omega arith)
