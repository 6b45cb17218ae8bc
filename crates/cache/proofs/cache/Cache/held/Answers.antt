use Rattle.std.proofs.Common.{ℕ, take, ap, ◌∙◌, arith}
use Rattle.cache.specs.Held.{held}
use Rattle.cache.proofs.Places.{first_min}
use Rattle.cache.proofs.cache.Cache.held.Goals as goal

pub returns : goal.returns
unfolding held
returns c =
    let s = c.args.self.now in ap (λ (n : ℕ). take n s.entries) c.len.ensures ∙ first_min s.entries s.count 8 (omega arith)
