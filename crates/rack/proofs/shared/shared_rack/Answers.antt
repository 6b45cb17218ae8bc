use Rattle.std.proofs.Common.{◌≡◌, ap}
use Rattle.pool.specs.Lending.{empty_pool}
use Rattle.rack.specs.Numbers.{numbers}
use Rattle.rack.proofs.Layers.{pool_granted, layer_setup}
use Rattle.rack.proofs.shared.shared_rack.Goals as goal

pub returns-clause-new : goal.returns-clause-new
returns-clause-new c =
    let t = c.bare_tables-mapper.result.mapper in
    let e = c.bare_tables-mapper.ensures in
    let b = e.enough c.told-words in
    let m = c.over-2.ensures.mapper in
    let p = c.over.ensures.pool in
    let k = ap (empty_pool 6) (pool_granted t.geometry t.count b.0 b.1 _ e.empty) in
    record { numbers = cc; words = cc; empty = cc; cache = cc; pool = cc }

pub returns-clause-setup : goal.returns-clause-setup
returns-clause-setup c =
    let b = c.bare_tables-mapper.ensures.enough c.told-words in
    let m = c.over-2.ensures.mapper in
    let l = c.over.ensures.lower in
    let r = c.over-2.result.mapper in
    let g : r.lower.geometry ≡ numbers = cc in
    let t : r.lower.count ≡ 10 = cc in
    layer_setup r.lower.geometry r.lower.count g t r.pool (returns-clause-new c).pool
