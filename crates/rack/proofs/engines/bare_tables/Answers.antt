use Rattle.rack.proofs.Numbers.{all_numbers, all_tables, all_cleared}
use Rattle.rack.proofs.engines.bare_tables.Goals as goal

pub returns-clause-enough : goal.returns-clause-enough
returns-clause-enough c h =
    let ws = c.args.words.now in
    let g = all_numbers ws h in
    let t = all_tables ws h in
    let w = all_cleared ws h in
    let m = c.over.ensures.mapper in
    let e = c.set_up.ensures in
    let n = c.numbers.ensures in
    (cc, cc, cc)
