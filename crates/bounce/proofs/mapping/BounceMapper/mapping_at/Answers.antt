use Rattle.std.proofs.Common.{cond, eqb, Some, None, sym, ap, ◌∙◌}
use Rattle.std.proofs.lemmas.Bool.{cond-true, cond-false}
use Rattle.units.specs.declared.mapping.Mapping.{Mapping}
use Rattle.meaning.specs.Mappings.{find}
use Rattle.pool.specs.Lending.{loan_in}
use Rattle.layer_steps.proofs.Over.{nothing_here, found_here}
use Rattle.bounce.proofs.Calls.{some_frames, no_frames, none_found}
use Rattle.bounce.proofs.mapping.BounceMapper.mapping_at.Goals as goal

pub returns-then-is_refused : goal.returns-then-is_refused
returns-then-is_refused g c =
    let b = c.args.self.now in
    sym (none_found b.pool.count (loan_in b.pool) (g.M.Meaning.opened b.lower) c.args.card.0 c.args.device.0 (no_frames c.is_refused.result b.pool.count c.is_refused.ensures c.if-is_refused.true))

pub returns-in_err-below : goal.returns-in_err-below
returns-in_err-below g c =
    let b = c.args.self.now in
    let some = some_frames c.is_refused.result b.pool.count c.is_refused.ensures c.if-is_refused.false in
    c.from_residual.ensures ∙ sym (nothing_here g.M.Meaning b.lower b.pool b.tied some c.args.card.0 c.args.device.0
    (ap (find (g.M.Meaning.opened b.lower) c.args.card.0) (sym c.page_start.ensures) ∙ sym c.mapping_at.ensures ∙ c.in_err-below.was))

pub returns-then-eq : goal.returns-then-eq
returns-then-eq g c =
    let b = c.args.self.now in
    let some = some_frames c.is_refused.result b.pool.count c.is_refused.ensures c.if-is_refused.false in
    let f = found_here g.M.Meaning b.lower b.pool b.tied some c.args.card.0 c.args.device.0 c.in_ok-below.below
    (ap (find (g.M.Meaning.opened b.lower) c.args.card.0) (sym c.page_start.ensures) ∙ sym c.mapping_at.ensures ∙ c.in_ok-below.was) in
    sym (f.found ∙ ap (λ (z : Mapping). cond (eqb z.device.0 c.args.device.0) (Some z) None) (sym (c.lift-mapping.ensures f.landing f.device))
    ∙ cond-true (eqb c.lift-mapping.result.device.0 c.args.device.0) (Some c.lift-mapping.result) None (sym c.eq.ensures ∙ c.if-eq.true))

pub returns-else-eq : goal.returns-else-eq
returns-else-eq g c =
    let b = c.args.self.now in
    let some = some_frames c.is_refused.result b.pool.count c.is_refused.ensures c.if-is_refused.false in
    let f = found_here g.M.Meaning b.lower b.pool b.tied some c.args.card.0 c.args.device.0 c.in_ok-below.below
    (ap (find (g.M.Meaning.opened b.lower) c.args.card.0) (sym c.page_start.ensures) ∙ sym c.mapping_at.ensures ∙ c.in_ok-below.was) in
    sym (f.found ∙ ap (λ (z : Mapping). cond (eqb z.device.0 c.args.device.0) (Some z) None) (sym (c.lift-mapping.ensures f.landing f.device))
    ∙ cond-false (eqb c.lift-mapping.result.device.0 c.args.device.0) (Some c.lift-mapping.result) None (sym c.eq.ensures ∙ c.if-eq.false))
