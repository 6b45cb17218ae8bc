use Rattle.std.proofs.Common.{◌∷◌, [], Option, Ok, ap, sym, subst, ◌∙◌}
use Rattle.meaning.specs.Calls.{Call}
use Rattle.script.specs.declared.record.Record.{Record}
use Rattle.script.specs.Items.{meant}
use Rattle.script.specs.Readers.{answered, Forward}
use Rattle.session.proofs.Reading.{read_start, read_more, read_end, read_refused}
use Rattle.session.proofs.Session.read.Goals as goal

pub loop-asked-init : goal.loop-asked-init
loop-asked-init c =
    read_start c.args.script.now c.new-reader.result c.new-steps.result.items c.new-reader.ensures.whole c.new-reader.ensures.start c.new-steps.ensures.items

pub loop-asked-preserved : goal.loop-asked-preserved
loop-asked-preserved c =
    let a = c.in-Ok-Some in
    let e = a.ensures in
    let r = c.loop-asked.reader in
    let s = c.next.new.self in
    let on = subst (λ (o : Option Record). Forward (Ok o) r s) a.field-0-is e.forward in
    read_more c.args.script.now r c.loop-asked.steps.items c.loop-asked.invariant (meant a.asked) s c.in_ok-step_for-in-Ok-Some.field-0 c.push.new.self.items
    (sym (ap (λ (o : Option Record). answered (Ok o)) a.field-0-is) ∙ e.answer) e.moved e.kept on.1
    (ap (λ (x : Call). x ∷ []) c.in_ok-step_for-in-Ok-Some.ensures) c.in_ok-push-in-Ok-Some.ensures.items

pub returns-in-Ok-None : goal.returns-in-Ok-None
returns-in-Ok-None c =
    let a = c.in-Ok-None in
    let r = read_end c.args.script.now c.loop-asked.reader c.loop-asked.steps.items c.loop-asked.invariant
    (sym (ap (λ (o : Option Record). answered (Ok o)) a.field-0-is) ∙ a.ensures.answer) in
    record { calls = r.0; refusal = r.1 }

pub returns-in-Err : goal.returns-in-Err
returns-in-Err c =
    let r = read_refused c.args.script.now c.loop-asked.reader c.loop-asked.steps.items c.loop-asked.invariant c.in-Err.fault c.in-Err.ensures.answer in
    record { calls = r.0; refusal = r.1 }
