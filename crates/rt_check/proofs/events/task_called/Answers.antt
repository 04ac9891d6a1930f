use Rattle.std.proofs.Common.{◌∙◌, ◌<◌, length, Option, IfSome, ap, subst, sym}
use Rattle.std.proofs.lemmas.Slice.Eq.{bytes_eq-Decides}
use Rattle.rt_base.specs.declared.id.TaskId.{TaskId}
use Rattle.rt_script.specs.Names.{task_named}
use Rattle.rt_script.proofs.Lookups.{task_named-own}
use Rattle.rt_check.proofs.events.task_called.Goals as goal

pub returns-then-eq-clause-task : goal.returns-then-eq-clause-task
returns-then-eq-clause-task c =
    let same = (bytes_eq-Decides c.as_bytes.result.now c.args.name.now).0 (sym c.eq.ensures ∙ c.if-eq.true) in
    let named = sym same ∙ c.as_bytes.ensures.value ∙ c.task_name.ensures.name in
    let there : c.in-Some.t.0 < length c.args.script.now.tasks = subst (λ (o : Option TaskId). IfSome o (λ t. t.0 < length c.args.script.now.tasks)) c.in-Some.is c.requires in
    sym (ap (task_named c.args.script.now) named ∙ task_named-own c.args.script.now c.in-Some.t c.tasks-valid.ensures.valid there)
