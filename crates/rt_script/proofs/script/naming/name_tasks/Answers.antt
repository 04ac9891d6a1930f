use Rattle.std.proofs.Common.{◌≡◌, ◌∙◌, ℕ, List, ap, subst, refl}
use Rattle.rt_base.specs.declared.id.TaskId.{TaskId}
use Rattle.rt_base.specs.Script.{TaskLine}
use Rattle.rt_script.specs.declared.named.Named.TheVariants.{Task}
use Rattle.rt_script.specs.ScriptFields.{IsNamedToo}
use Rattle.rt_script.proofs.BuiltNames.{names_task_more, names_empty}
use Rattle.rt_script.proofs.script.naming.name_tasks.Goals as goal

pub loop-t-init : goal.loop-t-init
loop-t-init c = names_empty c.new-names.result c.new-names.ensures.empty

pub loop-t-preserved : goal.loop-t-preserved
loop-t-preserved c =
    let id : TaskId = record { 0 = c.loop-t.t } in
    let name : c.as_str.result.now ≡ c.index-tasks-t.result.name = c.as_str.ensures.value ∙ ap (λ (t : TaskLine). t.name) c.task.view_is in
    let added : IsNamedToo c.loop-t.names c.index-tasks-t.result.name (Task id) c.add_name.new.names = subst (λ (n : List ℕ). IsNamedToo c.loop-t.names n (Task id) c.add_name.new.names) name c.in_ok-add_name.ensures in
    names_task_more c.loop-t.names c.add_name.new.names c.args.tasks.now c.loop-t.t c.index-tasks-t.result id c.loop-t-test.true c.index-tasks-t.is refl c.loop-t.invariant added
