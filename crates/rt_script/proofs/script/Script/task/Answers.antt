use Rattle.rt_script.specs.ScriptFields.{script_of_fields}
use Rattle.rt_script.proofs.ScriptParts.{task_fits}
use Rattle.rt_script.proofs.script.Script.task.Goals as goal

pub returns-clause-name : goal.returns-clause-name
returns-clause-name c =
    let there = rw (← c.self.view_is) at c.requires in
    rw (← c.self.view_is) (task_fits (script_of_fields c.self.inside) c.args.t c.self.invariant.script there).name
