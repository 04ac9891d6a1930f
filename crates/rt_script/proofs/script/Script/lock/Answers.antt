use Rattle.rt_script.specs.ScriptFields.{script_of_fields}
use Rattle.rt_script.proofs.ScriptParts.{lock_fits}
use Rattle.rt_script.proofs.script.Script.lock.Goals as goal

pub returns-clause-within : goal.returns-clause-within
returns-clause-within c =
    let there = rw (← c.self.view_is) at c.requires in
    rw (← c.self.view_is) (lock_fits (script_of_fields c.self.inside) c.args.l c.self.invariant.script there)
