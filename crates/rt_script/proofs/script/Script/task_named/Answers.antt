use Rattle.rt_script.proofs.Naming.{named_task_within}
use Rattle.rt_script.proofs.script.Script.task_named.Goals as goal

pub returns-in-Some-Task-clause-within : goal.returns-in-Some-Task-clause-within
returns-in-Some-Task-clause-within c = named_task_within c.args.self.now c.args.name.now c.in-Some-Task.t cc
