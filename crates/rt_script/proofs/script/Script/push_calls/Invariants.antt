use Rattle.std.proofs.Common.{◌≡◌, ◌++◌, take, flat_map}
use Rattle.rt_script.specs.Canonical.{calls_text}
use Rattle.rt_script.proofs.script.Script.push_calls.Given as goal

abbrev pub invariant-loop-task : goal.invariant-loop-task
invariant-loop-task l = l.out.items ≡ l.initial.out.items ++ flat_map (calls_text l.self) (take l.task-index l.self.tasks)
