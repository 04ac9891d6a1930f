use Rattle.std.proofs.Common.{◌≡◌, map, take, length}
use Rattle.rt_base.specs.Script.{TaskLine}
use Rattle.rt_model.specs.State.{fresh_task}
use Rattle.rt_parts.proofs.start.task_cells.Given as goal

abbrev pub invariant-loop-t : goal.invariant-loop-t
invariant-loop-t l = l.cells.items ≡ map (λ (line : TaskLine). fresh_task (length l.script.locks) line.own) (take l.t l.script.tasks)
