use Rattle.std.proofs.Common.{◌≡◌, map, take}
use Rattle.rt_base.specs.Script.{TaskLine}
use Rattle.rt_model.specs.State.{fresh_thread, kinds_in}
use Rattle.rt_parts.proofs.start.threads.Given as goal

abbrev pub invariant-loop-t : goal.invariant-loop-t
invariant-loop-t l = l.threads.items ≡ map (λ (line : TaskLine). fresh_thread (kinds_in l.script) line.calls line.cpu) (take l.t l.script.tasks)
