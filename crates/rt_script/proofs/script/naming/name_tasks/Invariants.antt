use Rattle.std.proofs.Common.{take, []}
use Rattle.rt_script.specs.ScriptFields.{NamesLines}
use Rattle.rt_script.proofs.script.naming.name_tasks.Given as goal

abbrev pub invariant-loop-t : goal.invariant-loop-t
invariant-loop-t l = NamesLines (take l.t l.tasks) [] l.names
