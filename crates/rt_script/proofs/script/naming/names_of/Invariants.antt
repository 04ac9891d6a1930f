use Rattle.std.proofs.Common.{take}
use Rattle.rt_script.specs.ScriptFields.{NamesLines}
use Rattle.rt_script.proofs.script.naming.names_of.Given as goal

abbrev pub invariant-loop-l : goal.invariant-loop-l
invariant-loop-l l = NamesLines l.tasks (take l.l l.locks) l.names
