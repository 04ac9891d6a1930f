use Rattle.std.proofs.Common.{◌≡◌, ◌++◌, take, flat_map}
use Rattle.rt_script.specs.Canonical.{call_text}
use Rattle.rt_script.proofs.script.Script.push_calls_of.Given as goal

abbrev pub invariant-loop-call : goal.invariant-loop-call
invariant-loop-call l = l.out.items ≡ l.initial.out.items ++ flat_map (call_text l.self l.task) (take l.call-index l.task.calls)
