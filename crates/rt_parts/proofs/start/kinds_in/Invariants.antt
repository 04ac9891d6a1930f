use Rattle.std.proofs.Common.{◌≡◌, map, take}
use Rattle.rt_base.specs.Script.{LockLine}
use Rattle.rt_parts.proofs.start.kinds_in.Given as goal

abbrev pub invariant-loop-l : goal.invariant-loop-l
invariant-loop-l l = l.kinds.items ≡ map (λ (line : LockLine). line.kind) (take l.l l.script.locks)
