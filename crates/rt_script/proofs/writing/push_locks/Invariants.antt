use Rattle.std.proofs.Common.{◌≡◌, ◌++◌, take}
use Rattle.rt_script.specs.Canonical.{locks_part}
use Rattle.rt_script.proofs.writing.push_locks.Given as goal

abbrev pub invariant-loop-lock : goal.invariant-loop-lock
invariant-loop-lock l = l.out.items ≡ l.initial.out.items ++ locks_part (take l.lock-index l.locks)
