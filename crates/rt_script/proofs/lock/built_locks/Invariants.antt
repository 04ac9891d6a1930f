use Rattle.std.proofs.Common.{◌≡◌, take}
use Rattle.std.specs.Prelude.{count_by}
use Rattle.rt_script.specs.Building.{is_local, built_locks}
use Rattle.rt_script.proofs.lock.built_locks.Given as goal

abbrev pub invariant-loop-n : goal.invariant-loop-n
invariant-loop-n l = record { locks : l.locks.items ≡ take l.n (built_locks l.cpus l.kinds); cells : l.cells ≡ count_by is_local (take l.n l.kinds) }
