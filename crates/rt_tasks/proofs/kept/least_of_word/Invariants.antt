use Rattle.std.proofs.Common.{ℕ}
use Rattle.rt_tasks.specs.KeptTops.{IsLeastOf}
use Rattle.rt_tasks.specs.LockSet.{IsInWord}
use Rattle.rt_tasks.proofs.kept.least_of_word.Given as goal

abbrev pub invariant-bits : goal.invariant-bits
invariant-bits l = (x : ℕ) → IsLeastOf (IsInWord l.rest l.w) l.best l.kept x → IsLeastOf (IsInWord l.word l.w) l.fn.prio l.kept x

abbrev pub decreases-bits : goal.decreases-bits
decreases-bits l = l.rest
