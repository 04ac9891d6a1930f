use Rattle.rt_tasks.specs.KeptTops.{IsLeastOf}
use Rattle.rt_tasks.proofs.Tops.{IsBelow}
use Rattle.rt_tasks.proofs.kept.least_in.Given as goal

abbrev pub invariant-words : goal.invariant-words
invariant-words l = IsLeastOf (IsBelow l.locks l.w) l.fn.prio l.kept l.best
