-- A link of a walk leaves as many locks and tasks.
use Rattle.std.proofs.Common.{◌≡◌, sym, subst, Some}
use Rattle.rt_base.specs.declared.id.LockId.{LockId}
use Rattle.rt_base.specs.declared.id.TaskId.{TaskId}
use Rattle.rt_model.specs.State.{Shared, lock_in}
use Rattle.rt_model.specs.steps.Chain.{requeued_where_old}
use Rattle.rt_model.proofs.Lists.{length-update}
use Rattle.rt_parts.specs.Links.{task_among, linked}
use Rattle.rt_parts.proofs.Linking.{linked-many}
use Rattle.rt_core.proofs.Leaving.{SameMany}

-- there are as many locks and tasks
pub linked-parts : (sh left : Shared) (u : TaskId) (l : LockId) → left ≡ linked u l sh → SameMany sh left
linked-parts sh left u l is = subst (SameMany sh) (sym is) (record {
  locks = length-update sh.locks l.0 _;
  tasks = linked-many u (lock_in sh l) (requeued_where_old (Some u) (task_among sh.tasks u) (lock_in sh l)) sh.tasks;
})
