-- Awake-top law.
use Rattle.std.specs.Prelude.{◌≡◌, None, IfSome}
use Rattle.rt_base.specs.declared.id.LockId.{LockId}
use Rattle.rt_base.specs.declared.state.TaskState.TheVariants.{Running}
use Rattle.rt_model.specs.Rows.{top_waiter, task_of}
use Rattle.rt_model.specs.State.{State, owner_part, task_part}

-- the top waiter of a lock that nobody owns runs
abbrev pub AwakeTopLaw : State → Type 0
AwakeTopLaw s = (l : LockId) → (owner_part s l).owner ≡ None → IfSome (top_waiter (owner_part s l).rows) (λ row. (task_part s (task_of row)).state ≡ Running)
