-- Steps along a chain of locks.
use Rattle.std.specs.Prelude.{ℕ, Bool, false, not, List, [], ◌∷◌, ◌++◌, Option, Some, None, option_map, is_none, nat_eq, ◌&&◌, if◌then◌else◌}
use Rattle.std.specs.List.{list_any}
use Rattle.rt_base.specs.declared.id.LockId.{LockId}
use Rattle.rt_base.specs.declared.id.TaskId.{TaskId}
use Rattle.rt_base.specs.declared.reply.Reply.{Reply}
use Rattle.rt_model.specs.declared.phase.Phase.{Phase}
use Rattle.rt_model.specs.declared.phase.Phase.TheVariants as phases
use Rattle.rt_model.specs.declared.phase.Route.{Route}
use Rattle.rt_model.specs.declared.phase.Route.TheVariants.{Full, Short}
use Rattle.rt_model.specs.declared.row.Row.{Row}
use Rattle.rt_model.specs.Parts.{OwnerPart, TaskPart, effective_of}
use Rattle.rt_model.specs.Rows.{top_changed, top_task}
use Rattle.rt_model.specs.steps.Lock.{requeued}
use Rattle.rt_model.specs.steps.Task.{refreshed}

-- ---- a link: a task, the lock on which it is blocked, and the lock's owner

-- a key is old where it isn't this priority; a task that isn't blocked has none
abbrev pub is_old : Option (LockId × ℕ) → ℕ → Bool
is_old None prio = false
is_old (Some at) prio = not (nat_eq at.1 prio)

-- the task is queued with an old key, one that isn't its effective priority
abbrev pub has_old_key : TaskPart → Bool
has_old_key task = is_old task.blocked (effective_of task)

-- the queue of the lock on which this task is blocked: where its key is old it is queued anew, with its effective priority
abbrev pub requeued_where_old : Option TaskId → TaskPart → OwnerPart → OwnerPart
requeued_where_old None task lock = lock
requeued_where_old (Some t) task lock = if has_old_key task then requeued t (effective_of task) lock else lock

-- the task's own key is its effective priority then
abbrev pub rekeyed : TaskPart → TaskPart
rekeyed task = record task { blocked = option_map (λ (at : LockId × ℕ). (at.0, effective_of task)) task.blocked }

-- the lock's owner is refreshed where the top waiter changed from the rows before to those after
abbrev pub refreshed_where_changed : Option LockId → List Row → List Row → TaskPart → TaskPart
refreshed_where_changed l before after task = if top_changed before after then refreshed l after task else task

-- where the top waiter of a lock that nobody owns changed, the new one is woken
abbrev pub newly_top : OwnerPart → OwnerPart → Option TaskId
newly_top before after = if is_none after.owner && top_changed before.rows after.rows then top_task after.rows else None

-- ---- how a walk goes on

-- a full walk's path has the link from its cursor to this lock after the others
abbrev pub followed : TaskId → LockId → Route → Route
followed u l (Full path) = Full (path ++ (u.0, l.0) ∷ [])
followed u l (Short answer) = Short answer

-- the task is one of the path
abbrev pub is_on_path : TaskId → List (ℕ × ℕ) → Bool
is_on_path t path = list_any (λ (link : ℕ × ℕ). nat_eq link.0 t.0) path

-- the links of the path before the task's own, all where it isn't on the path
abbrev pub path_before : TaskId → List (ℕ × ℕ) → List (ℕ × ℕ)
path_before t [] = []
path_before t (link ∷ path) = if nat_eq link.0 t.0 then [] else link ∷ path_before t path

-- a full walk ends at a task that isn't blocked; where it comes back to its own task its path is to be confirmed; at another
-- task of its path it ends, but where that one's key is old it stands there again, with the path cut before its link
abbrev pub full_at : TaskId → List (ℕ × ℕ) → TaskId → TaskPart → Option Phase
full_at t path o task =
    if is_none task.blocked then None
    else if nat_eq o.0 t.0 then Some (phases.Confirm path)
    else if is_on_path o path && not (has_old_key task) then None
    else Some (phases.Walk o (Full (path_before o path)))

-- a short walk goes on to a task whose key is old
abbrev pub short_at : Reply → TaskId → TaskPart → Option Phase
short_at answer o task = if has_old_key task then Some (phases.Walk o (Short answer)) else None

-- how a walk of a task goes on at another one, the owner of the lock that it left, or the one where it is to begin
-- (`rt_mutex_adjust_pi`): the phase in which it stands there, or none where it ends
abbrev pub goes_on : TaskId → Route → Option TaskId → TaskPart → Option Phase
goes_on t route None task = None
goes_on t (Full path) (Some o) task = full_at t path o task
goes_on t (Short answer) (Some o) task = short_at answer o task

-- a walk that ends leaves its task waiting
abbrev pub phase_of_walk : Option Phase → Phase
phase_of_walk (Some phase) = phase
phase_of_walk None = phases.Wait

-- but a short one gives the answer that was to come, which ends the call
abbrev pub answer_of_walk : Route → Option Phase → Option Reply
answer_of_walk (Short answer) None = Some answer
answer_of_walk route next = None
