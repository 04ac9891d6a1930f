-- Which events change the rows of a lock and what a task is blocked on.
use Rattle.std.proofs.Common.{◌≡◌, ℕ, Bool, true, false, refl, ap, ◌∙◌, Option, Some, None}
use Rattle.std.specs.Prelude.{nat_eq}
use Rattle.rt_base.specs.Kind.{spins}
use Rattle.rt_base.specs.declared.id.LockId.{LockId}
use Rattle.rt_base.specs.declared.id.TaskId.{TaskId}
use Rattle.rt_model.specs.declared.event.Event.{Event}
use Rattle.rt_model.specs.declared.event_kind.EventKind.{EventKind}
use Rattle.rt_model.specs.declared.event_kind.EventKind.TheVariants as kinds
use Rattle.rt_base.specs.declared.state.TaskState.{TaskState}
use Rattle.rt_base.specs.declared.state.TaskState.TheVariants as states
use Rattle.rt_model.specs.declared.phase.Phase.{Phase}
use Rattle.rt_model.specs.declared.phase.Phase.TheVariants as phases
use Rattle.rt_model.specs.Parts.{OwnerPart, TaskPart, ThreadPart, effective_of, kind_of, kind_named, call_of}
use Rattle.rt_model.specs.steps.Task.{rest_of, saved_for, restored}
use Rattle.rt_model.specs.events.Readers.{writer_rests}
use Rattle.rt_model.specs.State.{State, shared, owner_part, task_part, thread_part}
use Rattle.rt_model.specs.Effect.{Around, around}
use Rattle.rt_model.specs.Rules.{touched, effect}
use Rattle.rt_model.specs.StateAfter.{state_after}
use Rattle.rt_model.specs.laws.Shape.{IsShaped}
use Rattle.rt_model.proofs.CellStepLemmas.{leave_queue-blocked, with_top-blocked, woken_by-like, lock_woken-like, where_changed-blocked, rekeyed-blocking}
use Rattle.rt_model.proofs.Numbers.{other_number}
use Rattle.rt_model.proofs.PartsAfter.{OthersKeep, lock-kept, task-keeps, other-keeps, own-made}
use Rattle.rt_model.proofs.Waiters.{blocking}
use Rattle.rt_model.proofs.Within.{task_room}
use Rattle.rt_model.proofs.events.Acquire.{IsTake}
use Rattle.rt_model.proofs.events.Wait.{IsWait}

-- a task comes into a queue, leaves it, or is queued anew
abbrev pub moves : EventKind → Bool
moves kinds.Take = true
moves kinds.Wait = true
moves kinds.Leave = true
moves kinds.Cycle = true
moves kinds.Walk = true
moves _ = false

-- another task than the event's own is queued anew
abbrev pub requeues : EventKind → Bool
requeues kinds.Walk = true
requeues _ = false

-- ---- a sleep for readers leaves what a task is blocked on

pub restored-blocked : (spinning : Bool) (task : TaskPart) → (restored spinning task).blocked ≡ task.blocked
restored-blocked true task = refl
restored-blocked false task = refl

saved_for-blocked : (rest : TaskState) (task : TaskPart) → (saved_for rest task).blocked ≡ task.blocked
saved_for-blocked states.LockWait task = refl
saved_for-blocked states.Running task = refl
saved_for-blocked states.Interruptible task = refl
saved_for-blocked states.Uninterruptible task = refl

pub writer_rests-blocked : (phase : Phase) (rest : TaskState) (task : TaskPart) → (writer_rests phase rest task).blocked ≡ task.blocked
writer_rests-blocked phases.WWait rest task = refl
writer_rests-blocked _ rest task = saved_for-blocked rest task

-- ---- told by the kind

rows-left : (kind : EventKind) (e : Event) (th : ThreadPart) (found : Around) → moves kind ≡ false → (lock : OwnerPart) → ((effect kind e th found).lock lock).rows ≡ lock.rows
rows-left kinds.Take e th found is lock = cc
rows-left kinds.Wait e th found is lock = cc
rows-left kinds.Leave e th found is lock = cc
rows-left kinds.Cycle e th found is lock = cc
rows-left kinds.Walk e th found is lock = cc
rows-left _ e th found is lock = refl

blocked-own : (b : Option (LockId × ℕ)) (kind : EventKind) (e : Event) (th : ThreadPart) → moves kind ≡ false
    → (found : Around) (lock : OwnerPart) (task : TaskPart) → task.blocked ≡ b → ((effect kind e th found).own lock task).blocked ≡ b
blocked-own b kinds.Take e th is found lock task was = cc
blocked-own b kinds.Wait e th is found lock task was = cc
blocked-own b kinds.Leave e th is found lock task was = cc
blocked-own b kinds.Cycle e th is found lock task was = cc
blocked-own b kinds.WTake e th is found lock task was = restored-blocked (spins (kind_named th e.lock)) task ∙ was
blocked-own b kinds.WSleep e th is found lock task was = writer_rests-blocked th.phase (rest_of (kind_named th e.lock) (call_of th)) task ∙ was
blocked-own b kinds.Give e th is found lock task was = with_top-blocked e.lock _ task ∙ was
blocked-own b _ e th is found lock task was = was

blocked-others : (b : Option (LockId × ℕ)) (kind : EventKind) (e : Event) (th : ThreadPart) → requeues kind ≡ false → (found : Around) (lock : OwnerPart) → OthersKeep (λ task. task.blocked ≡ b) (effect kind e th found) lock
blocked-others b kinds.Walk e th is found lock = cc
blocked-others b kinds.Wait e th is found lock = record { owner = λ task was. with_top-blocked e.lock _ task ∙ was; other = λ task was. was; woken = λ task was. was }
blocked-others b kinds.Leave e th is found lock = record { owner = λ task was. with_top-blocked e.lock _ task ∙ was; other = λ task was. was; woken = λ task was. was }
blocked-others b kinds.Cycle e th is found lock = record { owner = λ task was. with_top-blocked e.lock _ task ∙ was; other = λ task was. was; woken = λ task was. was }
blocked-others b kinds.Wake e th is found lock = record { owner = λ task was. was; other = λ task was. (woken_by-like e.value task).blocked ∙ was; woken = λ task was. was }
blocked-others b kinds.WWake e th is found lock = record { owner = λ task was. was; other = λ task was. was; woken = λ task was. (lock_woken-like (spins (kind_named th e.lock)) task).blocked ∙ was }
blocked-others b kinds.Give e th is found lock = record { owner = λ task was. was; other = λ task was. was; woken = λ task was. (lock_woken-like (spins (kind_named th e.lock)) task).blocked ∙ was }
blocked-others b _ e th is found lock = record { owner = λ task was. was; other = λ task was. was; woken = λ task was. was }

-- an event of this kind changes on which lock its own task is blocked
abbrev pub changes_own : EventKind → Bool
changes_own kinds.Take = true
changes_own kinds.Wait = true
changes_own kinds.Leave = true
changes_own kinds.Cycle = true
changes_own _ = false

blocking-own : (b : Option LockId) (kind : EventKind) (e : Event) (th : ThreadPart) → changes_own kind ≡ false
    → (found : Around) (lock : OwnerPart) (task : TaskPart) → blocking task.blocked ≡ b → blocking ((effect kind e th found).own lock task).blocked ≡ b
blocking-own b kinds.Take e th is found lock task was = cc
blocking-own b kinds.Wait e th is found lock task was = cc
blocking-own b kinds.Leave e th is found lock task was = cc
blocking-own b kinds.Cycle e th is found lock task was = cc
blocking-own b kinds.WTake e th is found lock task was = ap blocking (restored-blocked (spins (kind_named th e.lock)) task) ∙ was
blocking-own b kinds.WSleep e th is found lock task was = ap blocking (writer_rests-blocked th.phase (rest_of (kind_named th e.lock) (call_of th)) task) ∙ was
blocking-own b kinds.Give e th is found lock task was = ap blocking (with_top-blocked e.lock _ task) ∙ was
blocking-own b _ e th is found lock task was = was

blocking-others : (b : Option LockId) (kind : EventKind) (e : Event) (th : ThreadPart) (found : Around) (lock : OwnerPart) → OthersKeep (λ task. blocking task.blocked ≡ b) (effect kind e th found) lock
blocking-others b kinds.Walk e th found lock = record {
  owner = λ task was. ap blocking (where_changed-blocked e.lock found.lock.rows lock.rows task) ∙ was;
  other = λ task was. rekeyed-blocking task ∙ was;
  woken = λ task was. ap blocking (lock_woken-like (spins (kind_named th e.lock)) task).blocked ∙ was;
}
blocking-others b kinds.Wait e th found lock = record { owner = λ task was. ap blocking (with_top-blocked e.lock _ task) ∙ was; other = λ task was. was; woken = λ task was. was }
blocking-others b kinds.Leave e th found lock = record { owner = λ task was. ap blocking (with_top-blocked e.lock _ task) ∙ was; other = λ task was. was; woken = λ task was. was }
blocking-others b kinds.Cycle e th found lock = record { owner = λ task was. ap blocking (with_top-blocked e.lock _ task) ∙ was; other = λ task was. was; woken = λ task was. was }
blocking-others b kinds.Wake e th found lock = record { owner = λ task was. was; other = λ task was. ap blocking (woken_by-like e.value task).blocked ∙ was; woken = λ task was. was }
blocking-others b kinds.WWake e th found lock = record { owner = λ task was. was; other = λ task was. was; woken = λ task was. ap blocking (lock_woken-like (spins (kind_named th e.lock)) task).blocked ∙ was }
blocking-others b kinds.Give e th found lock = record { owner = λ task was. was; other = λ task was. was; woken = λ task was. ap blocking (lock_woken-like (spins (kind_named th e.lock)) task).blocked ∙ was }
blocking-others b _ e th found lock = record { owner = λ task was. was; other = λ task was. was; woken = λ task was. was }

-- ---- of an event

-- none changes on which lock another task than its own is blocked
pub blocking-other : (s : State) (e : Event) (u : TaskId) → nat_eq e.task.0 u.0 ≡ false → blocking (task_part (state_after s e) u).blocked ≡ blocking (task_part s u).blocked
blocking-other s e u ne = other-keeps (λ task. blocking task.blocked ≡ blocking (task_part s u).blocked) s e u ne refl (blocking-others (blocking (task_part s u).blocked) e.kind e (thread_part s e.task))

-- nor with which key, unless it queues it anew
pub blocked-other : (s : State) (e x : Event) (u : TaskId) → e ≡ x → requeues x.kind ≡ false → nat_eq e.task.0 u.0 ≡ false → (task_part (state_after s e) u).blocked ≡ (task_part s u).blocked
blocked-other s e x u is kept ne =
    other-keeps (λ task. task.blocked ≡ (task_part s u).blocked) s e u ne refl
    (blocked-others (task_part s u).blocked e.kind e (thread_part s e.task) (ap (λ (y : Event). requeues y.kind) is ∙ kept))

-- one that moves no task, that comes about as x
pub rows-kept : (s : State) (e x : Event) (m : LockId) → e ≡ x → moves x.kind ≡ false → (owner_part (state_after s e) m).rows ≡ (owner_part s m).rows
rows-kept s e x m is unmoved =
    lock-kept (λ lock. lock.rows ≡ (owner_part s m).rows) s e x m is refl
    (λ lock was. rows-left x.kind x (thread_part s x.task) (around (shared s) (touched x.kind x)) unmoved lock ∙ was)

unmoved_kept : (kind : EventKind) → moves kind ≡ false → requeues kind ≡ false
unmoved_kept kinds.Walk is = cc
unmoved_kept _ is = refl

pub blocked-kept : (s : State) (e x : Event) (u : TaskId) → e ≡ x → moves x.kind ≡ false → (task_part (state_after s e) u).blocked ≡ (task_part s u).blocked
blocked-kept s e x u is unmoved =
    let still : moves e.kind ≡ false = ap (λ (y : Event). moves y.kind) is ∙ unmoved in
    task-keeps (λ task. task.blocked ≡ (task_part s u).blocked) s e u refl
    (blocked-own (task_part s u).blocked e.kind e (thread_part s e.task) still) (blocked-others (task_part s u).blocked e.kind e (thread_part s e.task) (unmoved_kept e.kind still))

-- one that queues tasks anew leaves each blocked on its lock
pub blocking-kept : (s : State) (e x : Event) (u : TaskId) → e ≡ x → changes_own x.kind ≡ false → blocking (task_part (state_after s e) u).blocked ≡ blocking (task_part s u).blocked
blocking-kept s e x u is unmoved =
    task-keeps (λ task. blocking task.blocked ≡ blocking (task_part s u).blocked) s e u refl
    (blocking-own (blocking (task_part s u).blocked) e.kind e (thread_part s e.task) (ap (λ (y : Event). changes_own y.kind) is ∙ unmoved)) (blocking-others (blocking (task_part s u).blocked) e.kind e (thread_part s e.task))

-- one that moves its task
pub take-blocked : (s : State) (t : TaskId) (e : Event) (l : LockId) → IsShaped s → IsTake s t l e → (task_part (state_after s e) t).blocked ≡ None
take-blocked s t e l shaped is =
    own-made (λ v task. task.blocked ≡ None) s e _ t t is.event refl (task_room s t shaped is.task) (record { owner = λ task was. was; other = λ task was. was; woken = λ task was. was })
    (leave_queue-blocked (spins (kind_of (thread_part s t) l)) (task_part s t)) (λ ne. absurd (other_number t.0 t.0 ne refl))

pub wait-blocked : (s : State) (t : TaskId) (e : Event) (l : LockId) → IsShaped s → IsWait s t l e → (task_part (state_after s e) t).blocked ≡ Some (l, effective_of (task_part s t))
wait-blocked s t e l shaped is =
    let at : Option (LockId × ℕ) = Some (l, effective_of (task_part s t)) in
    own-made (λ v task. task.blocked ≡ at) s e _ t t is.event refl (task_room s t shaped is.at.at.task)
    (record { owner = λ task was. was; other = λ task was. was; woken = λ task was. was }) refl (λ ne. absurd (other_number t.0 t.0 ne refl))
