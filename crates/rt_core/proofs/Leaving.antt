-- What the steps of an event leave of the shared parts.
use Rattle.std.proofs.Common.{◌≡◌, ◌∙◌, ℕ, zero, suc, ◌<◌, Bool, true, false, cond, List, [], ◌∷◌, length, refl, sym, ap, subst, Option, Some, None, IfSome, is_some}
use Rattle.rt_base.specs.declared.id.LockId.{LockId}
use Rattle.rt_base.specs.declared.id.TaskId.{TaskId}
use Rattle.rt_model.specs.declared.event.Event.{Event}
use Rattle.rt_model.specs.declared.event_kind.EventKind.{EventKind}
use Rattle.rt_model.specs.declared.event_kind.EventKind.TheVariants as kinds
use Rattle.rt_model.specs.declared.phase.Phase.{Phase}
use Rattle.rt_model.specs.Parts.{OwnerPart, TaskPart, ThreadPart}
use Rattle.rt_model.specs.State.{Shared, free_lock, lock_in}
use Rattle.rt_model.specs.steps.Task.{refreshed, restored, leave_queue, interrupted}
use Rattle.rt_model.specs.Effect.{Touched}
use Rattle.rt_model.specs.Rules.{touched}
use Rattle.rt_model.specs.StateAfter.{update, at_lock, at_task, shared_after}
use Rattle.rt_model.proofs.Lists.{length-update, length-at_task, at_lock-none, at_task-none}
use Rattle.rt_model.proofs.PartsAfter.{read-update}
use Rattle.rt_core.specs.Fits.{thread_moved}

-- ---- one step after another

-- as many locks and tasks are there as before
pub record SameMany (sh left : Shared) : Type 0 where
  pub locks : length left.locks ≡ length sh.locks
  pub tasks : length left.tasks ≡ length sh.tasks

pub lock-many : (sh left : Shared) (i : ℕ) (f : OwnerPart → OwnerPart) → left ≡ record sh { locks = update sh.locks i f } → SameMany sh left
lock-many sh left i f is = subst (SameMany sh) (sym is) (record { locks = length-update sh.locks i f; tasks = refl })

pub task-many : (sh left : Shared) (i : ℕ) (f : TaskPart → TaskPart) → left ≡ record sh { tasks = update sh.tasks i f } → SameMany sh left
task-many sh left i f is = subst (SameMany sh) (sym is) (record { locks = refl; tasks = length-update sh.tasks i f })

pub named-many : (sh left : Shared) (o : Option TaskId) (f : TaskPart → TaskPart) → left ≡ record sh { tasks = at_task sh.tasks o f } → SameMany sh left
named-many sh left o f is = subst (SameMany sh) (sym is) (record { locks = refl; tasks = length-at_task sh.tasks o f })

pub both-many : (sh mid left : Shared) → SameMany sh mid → SameMany mid left → SameMany sh left
both-many sh mid left first then = record { locks = then.locks ∙ first.locks; tasks = then.tasks ∙ first.tasks }

pub lock-stays : (sh left : Shared) (i : ℕ) → SameMany sh left → i < length sh.locks → i < length left.locks
lock-stays sh left i same lt = subst (λ (n : ℕ). i < n) (sym same.locks) lt

pub task-stays : (sh left : Shared) (i : ℕ) → SameMany sh left → i < length sh.tasks → i < length left.tasks
task-stays sh left i same lt = subst (λ (n : ℕ). i < n) (sym same.tasks) lt

pub named-stays : (sh left : Shared) (o : Option TaskId) → SameMany sh left → IfSome o (λ t. t.0 < length sh.tasks) → IfSome o (λ t. t.0 < length left.tasks)
named-stays sh left o same lt = subst (λ (n : ℕ). IfSome o (λ t. t.0 < n)) (sym same.tasks) lt

-- two updates of one element are one
pub update-twice : {X : Type 0} (xs : List X) (i : ℕ) (f g : X → X) → update (update xs i f) i g ≡ update xs i (λ x. g (f x))
update-twice [] i f g = refl
update-twice (x ∷ xs) zero f g = refl
update-twice (x ∷ xs) (suc i) f g = ap (λ ys. x ∷ ys) (update-twice xs i f g)

-- a lock is changed, then a task, and then one that keeps the top of the lock as it is left
abbrev pub refreshed_after : Shared → LockId → (OwnerPart → OwnerPart) → TaskId → (TaskPart → TaskPart) → Option TaskId → OwnerPart → Shared
refreshed_after sh l f t g o lock = record sh { locks = update sh.locks l.0 f; tasks = at_task (update sh.tasks t.0 g) o (refreshed (Some l) lock.rows) }

pub refresh-left : (sh a b left : Shared) (l : LockId) (f : OwnerPart → OwnerPart) (t : TaskId) (g : TaskPart → TaskPart) (o : Option TaskId) → l.0 < length sh.locks
    → a ≡ record sh { locks = update sh.locks l.0 f } → b ≡ record a { tasks = update a.tasks t.0 g } → left ≡ record b { tasks = at_task b.tasks o (refreshed (Some l) (lock_in b l).rows) }
    → left ≡ refreshed_after sh l f t g o (f (lock_in sh l))
refresh-left sh a b left l f t g o lt is_a is_b is =
    let first : Shared = record sh { locks = update sh.locks l.0 f } in
    let then : b ≡ record first { tasks = update first.tasks t.0 g } = is_b ∙ ap (λ (x : Shared). record x { tasks = update x.tasks t.0 g }) is_a in
    is ∙ (ap (λ (x : Shared). record x { tasks = at_task x.tasks o (refreshed (Some l) (lock_in x l).rows) }) then
    ∙ ap (refreshed_after sh l f t g o) (read-update sh.locks l.0 f free_lock lt))

-- a task leaves a queue once its signal isn't pending, or the other way round
interrupted-cleared : (spinning : Bool) (task : TaskPart) → leave_queue spinning (record task { signal = false }) ≡ interrupted spinning task
interrupted-cleared spinning task = by_tests spinning (is_some task.blocked)
  where
    by_tests : (spinning queued : Bool) → cond queued (record (restored spinning (record task { signal = false })) { blocked = None }) (record task { signal = false })
        ≡ record (cond queued (record (restored spinning task) { blocked = None }) task) { signal = false }
    by_tests true true = refl
    by_tests false true = refl
    by_tests spinning false = refl

-- so of two updates
pub left-interrupted : (sh : Shared) (i : ℕ) (spinning : Bool) → update (update sh.tasks i (λ task. record task { signal = false })) i (leave_queue spinning) ≡ update sh.tasks i (interrupted spinning)
left-interrupted sh i spinning =
    update-twice sh.tasks i (λ task. record task { signal = false }) (leave_queue spinning)
    ∙ ap (update sh.tasks i) (λ j task. interrupted-cleared spinning task j)

-- ---- by the kind

-- an event of this kind on this lock
pub left-at : (sh : Shared) (thread : ThreadPart) (e : Event) (kind : EventKind) (l : LockId) → e.kind ≡ kind → e.lock ≡ Some l → shared_after sh thread (record e { kind = kind; lock = Some l }) ≡ shared_after sh thread e
left-at sh thread e kind l is named = sym (λ i. shared_after sh thread (record e { kind = is i; lock = named i }))

-- an event of this kind, wherever it is
pub kind-left : (sh : Shared) (thread : ThreadPart) (e : Event) (kind : EventKind) → e.kind ≡ kind → shared_after sh thread (record e { kind = kind }) ≡ shared_after sh thread e
kind-left sh thread e kind is = sym (λ i. shared_after sh thread (record e { kind = is i }))

-- a thread that an event, which comes about as x, leaves in a phase that is told by the parts that are left
pub told-moved : (sh left : Shared) (thread moved : ThreadPart) (e x : Event) (phase : Shared → Phase) → x ≡ e → thread_moved sh thread x ≡ record thread { phase = phase (shared_after sh thread x) }
    → left ≡ shared_after sh thread e → moved ≡ record thread { phase = phase left } → moved ≡ thread_moved sh thread e
told-moved sh left thread moved e x phase is tells is_left is_moved =
    let all = is_left ∙ sym (ap (shared_after sh thread) is) in
    is_moved ∙ (ap (λ (y : Shared). record thread { phase = phase y }) all ∙ (sym tells ∙ ap (thread_moved sh thread) is))

-- parts that are touched and left as they were
pub untouched : (sh : Shared) (named : Touched) → sh ≡ record {
  locks = at_lock sh.locks named.lock (λ lock. lock);
  readers = at_lock sh.readers named.readers (λ readers. readers);
  tasks = at_task (at_task (at_task (at_task sh.tasks named.own (λ task. task)) named.owner (λ task. task)) named.other (λ task. task)) named.woken (λ task. task);
}
untouched sh named =
    let each : (xs : List TaskPart) (o : Option TaskId) → at_task xs o (λ task. task) ≡ xs = λ xs o. at_task-none xs o (λ task. task) (λ task. refl) in
    let own = each sh.tasks named.own in
    let owner = each (at_task sh.tasks named.own (λ task. task)) named.owner ∙ own in
    let other = each (at_task (at_task sh.tasks named.own (λ task. task)) named.owner (λ task. task)) named.other ∙ owner in
    let woken = each (at_task (at_task (at_task sh.tasks named.own (λ task. task)) named.owner (λ task. task)) named.other (λ task. task)) named.woken ∙ other in
    let locks = at_lock-none sh.locks named.lock (λ lock. lock) (λ lock. refl) in
    let readers = at_lock-none sh.readers named.readers (λ readers. readers) (λ readers. refl) in
    sym (λ i. record { locks = locks i; readers = readers i; tasks = woken i })

-- the end of a walk, and a walk that begins anew, leave all as it was but their thread
pub end-left : (sh : Shared) (thread : ThreadPart) (e : Event) → e.kind ≡ kinds.WalkEnd → sh ≡ shared_after sh thread e
end-left sh thread e is = untouched sh (touched kinds.WalkEnd e) ∙ kind-left sh thread e kinds.WalkEnd is

pub restart-left : (sh : Shared) (thread : ThreadPart) (e : Event) → e.kind ≡ kinds.Restart → sh ≡ shared_after sh thread e
restart-left sh thread e is = untouched sh (touched kinds.Restart e) ∙ kind-left sh thread e kinds.Restart is

-- an answer of its own thread leaves all as it was
pub own-left : (sh : Shared) (thread : ThreadPart) (e : Event) → e.kind ≡ kinds.Own → sh ≡ shared_after sh thread e
own-left sh thread e is = untouched sh (touched kinds.Own e) ∙ kind-left sh thread e kinds.Own is

-- and so does a lock that is found taken, or shut
pub busy-left : (sh : Shared) (thread : ThreadPart) (e : Event) → e.kind ≡ kinds.Busy → sh ≡ shared_after sh thread e
busy-left sh thread e is = untouched sh (touched kinds.Busy (record e { kind = kinds.Busy })) ∙ kind-left sh thread e kinds.Busy is
