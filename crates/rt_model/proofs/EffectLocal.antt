-- What an event leaves of what it touches depends on nothing else: of any event, in any two states of one size.
use Rattle.std.proofs.Common.{◌≡◌, ℕ, zero, suc, List, [], ◌∷◌, length, refl, sym, ap, ◌∙◌, arith, Option, Some, None, unwrap_or, true}
use Rattle.std.specs.Prelude.{slice_get}
use Rattle.rt_base.specs.declared.id.LockId.{LockId}
use Rattle.rt_base.specs.declared.id.TaskId.{TaskId}
use Rattle.rt_model.specs.declared.event.Event.{Event}
use Rattle.rt_model.specs.declared.obj.Obj.TheVariants as objects
use Rattle.rt_model.specs.Parts.{OwnerPart, TaskPart, ThreadPart}
use Rattle.rt_model.specs.State.{State, shared, free_lock, no_readers, no_task, of_lock, of_readers, of_task, of_thread, owner_part, reader_part, task_part, thread_part}
use Rattle.rt_model.specs.Effect.{Touched, Effect, around}
use Rattle.rt_model.specs.Rules.{touched, effect as effect_of_kind}
use Rattle.rt_model.specs.Footprint.{touches}
use Rattle.rt_model.specs.StateAfter.{update, at_lock, at_task, effect_in, lock_left, tasks_left, thread_after, state_after}
use Rattle.rt_model.specs.steps.Thread.{answered_with}
use Rattle.rt_model.specs.laws.Local.{AgreeOn}
use Rattle.rt_model.specs.laws.Shape.{SameSize}
use Rattle.rt_model.proofs.Lists.{length-at_lock, length-at_task}
use Rattle.rt_model.proofs.Touching.{touches-thread}
use Rattle.rt_model.proofs.Alike.{Alike, same-around}

-- ---- reading agreement

pub agree-thread : (s other : State) (e : Event) (t : TaskId) → AgreeOn e s other → touches e (objects.Thread t) ≡ true → thread_part other t ≡ thread_part s t
agree-thread s other e t agree at = let same : of_thread (thread_part other t) ≡ of_thread (thread_part s t) = agree (objects.Thread t) at in cc

pub agree-shared : (s other : State) (e : Event) → AgreeOn e s other → Alike e (shared s) (shared other)
agree-shared s other e agree = record {
  lock = λ l at. let same : of_lock (owner_part other l) ≡ of_lock (owner_part s l) = agree (objects.OwnerPart l) at in cc;
  readers = λ l at. let same : of_readers (reader_part other l) ≡ of_readers (reader_part s l) = agree (objects.ReaderPart l) at in cc;
  task = λ u at. let same : of_task (task_part other u) ≡ of_task (task_part s u) = agree (objects.Task u) at in cc;
}

-- ---- lists that are alike at a place, each changed at one

record IsAlike {X : Type 0} (d : X) (j : ℕ) (xs ys : List X) : Type 0 where
  long : length ys ≡ length xs
  same : unwrap_or (slice_get ys j) d ≡ unwrap_or (slice_get xs j) d

read-alike : {X : Type 0} (xs ys : List X) (i j : ℕ) (f : X → X) (d : X) → length ys ≡ length xs → unwrap_or (slice_get ys j) d ≡ unwrap_or (slice_get xs j) d
    → unwrap_or (slice_get (update ys i f) j) d ≡ unwrap_or (slice_get (update xs i f) j) d
read-alike [] [] i j f d long same = refl
read-alike [] (y ∷ ys) i j f d long same = absurd (omega (arith, long))
read-alike (x ∷ xs) [] i j f d long same = absurd (omega (arith, long))
read-alike (x ∷ xs) (y ∷ ys) zero zero f d long same = ap f same
read-alike (x ∷ xs) (y ∷ ys) zero (suc j) f d long same = same
read-alike (x ∷ xs) (y ∷ ys) (suc i) zero f d long same = same
read-alike (x ∷ xs) (y ∷ ys) (suc i) (suc j) f d long same = read-alike xs ys i j f d (omega (arith, long)) same

alike-at_lock : {X : Type 0} (d : X) (j : ℕ) (xs ys : List X) (named : Option LockId) (f : X → X) → IsAlike d j xs ys → IsAlike d j (at_lock xs named f) (at_lock ys named f)
alike-at_lock d j xs ys None f is = is
alike-at_lock d j xs ys (Some l) f is = record { long = length-at_lock ys (Some l) f ∙ (is.long ∙ sym (length-at_lock xs (Some l) f)); same = read-alike xs ys l.0 j f d is.long is.same }

alike-at_task : {X : Type 0} (d : X) (j : ℕ) (xs ys : List X) (named : Option TaskId) (f : X → X) → IsAlike d j xs ys → IsAlike d j (at_task xs named f) (at_task ys named f)
alike-at_task d j xs ys None f is = is
alike-at_task d j xs ys (Some t) f is = record { long = length-at_task ys (Some t) f ∙ (is.long ∙ sym (length-at_task xs (Some t) f)); same = read-alike xs ys t.0 j f d is.long is.same }

alike-tasks : (j : ℕ) (xs ys : List TaskPart) (named : Touched) (f : Effect) (lock : OwnerPart) → IsAlike no_task j xs ys → IsAlike no_task j (tasks_left named f lock xs) (tasks_left named f lock ys)
alike-tasks j xs ys named f lock is =
    alike-at_task no_task j _ _ named.woken (f.woken lock) (alike-at_task no_task j _ _ named.other (f.other lock)
    (alike-at_task no_task j _ _ named.owner (f.owner lock) (alike-at_task no_task j xs ys named.own (f.own lock) is)))

-- ---- the effect

module _ (s other : State) (e : Event) (size : SameSize s other) (agree : AgreeOn e s other) where
  named : Touched
  named = touched e.kind e

  thread : thread_part other e.task ≡ thread_part s e.task
  thread = agree-thread s other e e.task agree (touches-thread e)

  before : Alike e (shared s) (shared other)
  before = agree-shared s other e agree

  found : around (shared other) (touched e.kind e) ≡ around (shared s) (touched e.kind e)
  found = same-around e (shared s) (shared other) before

  same_effect : effect_in (shared other) (thread_part other e.task) e ≡ effect_in (shared s) (thread_part s e.task) e
  same_effect = λ i. effect_of_kind e.kind e (thread i) (found i)

  same_lock : lock_left (shared other) (thread_part other e.task) e ≡ lock_left (shared s) (thread_part s e.task) e
  same_lock = λ i. (same_effect i).lock (found i).lock

  lock-left : (l : LockId) → owner_part other l ≡ owner_part s l → owner_part (state_after other e) l ≡ owner_part (state_after s e) l
  lock-left l is =
      ap (λ (f : Effect). unwrap_or (slice_get (at_lock other.locks (touched e.kind e).lock f.lock) l.0) free_lock) same_effect
      ∙ (alike-at_lock free_lock l.0 s.locks other.locks (touched e.kind e).lock (effect_in (shared s) (thread_part s e.task) e).lock (record { long = size.locks; same = is })).same

  readers-left : (l : LockId) → reader_part other l ≡ reader_part s l → reader_part (state_after other e) l ≡ reader_part (state_after s e) l
  readers-left l is =
      ap (λ (f : Effect). unwrap_or (slice_get (at_lock other.readers (touched e.kind e).readers f.readers) l.0) no_readers) same_effect
      ∙ (alike-at_lock no_readers l.0 s.readers other.readers (touched e.kind e).readers (effect_in (shared s) (thread_part s e.task) e).readers (record { long = size.readers; same = is })).same

  task-left : (u : TaskId) → task_part other u ≡ task_part s u → task_part (state_after other e) u ≡ task_part (state_after s e) u
  task-left u is =
      (λ i. unwrap_or (slice_get (tasks_left (touched e.kind e) (same_effect i) (same_lock i) other.tasks) u.0) no_task)
      ∙ (alike-tasks u.0 s.tasks other.tasks (touched e.kind e) (effect_in (shared s) (thread_part s e.task) e) (lock_left (shared s) (thread_part s e.task) e) (record { long = size.tasks; same = is })).same

  alike_left : Alike e (shared (state_after s e)) (shared (state_after other e))
  alike_left = record { lock = λ l at. lock-left l (before.lock l at); readers = λ l at. readers-left l (before.readers l at); task = λ u at. task-left u (before.task u at) }

  same_thread : thread_after (shared other) (thread_part other e.task) e ≡ thread_after (shared s) (thread_part s e.task) e
  same_thread =
      let left = same-around e (shared (state_after s e)) (shared (state_after other e)) alike_left in
      λ i. answered_with ((same_effect i).thread (left i) (thread i)) e.reply

  thread-left : (u : TaskId) → thread_part other u ≡ thread_part s u → thread_part (state_after other e) u ≡ thread_part (state_after s e) u
  thread-left u is =
      let rest : ThreadPart = thread_part (record s { threads = [] }) u in
      ap (λ (th : ThreadPart). unwrap_or (slice_get (update other.threads e.task.0 (λ old. th)) u.0) rest) same_thread
      ∙ read-alike s.threads other.threads e.task.0 u.0 (λ old. thread_after (shared s) (thread_part s e.task) e) rest size.threads is

  -- states that agree on what an event touches agree on it afterwards
  pub effect : AgreeOn e (state_after s e) (state_after other e)
  effect (objects.OwnerPart l) at = ap of_lock (alike_left.lock l at)
  effect (objects.ReaderPart l) at = ap of_readers (alike_left.readers l at)
  effect (objects.Task u) at = ap of_task (alike_left.task u at)
  effect (objects.Thread u) at = ap of_thread (thread-left u (agree-thread s other e u agree at))
