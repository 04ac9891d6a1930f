-- An event leaves every object that it doesn't touch.
use Rattle.std.proofs.lemmas.Bool.{or_parts}
use Rattle.std.proofs.Common.{◌≡◌, ◌≢◌, false, List, [], refl, ap, ◌∙◌, Option, Some, None, unwrap_or, sym, IfSome}
use Rattle.std.specs.Prelude.{slice_get, nat_eq}
use Rattle.std.specs.List.{list_any}
use Rattle.rt_base.specs.declared.id.LockId.{LockId}
use Rattle.rt_base.specs.declared.id.TaskId.{TaskId}
use Rattle.rt_model.specs.declared.event.Event.{Event}
use Rattle.rt_model.specs.declared.obj.Obj.{Obj}
use Rattle.rt_model.specs.declared.obj.Obj.TheVariants as objects
use Rattle.rt_model.specs.declared.reader_cell.ReaderCell.{ReaderCell}
use Rattle.rt_model.specs.Parts.{OwnerPart, TaskPart, ThreadPart}
use Rattle.rt_model.specs.State.{State, shared, of_lock, of_readers, of_task, of_thread, object, free_lock, no_readers, no_task, thread_part}
use Rattle.rt_model.specs.Effect.{Touched, Effect}
use Rattle.rt_model.specs.Rules.{touched}
use Rattle.rt_model.specs.Footprint.{same_object, objects_of, touches}
use Rattle.rt_model.specs.StateAfter.{at_lock, at_task, effect_in, lock_left, tasks_left, thread_after, state_after}
use Rattle.rt_model.proofs.Lists.{update-other}
use Rattle.rt_model.proofs.Numbers.{other_number}
use Rattle.rt_model.proofs.Touching.{IsApart, apart-not}

-- what isn't named keeps its place
lock_apart : {X : Type 0} (xs : List X) (named : Option LockId) (l : LockId) (f : X → X) → IfSome named (λ m. nat_eq l.0 m.0 ≡ false) → slice_get (at_lock xs named f) l.0 ≡ slice_get xs l.0
lock_apart xs None l f is = refl
lock_apart xs (Some m) l f is = update-other xs m.0 l.0 f (λ same. other_number l.0 m.0 is (sym same))

task_apart : (xs : List TaskPart) (named : Option TaskId) (t : TaskId) (f : TaskPart → TaskPart) → IfSome named (λ u. nat_eq t.0 u.0 ≡ false) → slice_get (at_task xs named f) t.0 ≡ slice_get xs t.0
task_apart xs None t f is = refl
task_apart xs (Some u) t f is = update-other xs u.0 t.0 f (λ same. other_number t.0 u.0 is (sym same))

tasks_apart : (named : Touched) (f : Effect) (lock : OwnerPart) (xs : List TaskPart) (t : TaskId) → IsApart (same_object (objects.Task t)) named → slice_get (tasks_left named f lock xs) t.0 ≡ slice_get xs t.0
tasks_apart named f lock xs t is =
    let own = at_task xs named.own (f.own lock) in
    let owner = at_task own named.owner (f.owner lock) in
    let other = at_task owner named.other (f.other lock) in
    task_apart other named.woken t (f.woken lock) is.woken ∙ (task_apart owner named.other t (f.other lock) is.other
    ∙ (task_apart own named.owner t (f.owner lock) is.owner ∙ task_apart xs named.own t (f.own lock) is.own))

-- the frame of an event
pub frame : (s : State) (e : Event) (o : Obj) → touches e o ≡ false → object (state_after s e) o ≡ object s o
frame s e (objects.OwnerPart l) is =
    let f = effect_in (shared s) (thread_part s e.task) e in
    ap (λ (o : Option OwnerPart). of_lock (unwrap_or o free_lock)) (lock_apart s.locks (touched e.kind e).lock l f.lock (apart-not e (objects.OwnerPart l) is).lock)
frame s e (objects.ReaderPart l) is =
    let f = effect_in (shared s) (thread_part s e.task) e in
    ap (λ (o : Option ReaderCell). of_readers (unwrap_or o no_readers)) (lock_apart s.readers (touched e.kind e).readers l f.readers (apart-not e (objects.ReaderPart l) is).readers)
frame s e (objects.Task t) is =
    let f = effect_in (shared s) (thread_part s e.task) e in
    ap (λ (o : Option TaskPart). of_task (unwrap_or o no_task)) (tasks_apart (touched e.kind e) f (lock_left (shared s) (thread_part s e.task) e) s.tasks t (apart-not e (objects.Task t) is))
frame s e (objects.Thread t) is =
    let apart : e.task.0 ≢ t.0 = λ same. other_number t.0 e.task.0 (or_parts (nat_eq t.0 e.task.0) (list_any (same_object (objects.Thread t)) (objects_of (touched e.kind e))) is).0 (sym same) in
    ap (λ (o : Option ThreadPart). of_thread (unwrap_or o (thread_part (record s { threads = [] }) t))) (update-other s.threads e.task.0 t.0 (λ old. thread_after (shared s) (thread_part s e.task) e) apart)
