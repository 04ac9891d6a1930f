-- Readers and writers at the reader part: how their events come about, and that their choice reads only what they touch.
use Rattle.std.proofs.Common.{◌≡◌, ◌<◌, length, Bool, true, false, cond, refl, sym, ap, ◌∙◌, subst, Option, Some, None}
use Rattle.std.specs.Prelude.{nat_lt}
use Rattle.rt_base.specs.declared.call.Call.{Call}
use Rattle.rt_base.specs.declared.call.Call.TheVariants as calls
use Rattle.rt_base.specs.declared.id.LockId.{LockId}
use Rattle.rt_base.specs.declared.id.TaskId.{TaskId}
use Rattle.rt_base.specs.declared.reply.Reply.TheVariants.{Got, Busy}
use Rattle.rt_base.specs.declared.state.TaskState.{TaskState}
use Rattle.rt_base.specs.declared.state.TaskState.TheVariants as states
use Rattle.rt_model.specs.declared.event.Event.{Event}
use Rattle.rt_model.specs.declared.obj.Obj.TheVariants as objects
use Rattle.rt_model.specs.declared.phase.Phase.{Phase}
use Rattle.rt_model.specs.declared.phase.Phase.TheVariants as phases
use Rattle.rt_model.specs.declared.reader_cell.ReaderCell.{ReaderCell}
use Rattle.rt_model.specs.Parts.{TaskPart, call_of, hold_of}
use Rattle.rt_model.specs.State.{State, Shared, lock_in, readers_in, task_in, owner_part, reader_part, task_part, thread_part}
use Rattle.rt_model.specs.Choice.{called_lock}
use Rattle.rt_model.specs.Footprint.{touches}
use Rattle.rt_model.specs.steps.Readers.{can_read, can_write}
use Rattle.rt_model.specs.steps.Task.{runs}
use Rattle.rt_model.specs.events.Readers.{rin_event, shut_event, read_event, tryread_event, rout_event, wwake_event, unbias_event, wtake_event, wsleep_event, wopen_event, held_up_event, writer_event, awake_writer_event, waiting_writer_event}
use Rattle.rt_model.proofs.Calling.{IsIn, Writes, writes_by, tries_by, writes-called}
use Rattle.rt_model.proofs.Touching.{touches-lock, touches-readers, touches-own}
use Rattle.rt_model.proofs.Alike.{Alike, GivesAlike}

-- ---- how they come about

-- the task is in this phase of this call on the lock, which is there, and e is this event
pub record IsMade (s : State) (t : TaskId) (l : LockId) (phase : Phase) (call : Call) (x e : Event) : Type 0 where
  pub at : IsIn s t phase call
  pub lock : l.0 < length s.locks
  pub event : e ≡ x

-- a reader gets in, or finds the lock shut; it leaves, and wakes the writer; a writer removes the bias, gets in, sleeps, or gives up;
-- it leaves, or stays as a reader
pub data IsReading (s : State) (t : TaskId) (l : LockId) (e : Event) : Type 0 where
  is_read : IsMade s t l phases.Start (calls.Read l) (rin_event t l (Some Got)) e → (hold_of (thread_part s t) l).owns ≡ false → can_read (reader_part s l) ≡ true → IsReading s t l e
  is_tryread : IsMade s t l phases.Start (calls.TryRead l) (rin_event t l (Some Got)) e → (reader_part s l).bias ≡ true → IsReading s t l e
  is_let_in : IsMade s t l phases.ReadIn (calls.Read l) (rin_event t l None) e → IsReading s t l e
  is_shut : IsMade s t l phases.Start (calls.Read l) (shut_event t l None) e → (hold_of (thread_part s t) l).owns ≡ false → can_read (reader_part s l) ≡ false → IsReading s t l e
  is_tryshut : IsMade s t l phases.Start (calls.TryRead l) (shut_event t l (Some Busy)) e → (reader_part s l).bias ≡ false → IsReading s t l e
  is_out : IsMade s t l phases.Start (calls.Unread l) (rout_event t l (reader_part s l)) e → nat_lt 0 (hold_of (thread_part s t) l).reads ≡ true → IsReading s t l e
  is_wwake : IsMade s t l phases.WakeWriter (calls.Unread l) (wwake_event t l (owner_part s l)) e → IsReading s t l e
  is_unbias : (call : Call) → Writes call l → IsMade s t l phases.Unbias call (unbias_event t l) e → IsReading s t l e
  is_in : (call : Call) → Writes call l → IsMade s t l phases.WTry call (wtake_event t l None) e → can_write (reader_part s l) ≡ true → IsReading s t l e
  is_sleep : IsMade s t l phases.WTry (calls.Write l) (wsleep_event t l) e → can_write (reader_part s l) ≡ false → IsReading s t l e
  is_given_up : IsMade s t l phases.WTry (calls.TryWrite l) (wopen_event t l 0) e → can_write (reader_part s l) ≡ false → IsReading s t l e
  is_in_late : IsMade s t l phases.WWait (calls.Write l) (wtake_event t l (Some t)) e → (task_part s t).state ≡ states.Running → can_write (reader_part s l) ≡ true → IsReading s t l e
  is_sleep_again : IsMade s t l phases.WWait (calls.Write l) (wsleep_event t l) e → (task_part s t).state ≡ states.Running → can_write (reader_part s l) ≡ false → IsReading s t l e
  is_opened : IsMade s t l phases.Start (calls.Unwrite l) (wopen_event t l 0) e → (hold_of (thread_part s t) l).owns ≡ true → IsReading s t l e
  is_downgraded : IsMade s t l phases.Start (calls.Downgrade l) (wopen_event t l 1) e → (hold_of (thread_part s t) l).owns ≡ true → IsReading s t l e

made_at : (s : State) (t : TaskId) (l : LockId) (phase : Phase) (call : Call) (x e : Event) → IsIn s t phase call → l.0 < length s.locks → x ≡ e → IsMade s t l phase call x e
made_at s t l phase call x e at lock is = record { at = at; lock = lock; event = sym is }

pub reads_at : (s : State) (t : TaskId) (l : LockId) (e : Event) → IsIn s t phases.Start (calls.Read l) → l.0 < length s.locks → (hold_of (thread_part s t) l).owns ≡ false
    → read_event t l (reader_part s l) ≡ e → IsReading s t l e
reads_at s t l e at lock unheld is = by_test (can_read (reader_part s l)) refl is
  where
    by_test : (b : Bool) → can_read (reader_part s l) ≡ b → cond b (rin_event t l (Some Got)) (shut_event t l None) ≡ e → IsReading s t l e
    by_test true can is = is_read (made_at s t l _ _ _ e at lock is) unheld can
    by_test false cannot is = is_shut (made_at s t l _ _ _ e at lock is) unheld cannot

pub tryreads_at : (s : State) (t : TaskId) (l : LockId) (e : Event) → IsIn s t phases.Start (calls.TryRead l) → l.0 < length s.locks → tryread_event t l (reader_part s l) ≡ e → IsReading s t l e
tryreads_at s t l e at lock is = by_test (reader_part s l).bias refl is
  where
    by_test : (b : Bool) → (reader_part s l).bias ≡ b → cond b (rin_event t l (Some Got)) (shut_event t l (Some Busy)) ≡ e → IsReading s t l e
    by_test true set is = is_tryread (made_at s t l _ _ _ e at lock is) set
    by_test false off is = is_tryshut (made_at s t l _ _ _ e at lock is) off

pub wtries_at : (s : State) (t : TaskId) (l : LockId) (call : Call) (e : Event) → IsIn s t phases.WTry call → l.0 < length s.locks → Writes call l
    → writer_event (call_of (thread_part s t)) t l (reader_part s l) ≡ e → IsReading s t l e
wtries_at s t l call e at lock writes is = by_test (can_write (reader_part s l)) refl (ap (λ (c : Option Call). writer_event c t l (reader_part s l)) (sym at.calling) ∙ is)
  where
    held_up : Writes call l → can_write (reader_part s l) ≡ false → held_up_event (Some call) t l ≡ e → IsReading s t l e
    held_up (writes_by same) cannot is =
        is_sleep (made_at s t l _ _ _ e (subst (IsIn s t phases.WTry) same at) lock (subst (λ (c : Call). held_up_event (Some c) t l ≡ e) same is)) cannot
    held_up (tries_by same) cannot is =
        is_given_up (made_at s t l _ _ _ e (subst (IsIn s t phases.WTry) same at) lock (subst (λ (c : Call). held_up_event (Some c) t l ≡ e) same is)) cannot

    by_test : (b : Bool) → can_write (reader_part s l) ≡ b → cond b (wtake_event t l None) (held_up_event (Some call) t l) ≡ e → IsReading s t l e
    by_test true can is = is_in call writes (made_at s t l _ _ _ e at lock is) can
    by_test false cannot is = held_up writes cannot is

ran : (state : TaskState) → runs state ≡ true → state ≡ states.Running
ran states.Running is = refl
ran states.Interruptible is = cc
ran states.Uninterruptible is = cc
ran states.LockWait is = cc

pub wwaits_at : (s : State) (t : TaskId) (l : LockId) (e : Event) → IsIn s t phases.WWait (calls.Write l) → l.0 < length s.locks
    → waiting_writer_event t l (reader_part s l) (task_part s t) ≡ Some e → IsReading s t l e
wwaits_at s t l e at lock is = by_state (runs (task_part s t).state) refl is
  where
    by_test : (task_part s t).state ≡ states.Running → (b : Bool) → can_write (reader_part s l) ≡ b → cond b (wtake_event t l (Some t)) (wsleep_event t l) ≡ e → IsReading s t l e
    by_test runs true can is = is_in_late (made_at s t l _ _ _ e at lock is) runs can
    by_test runs false cannot is = is_sleep_again (made_at s t l _ _ _ e at lock is) runs cannot

    by_state : (b : Bool) → runs (task_part s t).state ≡ b → cond b (Some (awake_writer_event t l (reader_part s l))) None ≡ Some e → IsReading s t l e
    by_state true awake is = let same : awake_writer_event t l (reader_part s l) ≡ e = cc in by_test (ran (task_part s t).state awake) (can_write (reader_part s l)) refl same
    by_state false asleep is = cc

-- ---- what holds of them all

-- the task is in some phase of a call on the lock
pub record IsReadingIn (s : State) (t : TaskId) (l : LockId) : Type 0 where
  pub phase : Phase
  pub call : Call
  pub at : IsIn s t phase call
  pub about : called_lock call ≡ Some l
  pub lock : l.0 < length s.locks

at_lock : (s : State) (t : TaskId) (l : LockId) (phase : Phase) (call : Call) (x e : Event) → IsMade s t l phase call x e → called_lock call ≡ Some l → IsReadingIn s t l
at_lock s t l phase call x e is about = record { phase = phase; call = call; at = is.at; about = about; lock = is.lock }

pub reading-in : (s : State) (t : TaskId) (l : LockId) (e : Event) → IsReading s t l e → IsReadingIn s t l
reading-in s t l e (is_read is unheld can) = at_lock s t l _ _ _ e is refl
reading-in s t l e (is_tryread is set) = at_lock s t l _ _ _ e is refl
reading-in s t l e (is_let_in is) = at_lock s t l _ _ _ e is refl
reading-in s t l e (is_shut is unheld cannot) = at_lock s t l _ _ _ e is refl
reading-in s t l e (is_tryshut is off) = at_lock s t l _ _ _ e is refl
reading-in s t l e (is_out is held) = at_lock s t l _ _ _ e is refl
reading-in s t l e (is_wwake is) = at_lock s t l _ _ _ e is refl
reading-in s t l e (is_unbias call writes is) = at_lock s t l _ _ _ e is (writes-called call l writes)
reading-in s t l e (is_in call writes is can) = at_lock s t l _ _ _ e is (writes-called call l writes)
reading-in s t l e (is_sleep is cannot) = at_lock s t l _ _ _ e is refl
reading-in s t l e (is_given_up is cannot) = at_lock s t l _ _ _ e is refl
reading-in s t l e (is_in_late is runs can) = at_lock s t l _ _ _ e is refl
reading-in s t l e (is_sleep_again is runs cannot) = at_lock s t l _ _ _ e is refl
reading-in s t l e (is_opened is held) = at_lock s t l _ _ _ e is refl
reading-in s t l e (is_downgraded is held) = at_lock s t l _ _ _ e is refl

-- what holds of each event, as it is written and in the phase in which it comes, holds of each
pub record HoldsOfReading (P : Phase → Event → Type 0) (s : State) (t : TaskId) (l : LockId) : Type 0 where
  pub read : P phases.Start (rin_event t l (Some Got))
  pub let_in : P phases.ReadIn (rin_event t l None)
  pub shut : P phases.Start (shut_event t l None)
  pub tryshut : P phases.Start (shut_event t l (Some Busy))
  pub out : P phases.Start (rout_event t l (reader_part s l))
  pub wwake : P phases.WakeWriter (wwake_event t l (owner_part s l))
  pub unbias : P phases.Unbias (unbias_event t l)
  pub written : P phases.WTry (wtake_event t l None)
  pub late : P phases.WWait (wtake_event t l (Some t))
  pub sleep : P phases.WTry (wsleep_event t l)
  pub again : P phases.WWait (wsleep_event t l)
  pub given_up : P phases.WTry (wopen_event t l 0)
  pub opened : P phases.Start (wopen_event t l 0)
  pub downgraded : P phases.Start (wopen_event t l 1)

pub reading-holds : (P : Phase → Event → Type 0) (s : State) (t : TaskId) (l : LockId) (e : Event) → IsReading s t l e → HoldsOfReading P s t l → P (thread_part s t).phase e
reading-holds P s t l e is each = by_kind is
  where
    of : (phase : Phase) (call : Call) (x : Event) → IsMade s t l phase call x e → P phase x → P (thread_part s t).phase e
    of phase call x is holds = subst (λ (p : Phase). P p e) (sym is.at.phased) (subst (P phase) (sym is.event) holds)

    by_kind : IsReading s t l e → P (thread_part s t).phase e
    by_kind (is_read is unheld can) = of _ _ _ is each.read
    by_kind (is_tryread is set) = of _ _ _ is each.read
    by_kind (is_let_in is) = of _ _ _ is each.let_in
    by_kind (is_shut is unheld cannot) = of _ _ _ is each.shut
    by_kind (is_tryshut is off) = of _ _ _ is each.tryshut
    by_kind (is_out is held) = of _ _ _ is each.out
    by_kind (is_wwake is) = of _ _ _ is each.wwake
    by_kind (is_unbias call writes is) = of _ _ _ is each.unbias
    by_kind (is_in call writes is can) = of _ _ _ is each.written
    by_kind (is_sleep is cannot) = of _ _ _ is each.sleep
    by_kind (is_given_up is cannot) = of _ _ _ is each.given_up
    by_kind (is_in_late is runs can) = of _ _ _ is each.late
    by_kind (is_sleep_again is runs cannot) = of _ _ _ is each.again
    by_kind (is_opened is held) = of _ _ _ is each.opened
    by_kind (is_downgraded is held) = of _ _ _ is each.downgraded

pub reading-task : (s : State) (t : TaskId) (l : LockId) (e : Event) → IsReading s t l e → e.task ≡ t
reading-task s t l e is =
    reading-holds (λ phase x. x.task ≡ t) s t l e is
    (record { read = refl; let_in = refl; shut = refl; tryshut = refl; out = refl; wwake = refl; unbias = refl; written = refl; late = refl; sleep = refl; again = refl; given_up = refl; opened = refl; downgraded = refl })

-- ---- what the choice reads

-- a choice between two events by the reader part, that both touch
by_readers : (a b : Shared) (l : LockId) (test : ReaderCell → Bool) (x y : Event) → touches x (objects.ReaderPart l) ≡ true → touches y (objects.ReaderPart l) ≡ true
    → Alike (cond (test (readers_in a l)) x y) a b → cond (test (readers_in b l)) x y ≡ cond (test (readers_in a l)) x y
by_readers a b l test x y first second alike = ap (λ (cell : ReaderCell). cond (test cell) x y) (alike.readers l (either (test (readers_in a l))))
  where
    either : (c : Bool) → touches (cond c x y) (objects.ReaderPart l) ≡ true
    either true = first
    either false = second

pub same-read : (a b : Shared) (t : TaskId) (l : LockId) → Alike (read_event t l (readers_in a l)) a b → read_event t l (readers_in b l) ≡ read_event t l (readers_in a l)
same-read a b t l = by_readers a b l can_read (rin_event t l (Some Got)) (shut_event t l None) (touches-readers (rin_event t l (Some Got)) l refl) (touches-readers (shut_event t l None) l refl)

pub same-tryread : (a b : Shared) (t : TaskId) (l : LockId) → Alike (tryread_event t l (readers_in a l)) a b → tryread_event t l (readers_in b l) ≡ tryread_event t l (readers_in a l)
same-tryread a b t l =
    by_readers a b l (λ cell. cell.bias) (rin_event t l (Some Got)) (shut_event t l (Some Busy)) (touches-readers (rin_event t l (Some Got)) l refl) (touches-readers (shut_event t l (Some Busy)) l refl)

pub same-rout : (a b : Shared) (t : TaskId) (l : LockId) → Alike (rout_event t l (readers_in a l)) a b → rout_event t l (readers_in b l) ≡ rout_event t l (readers_in a l)
same-rout a b t l alike = ap (rout_event t l) (alike.readers l (touches-readers (rout_event t l (readers_in a l)) l refl))

pub same-wwake : (a b : Shared) (t : TaskId) (l : LockId) → Alike (wwake_event t l (lock_in a l)) a b → wwake_event t l (lock_in b l) ≡ wwake_event t l (lock_in a l)
same-wwake a b t l alike = ap (wwake_event t l) (alike.lock l (touches-lock (wwake_event t l (lock_in a l)) l refl))

held_up-touches : (call : Option Call) (t : TaskId) (l : LockId) → touches (held_up_event call t l) (objects.ReaderPart l) ≡ true
held_up-touches (Some (calls.TryWrite m)) t l = touches-readers (wopen_event t l 0) l refl
held_up-touches (Some _) t l = touches-readers (wsleep_event t l) l refl
held_up-touches None t l = touches-readers (wsleep_event t l) l refl

pub same-writer : (a b : Shared) (call : Option Call) (t : TaskId) (l : LockId) → Alike (writer_event call t l (readers_in a l)) a b → writer_event call t l (readers_in b l) ≡ writer_event call t l (readers_in a l)
same-writer a b call t l = by_readers a b l can_write (wtake_event t l None) (held_up_event call t l) (touches-readers (wtake_event t l None) l refl) (held_up-touches call t l)

-- a writer that has slept is looked at where it does something
pub same-waiting : (t : TaskId) (l : LockId) (a b : Shared) → GivesAlike (λ sh. waiting_writer_event t l (readers_in sh l) (task_in sh t)) a b
same-waiting t l a b e is alike = by_state (runs (task_in a t).state) refl is
  where
    taken : Event
    taken = wtake_event t l (Some t)

    awake : Shared → Event
    awake sh = awake_writer_event t l (readers_in sh l)

    own_task : (c : Bool) → touches (cond c taken (wsleep_event t l)) (objects.Task t) ≡ true
    own_task true = touches-own taken t refl
    own_task false = touches-own (wsleep_event t l) t refl

    same_event : Alike (awake a) a b → awake b ≡ awake a
    same_event = by_readers a b l can_write taken (wsleep_event t l) (touches-readers taken l refl) (touches-readers (wsleep_event t l) l refl)

    by_state : (c : Bool) → runs (task_in a t).state ≡ c → cond c (Some (awake a)) None ≡ Some e → waiting_writer_event t l (readers_in b l) (task_in b t) ≡ Some e
    by_state true runs_now made =
        let event : awake a ≡ e = cc in
        let all = subst (λ (x : Event). Alike x a b) (sym event) alike in
        let task : task_in b t ≡ task_in a t = all.task t (own_task (can_write (readers_in a l))) in
        let state : runs (task_in b t).state ≡ true = ap (λ (task : TaskPart). runs task.state) task ∙ runs_now in
        ap (λ (c : Bool). cond c (Some (awake b)) None) state ∙ (ap Some (same_event all) ∙ made)
    by_state false asleep made = cc
