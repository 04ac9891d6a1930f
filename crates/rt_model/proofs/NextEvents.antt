-- How the next event of a task comes about.
use Rattle.std.proofs.Common.{◌≡◌, ◌⊎◌, inl, inr, ◌<◌, ℕ, true, List, refl, sym, ap, subst, Option, Some, None, length}
use Rattle.rt_base.specs.declared.call.Call.{Call}
use Rattle.rt_base.specs.declared.call.Call.TheVariants as calls
use Rattle.rt_base.specs.declared.id.LockId.{LockId}
use Rattle.rt_base.specs.declared.id.TaskId.{TaskId}
use Rattle.rt_base.specs.declared.reply.Reply.{Reply}
use Rattle.rt_model.specs.declared.event.Event.{Event}
use Rattle.rt_model.specs.declared.phase.Phase.{Phase}
use Rattle.rt_model.specs.declared.phase.Phase.TheVariants as phases
use Rattle.rt_model.specs.declared.phase.Route.{Route}
use Rattle.rt_model.specs.Parts.{call_of, kind_of}
use Rattle.rt_model.specs.Choice.{called_lock}
use Rattle.rt_model.specs.State.{State, shared, task_at, owner_part, reader_part, task_part, thread_part}
use Rattle.rt_model.specs.CallKinds.{IsServed, CallsFit, waits, waits_to_read, waits_to_write, writes, releases_inner, ends_read, IsPhaseOf}
use Rattle.rt_model.specs.Path.{first_broken}
use Rattle.rt_model.specs.events.Acquire.{acquire_event, try_event}
use Rattle.rt_model.specs.events.Release.{release_event}
use Rattle.rt_model.specs.events.Wait.{slow_event}
use Rattle.rt_model.specs.events.Walk.{cursor_event, confirmed_event}
use Rattle.rt_model.specs.events.Readers.{rin_event, read_event, tryread_event, rout_event, wwake_event, unbias_event, writer_event, wopen_event}
use Rattle.rt_model.specs.events.Wakeups.{state_event, wake_event, signal_event, setprio_event}
use Rattle.rt_model.specs.events.Own.{own_answer}
use Rattle.rt_model.specs.NextEvent.{first_event, answered_or, later_event, event_in, event_of, next_event}
use Rattle.rt_model.specs.laws.Phases.{PhasesLaw}
use Rattle.rt_model.proofs.Calling.{IsIn, at_call, served_call, by_lock, by_lockint, by_spin, by_local, by_read, by_write, by_trylock, by_tryspin, by_trywrite, by_unlock, by_unspin, by_unlocal, EndsInner, of_read, of_trywrite, of_unwrite, of_downgrade, ends-holds, from_hold, from_inside, Writes, writes_by, tries_by, writes-holds, asked}
use Rattle.rt_model.proofs.events.Own.{IsOwn, not_held, unheld, was_held, read_unheld, write_unheld}
use Rattle.rt_model.proofs.events.Acquire.{IsAcquire, IsTake, from_start, from_reading, is_fast, is_mark, is_take, is_busy, acquired, tried}
use Rattle.rt_model.proofs.events.Release.{IsRelease, is_free, is_give, released}
use Rattle.rt_model.proofs.events.Readers.{IsReading, is_out, is_wwake, is_let_in, is_unbias, is_opened, is_downgraded, reads_at, tryreads_at, wtries_at, wwaits_at, reading-task}
use Rattle.rt_model.proofs.events.Wait.{IsWaiting, is_wait, is_again, is_leave, slowed, woken_up}
use Rattle.rt_model.proofs.events.Walk.{IsWalking, is_walk, is_walkend, walked, IsConfirmed, is_restart, is_cycle, confirmed}
use Rattle.rt_model.proofs.events.Wakeups.{IsWakeup, is_state, is_sched, is_wake, is_signal, scheduled, IsSetPrio}

-- one constructor a family
pub data IsNext (s : State) (t : TaskId) (e : Event) : Type 0 where
  by_own : (call : Call) (answer : Reply) → IsOwn s t call answer e → IsNext s t e
  by_acquire : (l : LockId) → IsAcquire s t l e → IsNext s t e
  by_wait : (l : LockId) → IsWaiting s t l e → IsNext s t e
  by_release : (l : LockId) → IsRelease s t l e → IsNext s t e
  by_reading : (l : LockId) → IsReading s t l e → IsNext s t e
  by_walk : (route : Route) (u : TaskId) → IsWalking s t route u e → IsNext s t e
  by_confirm : (l : LockId) (path : List (ℕ × ℕ)) → IsConfirmed s t l path e → IsNext s t e
  by_wakeup : IsWakeup s t e → IsNext s t e
  by_setprio : (u : TaskId) (prio : ℕ) → IsSetPrio s t u prio e → IsNext s t e

first_next : (s : State) (t : TaskId) (call : Call) (e : Event) → IsIn s t phases.Start call → IsServed (length s.threads) (length s.locks) call → own_answer (thread_part s t) call ≡ None → first_event (shared s) t (thread_part s t) call ≡ Some e → IsNext s t e
first_next s t (calls.Lock l) e at served none is =
    let same : acquire_event (call_of (thread_part s t)) t l (owner_part s l) ≡ e = cc in by_acquire l (acquired s t l e (from_start (record { call = calls.Lock l; waits_for = by_lock refl; at = at }) (not_held _ _ none)) same)
first_next s t (calls.LockInt l) e at served none is =
    let same : acquire_event (call_of (thread_part s t)) t l (owner_part s l) ≡ e = cc in by_acquire l (acquired s t l e (from_start (record { call = calls.LockInt l; waits_for = by_lockint refl; at = at }) (not_held _ _ none)) same)
first_next s t (calls.Spin l) e at served none is =
    let same : acquire_event (call_of (thread_part s t)) t l (owner_part s l) ≡ e = cc in by_acquire l (acquired s t l e (from_start (record { call = calls.Spin l; waits_for = by_spin refl; at = at }) (unheld _ none)) same)
first_next s t (calls.TryLock l) e at served none is =
    let same : try_event (call_of (thread_part s t)) t l (kind_of (thread_part s t) l) (owner_part s l) (task_part s t) ≡ e = cc in
    by_acquire l (tried s t l e (record { call = calls.TryLock l; tries_for = by_trylock refl; at = at; lock = served }) same)
first_next s t (calls.TrySpin l) e at served none is =
    let same : try_event (call_of (thread_part s t)) t l (kind_of (thread_part s t) l) (owner_part s l) (task_part s t) ≡ e = cc in
    by_acquire l (tried s t l e (record { call = calls.TrySpin l; tries_for = by_tryspin refl; at = at; lock = served }) same)
first_next s t (calls.Local l) e at served none is =
    let same : acquire_event (call_of (thread_part s t)) t l (owner_part s l) ≡ e = cc in by_acquire l (acquired s t l e (from_start (record { call = calls.Local l; waits_for = by_local refl; at = at }) (unheld _ none)) same)
first_next s t (calls.State state) e at served none is = by_wakeup (is_state state (record { at = at; event = let same : state_event t state ≡ e = cc in sym same }))
first_next s t calls.Schedule e at served none is = by_wakeup (scheduled s t e at is)
first_next s t (calls.Wake u) e at served none is = by_wakeup (is_wake u (record { at = at; event = let same : wake_event t u (task_part s u) ≡ e = cc in sym same }))
first_next s t (calls.Signal u) e at served none is = by_wakeup (is_signal u (record { at = at; event = let same : signal_event t u (task_part s u) ≡ e = cc in sym same }))
first_next s t (calls.SetPrio u prio) e at served none is = by_setprio u prio (record { at = at; event = let same : setprio_event t u prio (task_part s u) ≡ e = cc in sym same })
first_next s t (calls.Unlock l) e at served none is =
    let same : release_event (call_of (thread_part s t)) t l (owner_part s l) (task_part s t) ≡ e = cc in
    by_release l (released s t l e (record { call = calls.Unlock l; calling = at.calling; by = from_hold (by_unlock refl) at (was_held _ none); task = at.task; lock = served }) same)
first_next s t (calls.Unspin l) e at served none is =
    let same : release_event (call_of (thread_part s t)) t l (owner_part s l) (task_part s t) ≡ e = cc in
    by_release l (released s t l e (record { call = calls.Unspin l; calling = at.calling; by = from_hold (by_unspin refl) at (was_held _ none); task = at.task; lock = served }) same)
first_next s t (calls.Unlocal l) e at served none is =
    let same : release_event (call_of (thread_part s t)) t l (owner_part s l) (task_part s t) ≡ e = cc in
    by_release l (released s t l e (record { call = calls.Unlocal l; calling = at.calling; by = from_hold (by_unlocal refl) at (was_held _ none); task = at.task; lock = served }) same)
first_next s t (calls.Read l) e at served none is =
    let same : read_event t l (reader_part s l) ≡ e = cc in
    by_reading l (reads_at s t l e at served (read_unheld l (Some (kind_of (thread_part s t) l)) _ _ _ none) same)
first_next s t (calls.TryRead l) e at served none is = let same : tryread_event t l (reader_part s l) ≡ e = cc in by_reading l (tryreads_at s t l e at served same)
first_next s t (calls.Unread l) e at served none is = let same : rout_event t l (reader_part s l) ≡ e = cc in by_reading l (is_out (record { at = at; lock = served; event = sym same }) (was_held _ none))
first_next s t (calls.Write l) e at served none is =
    let same : acquire_event (call_of (thread_part s t)) t l (owner_part s l) ≡ e = cc in
    by_acquire l (acquired s t l e (from_start (record { call = calls.Write l; waits_for = by_write refl; at = at }) (write_unheld l (Some (kind_of (thread_part s t) l)) _ _ _ none)) same)
first_next s t (calls.TryWrite l) e at served none is =
    let same : try_event (call_of (thread_part s t)) t l (kind_of (thread_part s t) l) (owner_part s l) (task_part s t) ≡ e = cc in
    by_acquire l (tried s t l e (record { call = calls.TryWrite l; tries_for = by_trywrite refl; at = at; lock = served }) same)
first_next s t (calls.Unwrite l) e at served none is = let same : wopen_event t l 0 ≡ e = cc in by_reading l (is_opened (record { at = at; lock = served; event = sym same }) (was_held _ none))
first_next s t (calls.Downgrade l) e at served none is = let same : wopen_event t l 1 ≡ e = cc in by_reading l (is_downgraded (record { at = at; lock = served; event = sym same }) (was_held _ none))
first_next s t (calls.Move cpu) e at served none is = cc

started : (s : State) (t : TaskId) (call : Call) (e : Event) (answer : Option Reply) → IsIn s t phases.Start call → IsServed (length s.threads) (length s.locks) call → own_answer (thread_part s t) call ≡ answer
    → answered_or (first_event (shared s) t (thread_part s t) call) t (called_lock call) answer ≡ Some e → IsNext s t e
started s t call e None at served none is = first_next s t call e at served none is
started s t call e (Some answer) at served some is = by_own call answer (record { at = at; why = some; event = cc })

taken_or_waiting : (s : State) (t : TaskId) (l : LockId) (e : Event) → IsTake s t l e ⊎ IsWaiting s t l e → IsNext s t e
taken_or_waiting s t l e (inl takes) = by_acquire l (is_take takes)
taken_or_waiting s t l e (inr waiting) = by_wait l waiting

-- a call in such a phase waits for some lock
in_slow : (s : State) (t : TaskId) (call : Call) (e : Event) → IsIn s t phases.Slow call → waits call ≡ true → later_event phases.Slow (shared s) t (thread_part s t) (called_lock call) ≡ Some e → IsNext s t e
in_slow s t call e at fits is =
    let some = asked s t phases.Slow call at fits in
    let l : LockId = some.0 in
    let made = subst (λ (lock : Option LockId). later_event phases.Slow (shared s) t (thread_part s t) lock ≡ Some e) some.2 is in
    let same : slow_event (call_of (thread_part s t)) t l (kind_of (thread_part s t) l) (owner_part s l) (task_part s t) (task_at (shared s) (owner_part s l).owner) ≡ e = cc in taken_or_waiting s t l e (slowed s t l e some.1 same)

in_wait : (s : State) (t : TaskId) (call : Call) (e : Event) → IsIn s t phases.Wait call → waits call ≡ true → later_event phases.Wait (shared s) t (thread_part s t) (called_lock call) ≡ Some e → IsNext s t e
in_wait s t call e at fits is =
    let some = asked s t phases.Wait call at fits in
    let made = subst (λ (lock : Option LockId). later_event phases.Wait (shared s) t (thread_part s t) lock ≡ Some e) some.2 is in
    taken_or_waiting s t some.0 e (woken_up s t some.0 e some.1 made)

in_confirm : (s : State) (t : TaskId) (call : Call) (e : Event) (path : List (ℕ × ℕ)) → IsIn s t (phases.Confirm path) call → waits call ≡ true → confirmed_event (shared s) t path (first_broken (shared s) path) ≡ e → IsNext s t e
in_confirm s t call e path at fits is = let some = asked s t (phases.Confirm path) call at fits in by_confirm some.0 path (confirmed s t some.0 path e some.1 is)

-- a reader or a writer on its way
read_by : (call : Call) → waits_to_read call ≡ true → (l : LockId) × (call ≡ calls.Read l)
read_by (calls.Read l) is = (l, refl)
read_by _ is = cc

write_by : (call : Call) → waits_to_write call ≡ true → (l : LockId) × (call ≡ calls.Write l)
write_by (calls.Write l) is = (l, refl)
write_by _ is = cc

written_by : (call : Call) → writes call ≡ true → (l : LockId) × Writes call l
written_by (calls.Write l) is = (l, writes_by refl)
written_by (calls.TryWrite l) is = (l, tries_by refl)
written_by _ is = cc

unread_by : (call : Call) → ends_read call ≡ true → (l : LockId) × (call ≡ calls.Unread l)
unread_by (calls.Unread l) is = (l, refl)
unread_by _ is = cc

ended_by : (call : Call) → releases_inner call ≡ true → (l : LockId) × EndsInner call l
ended_by (calls.Read l) is = (l, of_read refl)
ended_by (calls.TryWrite l) is = (l, of_trywrite refl)
ended_by (calls.Unwrite l) is = (l, of_unwrite refl)
ended_by (calls.Downgrade l) is = (l, of_downgrade refl)
ended_by _ is = cc

-- what its later event is, by its call
abbrev Later : State → TaskId → Event → Phase → Call → Type 0
Later s t e phase call = later_event phase (shared s) t (thread_part s t) (called_lock call) ≡ Some e

in_inner : (s : State) (t : TaskId) (call : Call) (e : Event) → IsIn s t phases.Inner call → waits_to_read call ≡ true → Later s t e phases.Inner call → IsNext s t e
in_inner s t call e at fits is = of_call (read_by call fits).0 (read_by call fits).1
  where
    of_call : (l : LockId) → call ≡ calls.Read l → IsNext s t e
    of_call l same =
        let here = subst (IsIn s t phases.Inner) same at in
        let made = subst (Later s t e phases.Inner) same is in
        let event : acquire_event (call_of (thread_part s t)) t l (owner_part s l) ≡ e = cc in
        by_acquire l (acquired s t l e (from_reading (record { call = calls.Read l; waits_for = by_read refl; at = here })) event)

in_read_in : (s : State) (t : TaskId) (call : Call) (e : Event) → IsIn s t phases.ReadIn call → waits_to_read call ≡ true → Later s t e phases.ReadIn call → IsNext s t e
in_read_in s t call e at fits is = of_call (read_by call fits).0 (read_by call fits).1
  where
    of_call : (l : LockId) → call ≡ calls.Read l → IsNext s t e
    of_call l same =
        let here = subst (IsIn s t phases.ReadIn) same at in
        let made = subst (Later s t e phases.ReadIn) same is in
        let event : rin_event t l None ≡ e = cc in
        by_reading l (is_let_in (record { at = here; lock = here.served; event = sym event }))

writes-lock : (s : State) (t : TaskId) (phase : Phase) (call : Call) (l : LockId) → IsIn s t phase call → Writes call l → l.0 < length s.locks
writes-lock s t phase call l at is = writes-holds (λ c. IsServed (length s.threads) (length s.locks) c → l.0 < length s.locks) call l is (λ served. served) (λ served. served) at.served

in_unbias : (s : State) (t : TaskId) (call : Call) (e : Event) → IsIn s t phases.Unbias call → writes call ≡ true → Later s t e phases.Unbias call → IsNext s t e
in_unbias s t call e at fits is =
    let l = (written_by call fits).0 in
    let how = (written_by call fits).1 in
    let event : Some (unbias_event t l) ≡ Some e = writes-holds (λ c. Later s t e phases.Unbias c → Some (unbias_event t l) ≡ Some e) call l how (λ made. made) (λ made. made) is in
    let same : unbias_event t l ≡ e = cc in
    by_reading l (is_unbias call how (record { at = at; lock = writes-lock s t phases.Unbias call l at how; event = sym same }))

in_wtry : (s : State) (t : TaskId) (call : Call) (e : Event) → IsIn s t phases.WTry call → writes call ≡ true → Later s t e phases.WTry call → IsNext s t e
in_wtry s t call e at fits is =
    let l = (written_by call fits).0 in
    let how = (written_by call fits).1 in
    let made : Event = writer_event (call_of (thread_part s t)) t l (reader_part s l) in
    let event : Some made ≡ Some e = writes-holds (λ c. Later s t e phases.WTry c → Some made ≡ Some e) call l how (λ made. made) (λ made. made) is in
    let same : made ≡ e = cc in
    by_reading l (wtries_at s t l call e at (writes-lock s t phases.WTry call l at how) how same)

in_wwait : (s : State) (t : TaskId) (call : Call) (e : Event) → IsIn s t phases.WWait call → waits_to_write call ≡ true → Later s t e phases.WWait call → IsNext s t e
in_wwait s t call e at fits is = of_call (write_by call fits).0 (write_by call fits).1
  where
    of_call : (l : LockId) → call ≡ calls.Write l → IsNext s t e
    of_call l same =
        let here = subst (IsIn s t phases.WWait) same at in
        by_reading l (wwaits_at s t l e here here.served (subst (Later s t e phases.WWait) same is))

in_wake_writer : (s : State) (t : TaskId) (call : Call) (e : Event) → IsIn s t phases.WakeWriter call → ends_read call ≡ true → Later s t e phases.WakeWriter call → IsNext s t e
in_wake_writer s t call e at fits is = of_call (unread_by call fits).0 (unread_by call fits).1
  where
    of_call : (l : LockId) → call ≡ calls.Unread l → IsNext s t e
    of_call l same =
        let here = subst (IsIn s t phases.WakeWriter) same at in
        let made = subst (Later s t e phases.WakeWriter) same is in
        let event : wwake_event t l (owner_part s l) ≡ e = cc in
        by_reading l (is_wwake (record { at = here; lock = here.served; event = sym event }))

in_release : (s : State) (t : TaskId) (call : Call) (e : Event) → IsIn s t phases.Release call → releases_inner call ≡ true → Later s t e phases.Release call → IsNext s t e
in_release s t call e at fits is =
    let l = (ended_by call fits).0 in
    let how = (ended_by call fits).1 in
    let made : Event = release_event (call_of (thread_part s t)) t l (owner_part s l) (task_part s t) in
    let event : Some made ≡ Some e = ends-holds (λ c. Later s t e phases.Release c → Some made ≡ Some e) call l how (λ made. made) (λ made. made) (λ made. made) (λ made. made) is in
    let same : made ≡ e = cc in
    let lock = ends-holds (λ c. IsServed (length s.threads) (length s.locks) c → l.0 < length s.locks) call l how (λ served. served) (λ served. served) (λ served. served) (λ served. served) at.served in
    by_release l (released s t l e (record { call = call; calling = at.calling; by = from_inside how at; task = at.task; lock = lock }) same)

in_phase : (s : State) (t : TaskId) (call : Call) (e : Event) (phase : Phase) → IsIn s t phase call → IsPhaseOf phase (Some call) → event_in phase (shared s) t (thread_part s t) call ≡ Some e → IsNext s t e
in_phase s t call e phases.Start at fits is = started s t call e (own_answer (thread_part s t) call) at at.served refl is
in_phase s t call e phases.Slow at fits is = in_slow s t call e at fits is
in_phase s t call e phases.Wait at fits is = in_wait s t call e at fits is
in_phase s t call e (phases.Walk u route) at fits is =
    let same : cursor_event (shared s) t route u (task_part s u) (task_part s u).blocked ≡ e = cc in by_walk route u (walked s t call route u e at fits same)
in_phase s t call e (phases.Confirm path) at fits is = let same : confirmed_event (shared s) t path (first_broken (shared s) path) ≡ e = cc in in_confirm s t call e path at fits same
in_phase s t call e phases.Inner at fits is = in_inner s t call e at fits is
in_phase s t call e phases.ReadIn at fits is = in_read_in s t call e at fits is
in_phase s t call e phases.Unbias at fits is = in_unbias s t call e at fits is
in_phase s t call e phases.WTry at fits is = in_wtry s t call e at fits is
in_phase s t call e phases.WWait at fits is = in_wwait s t call e at fits is
in_phase s t call e phases.Release at fits is = in_release s t call e at fits is
in_phase s t call e phases.WakeWriter at fits is = in_wake_writer s t call e at fits is

at_call_of : (s : State) (t : TaskId) (e : Event) (call : Option Call) → CallsFit s → PhasesLaw s → call_of (thread_part s t) ≡ call → event_of (shared s) t (thread_part s t) call ≡ Some e → IsNext s t e
at_call_of s t e None staged phased at is = cc
at_call_of s t e (Some call) staged phased at is =
    in_phase s t call e (thread_part s t).phase (record { calling = at; phased = refl; task = (at_call s t call at).1; served = served_call s t call staged at })
    (subst (λ (c : Option Call). IsPhaseOf (thread_part s t).phase c) at (phased t)) is

-- each next event is one of these
pub choice : (s : State) (t : TaskId) (e : Event) → CallsFit s → PhasesLaw s → next_event s t ≡ Some e → IsNext s t e
choice s t e staged phased is = at_call_of s t e (call_of (thread_part s t)) staged phased refl is

-- and it is its task's
pub task-IsNext : (s : State) (t : TaskId) (e : Event) → IsNext s t e → e.task ≡ t
task-IsNext s t e (by_own call answer is) = ap (λ (x : Event). x.task) is.event
task-IsNext s t e (by_acquire l (is_fast is)) = ap (λ (x : Event). x.task) is.event
task-IsNext s t e (by_acquire l (is_mark is)) = ap (λ (x : Event). x.task) is.event
task-IsNext s t e (by_acquire l (is_take is)) = ap (λ (x : Event). x.task) is.event
task-IsNext s t e (by_acquire l (is_busy is)) = ap (λ (x : Event). x.task) is.event
task-IsNext s t e (by_wait l (is_wait is)) = ap (λ (x : Event). x.task) is.event
task-IsNext s t e (by_wait l (is_again is)) = ap (λ (x : Event). x.task) is.event
task-IsNext s t e (by_wait l (is_leave is)) = ap (λ (x : Event). x.task) is.event
task-IsNext s t e (by_release l (is_free is)) = ap (λ (x : Event). x.task) is.event
task-IsNext s t e (by_release l (is_give is)) = ap (λ (x : Event). x.task) is.event
task-IsNext s t e (by_reading l is) = reading-task s t l e is
task-IsNext s t e (by_walk route u (is_walk l key is)) = ap (λ (x : Event). x.task) is.event
task-IsNext s t e (by_walk route u (is_walkend is)) = ap (λ (x : Event). x.task) is.event
task-IsNext s t e (by_confirm l path (is_restart link is)) = ap (λ (x : Event). x.task) is.event
task-IsNext s t e (by_confirm l path (is_cycle is)) = ap (λ (x : Event). x.task) is.event
task-IsNext s t e (by_wakeup (is_state state is)) = ap (λ (x : Event). x.task) is.event
task-IsNext s t e (by_wakeup (is_sched is)) = ap (λ (x : Event). x.task) is.event
task-IsNext s t e (by_wakeup (is_wake u is)) = ap (λ (x : Event). x.task) is.event
task-IsNext s t e (by_wakeup (is_signal u is)) = ap (λ (x : Event). x.task) is.event
task-IsNext s t e (by_setprio u prio is) = ap (λ (x : Event). x.task) is.event
