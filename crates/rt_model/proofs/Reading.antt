-- An event at a reader part leaves each owner part as it was, unblocks no task, and its task waits for no lock before or after.
use Rattle.std.proofs.Common.{◌≡◌, ◌<◌, length, Bool, true, false, cond, refl, sym, ap, subst, Option, Some, None}
use Rattle.rt_base.specs.declared.call.Call.{Call}
use Rattle.rt_base.specs.declared.call.Call.TheVariants as calls
use Rattle.rt_base.specs.declared.id.LockId.{LockId}
use Rattle.rt_base.specs.declared.id.TaskId.{TaskId}
use Rattle.rt_base.specs.declared.reply.Reply.{Reply}
use Rattle.rt_base.specs.declared.reply.Reply.TheVariants.{Got, Busy, Done}
use Rattle.rt_model.specs.declared.event.Event.{Event}
use Rattle.rt_model.specs.declared.event_kind.EventKind.{EventKind}
use Rattle.rt_model.specs.declared.event_kind.EventKind.TheVariants as kinds
use Rattle.rt_model.specs.declared.phase.Phase.{Phase}
use Rattle.rt_model.specs.declared.phase.Phase.TheVariants as phases
use Rattle.rt_model.specs.Parts.{ThreadPart, call_of, hold_of}
use Rattle.rt_model.specs.State.{State, shared, owner_part, reader_part, task_part, thread_part}
use Rattle.rt_model.specs.Effect.{around}
use Rattle.rt_model.specs.Rules.{touched, effect}
use Rattle.rt_model.specs.StateAfter.{shared_after, thread_after, state_after}
use Rattle.rt_model.specs.steps.Readers.{wakes_writer, without_reader}
use Rattle.rt_model.specs.steps.Thread.{phase_after_busy, answered_with}
use Rattle.rt_model.specs.events.Readers.{phase_after_rin, rout_event}
use Rattle.rt_model.specs.laws.Queued.{awaited_in}
use Rattle.rt_model.proofs.Blocked.{moves, blocked-kept}
use Rattle.rt_model.proofs.Calling.{IsIn, EndsInner, of_read, of_trywrite, of_unwrite, of_downgrade, Writes}
use Rattle.rt_model.proofs.PartsAfter.{locks-kept, thread-own, thread-made}
use Rattle.rt_model.proofs.events.Readers.{
  IsMade,
  IsReading,
  is_read,
  is_tryread,
  is_let_in,
  is_shut,
  is_tryshut,
  is_out,
  is_wwake,
  is_unbias,
  is_in,
  is_sleep,
  is_given_up,
  is_in_late,
  is_sleep_again,
  is_opened,
  is_downgraded,
  reading-in,
  reading-holds,
  reading-task,
}

-- what holds of the kinds of these events
pub record HoldsOfKinds (P : EventKind → Type 0) : Type 0 where
  pub rin : P kinds.RIn
  pub busy : P kinds.Busy
  pub rout : P kinds.ROut
  pub wwake : P kinds.WWake
  pub unbias : P kinds.Unbias
  pub wtake : P kinds.WTake
  pub wsleep : P kinds.WSleep
  pub wopen : P kinds.WOpen

-- holds of each
pub reading-kind : (P : EventKind → Type 0) (s : State) (t : TaskId) (l : LockId) (e : Event) → IsReading s t l e → HoldsOfKinds P → P e.kind
reading-kind P s t l e is each =
    reading-holds (λ phase x. P x.kind) s t l e is
    (record {
      read = each.rin;
      let_in = each.rin;
      shut = each.busy;
      tryshut = each.busy;
      out = each.rout;
      wwake = each.wwake;
      unbias = each.unbias;
      written = each.wtake;
      late = each.wtake;
      sleep = each.wsleep;
      again = each.wsleep;
      given_up = each.wopen;
      opened = each.wopen;
      downgraded = each.wopen;
    })

pub reading-lock : (s : State) (t : TaskId) (l : LockId) (e : Event) → IsReading s t l e → e.lock ≡ Some l
reading-lock s t l e is =
    reading-holds (λ phase x. x.lock ≡ Some l) s t l e is
    (record { read = refl; let_in = refl; shut = refl; tryshut = refl; out = refl; wwake = refl; unbias = refl; written = refl; late = refl; sleep = refl; again = refl; given_up = refl; opened = refl; downgraded = refl })

-- a thread in this phase waits for no lock's owner part, nor walks
abbrev pub is_idle : Phase → Bool
is_idle phases.Slow = false
is_idle phases.Wait = false
is_idle (phases.Walk cursor route) = false
is_idle (phases.Confirm path) = false
is_idle _ = true

pub idle-awaits : (phase : Phase) (lock : Option LockId) → is_idle phase ≡ true → awaited_in phase lock ≡ None
idle-awaits phases.Wait lock is = cc
idle-awaits (phases.Walk cursor route) lock is = cc
idle-awaits (phases.Confirm path) lock is = cc
idle-awaits _ lock is = refl

-- ---- its own thread

-- what the event leaves of the thread, as it is in this phase before
abbrev pub Left : State → TaskId → Event → ThreadPart
Left s t e = thread_after (shared s) (thread_part s t) e

-- what holds of whatever such an event leaves: it answers the call, or goes on in another phase; a reader that leaves is the last one,
-- or answered, and so isn't still at the start
pub record HoldsOfLeft (P : ThreadPart → Type 0) (s : State) (t : TaskId) (l : LockId) : Type 0 where
  pub answered : (phase : Phase) (answer : Reply) → P (answered_with (record (thread_part s t) { phase = phase }) (Some answer))
  pub shut : IsIn s t phases.Start (calls.Read l) → (hold_of (thread_part s t) l).owns ≡ false → P (record (thread_part s t) { phase = phases.Inner })
  pub last : call_of (thread_part s t) ≡ Some (calls.Unread l) → P (record (thread_part s t) { phase = phases.WakeWriter })
  pub start : (thread_part s t).phase ≡ phases.Start → P (thread_part s t)
  pub unbiased : (call : Call) → Writes call l → call_of (thread_part s t) ≡ Some call → P (record (thread_part s t) { phase = phases.WTry })
  pub asleep : call_of (thread_part s t) ≡ Some (calls.Write l) → P (record (thread_part s t) { phase = phases.WWait })
  pub releases : (call : Call) → EndsInner call l → call_of (thread_part s t) ≡ Some call → P (record (thread_part s t) { phase = phases.Release })

-- holds of what each leaves
pub reading-leaves : (P : ThreadPart → Type 0) (s : State) (t : TaskId) (l : LockId) (e : Event) → IsReading s t l e → HoldsOfLeft P s t l → P (Left s t e)
reading-leaves P s t l e is each = by_kind is
  where
    thread : ThreadPart
    thread = thread_part s t

    of : (phase : Phase) (call : Call) (x : Event) → IsMade s t l phase call x e → P (Left s t x) → P (Left s t e)
    of phase call x is left = subst (λ (y : Event). P (Left s t y)) (sym is.event) left

    answers : (phase : Phase) (call : Call) (x : Event) (onward : Phase) (answer : Reply) → IsMade s t l phase call x e → Left s t x ≡ answered_with (record thread { phase = onward }) (Some answer) → P (Left s t e)
    answers phase call x onward answer is same = of phase call x is (subst P (sym same) (each.answered onward answer))

    -- a reader leaves
    out : IsMade s t l phases.Start (calls.Unread l) (rout_event t l (reader_part s l)) e → (left told : Bool) → P (answered_with (record thread { phase = cond left phases.WakeWriter thread.phase }) (cond told None (Some Done)))
    out is true true = each.last is.at.calling
    out is false true = each.start is.at.phased
    out is left false = each.answered (cond left phases.WakeWriter thread.phase) Done

    by_kind : IsReading s t l e → P (Left s t e)
    by_kind (is_read is unheld can) = answers _ _ _ (phase_after_rin thread.phase) Got is refl
    by_kind (is_tryread is set) = answers _ _ _ (phase_after_rin thread.phase) Got is refl
    by_kind (is_let_in is) =
        of _ _ _ is (subst (λ (p : Phase). P (record thread { phase = phase_after_rin p })) (sym is.at.phased) (each.releases (calls.Read l) (of_read refl) is.at.calling))
    by_kind (is_shut is unheld cannot) =
        of _ _ _ is (subst (λ (c : Option Call). P (record thread { phase = phase_after_busy c thread.phase })) (sym is.at.calling) (each.shut is.at unheld))
    by_kind (is_tryshut is off) = answers _ _ _ (phase_after_busy (call_of thread) thread.phase) Busy is refl
    by_kind (is_out is held) =
        let x = rout_event t l (reader_part s l) in
        of _ _ _ is (out is (wakes_writer (around (shared_after (shared s) thread x) (touched x.kind x)).readers) (wakes_writer (without_reader (reader_part s l))))
    by_kind (is_wwake is) = answers _ _ _ thread.phase Done is refl
    by_kind (is_unbias call how is) = of _ _ _ is (each.unbiased call how is.at.calling)
    by_kind (is_in call how is can) = answers _ _ _ thread.phase Got is refl
    by_kind (is_sleep is cannot) = of _ _ _ is (each.asleep is.at.calling)
    by_kind (is_given_up is cannot) = of _ _ _ is (each.releases (calls.TryWrite l) (of_trywrite refl) is.at.calling)
    by_kind (is_in_late is runs can) = answers _ _ _ thread.phase Got is refl
    by_kind (is_sleep_again is runs cannot) = of _ _ _ is (each.asleep is.at.calling)
    by_kind (is_opened is held) = of _ _ _ is (each.releases (calls.Unwrite l) (of_unwrite refl) is.at.calling)
    by_kind (is_downgraded is held) = of _ _ _ is (each.releases (calls.Downgrade l) (of_downgrade refl) is.at.calling)

-- so its thread is left idle
pub reading-idle : (s : State) (t : TaskId) (l : LockId) (e : Event) → IsReading s t l e → is_idle (Left s t e).phase ≡ true
reading-idle s t l e is =
    reading-leaves (λ thread. is_idle thread.phase ≡ true) s t l e is
    (record { answered = λ phase answer. refl; shut = λ at unheld. refl; last = λ at. refl; start = λ at. ap is_idle at; unbiased = λ call how at. refl; asleep = λ at. refl; releases = λ call ends at. refl })

module _ (s : State) (t : TaskId) (l : LockId) (e : Event) (is : IsReading s t l e) where
  -- before it the thread is idle, too
  pub reading-was_idle : is_idle (thread_part s t).phase ≡ true
  reading-was_idle =
      reading-holds (λ phase x. is_idle phase ≡ true) s t l e is
      (record { read = refl; let_in = refl; shut = refl; tryshut = refl; out = refl; wwake = refl; unbias = refl; written = refl; late = refl; sleep = refl; again = refl; given_up = refl; opened = refl; downgraded = refl })

  -- afterwards its thread is idle, and every other is as it was
  pub reading-threads : (P : TaskId → ThreadPart → Type 0) (u : TaskId) → ((thread : ThreadPart) → is_idle thread.phase ≡ true → P t thread) → P u (thread_part s u) → P u (thread_part (state_after s e) u)
  reading-threads P u idle was =
      let task : t ≡ e.task = sym (reading-task s t l e is) in
      let left : ThreadPart = thread_after (shared s) (thread_part s e.task) e in
      let still : is_idle left.phase ≡ true = subst (λ (v : TaskId). is_idle (thread_after (shared s) (thread_part s v) e).phase ≡ true) task (reading-idle s t l e is) in
      thread-made P s e e u refl (subst (λ (v : TaskId). v.0 < length s.threads) task (reading-in s t l e is).at.task)
      (subst (λ (v : TaskId). P v left) task (idle left still)) (λ others. was)

  -- its own thread is as the effect and the answer say
  pub reading-left : thread_part (state_after s e) t ≡ thread_after (shared s) (thread_part s t) e
  reading-left =
      subst (λ (v : TaskId). v.0 < length s.threads → thread_part (state_after s e) v ≡ thread_after (shared s) (thread_part s v) e) (reading-task s t l e is) (thread-own s e e refl)
      (reading-in s t l e is).at.task

  -- it touches no owner part, and unblocks no task
  pub reading-locks : (m : LockId) → owner_part (state_after s e) m ≡ owner_part s m
  reading-locks m =
      let found = around (shared s) (touched e.kind e) in
      locks-kept s e m (λ lock. reading-kind (λ kind. (effect kind e (thread_part s e.task) found).lock lock ≡ lock) s t l e is (record { rin = refl; busy = refl; rout = refl; wwake = refl; unbias = refl; wtake = refl; wsleep = refl; wopen = refl }))

  pub reading-blocked : (u : TaskId) → (task_part (state_after s e) u).blocked ≡ (task_part s u).blocked
  reading-blocked u = blocked-kept s e e u refl (reading-kind (λ kind. moves kind ≡ false) s t l e is (record { rin = refl; busy = refl; rout = refl; wwake = refl; unbias = refl; wtake = refl; wsleep = refl; wopen = refl }))
