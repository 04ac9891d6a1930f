-- What the steps on a task make of its two fields in the flat wakeup machine.
use Rattle.std.proofs.Common.{List, ◌≡◌, ◌≢◌, ◌⊎◌, inl, inr, ℕ, zero, suc, Bool, true, false, cond, not, ◌&&◌, refl, sym, ap, ◌∙◌, Option, Some, None}
use Rattle.std.specs.Prelude.{is_some, nat_eq}
use Rattle.std.proofs.lemmas.Bool.{cond-true, cond-false}
use Rattle.rt_base.specs.Script.{Script}
use Rattle.rt_base.specs.declared.call.Call.{Call}
use Rattle.rt_base.specs.declared.call.Call.TheVariants as calls
use Rattle.rt_base.specs.declared.id.LockId.{LockId}
use Rattle.rt_base.specs.declared.id.TaskId.{TaskId}
use Rattle.rt_base.specs.declared.state.TaskState.{TaskState}
use Rattle.rt_base.specs.declared.state.TaskState.TheVariants as states
use Rattle.rt_model.specs.declared.event.Event.{Event}
use Rattle.rt_model.specs.declared.event_kind.EventKind.{EventKind}
use Rattle.rt_model.specs.declared.event_kind.EventKind.TheVariants as kinds
use Rattle.rt_model.specs.declared.row.Row.{Row}
use Rattle.rt_model.specs.Parts.{OwnerPart, TaskPart, ThreadPart}
use Rattle.rt_model.specs.Rows.{top_key}
use Rattle.rt_model.specs.steps.Task.{with_own, with_top, sleep_of, saved_for, put_to_rest, put_back, restored, leave_queue, sleeps, woken_up, signalled, woken_by, wake_answer, signal_answer, lock_woken}
use Rattle.rt_model.specs.steps.Chain.{rekeyed, refreshed_where_changed}
use Rattle.rt_model.specs.Effect.{Around}
use Rattle.rt_model.specs.Rules.{effect}
use Rattle.rt_model.specs.laws.Flat.{Seen, Flat, flat_woken, flat_signalled, flat_woken_by, flat_answer, call_at, is_ordinary, own_at_lock, own_by_kind, flat_own, flat_lock_woken, is_wakeup, flat_after}
use Rattle.rt_model.specs.laws.Owners.{owned_by}
use Rattle.rt_model.specs.laws.States.{IsRested}
use Rattle.rt_model.proofs.CellStepLemmas.{where_changed}
use Rattle.rt_model.proofs.PartsAfter.{OthersKeep}

-- ---- the two fields

-- a task's state beneath a wait for a spinning kind: an ordinary sleep itself, else what is saved
abbrev pub beneath : TaskState → TaskState → TaskState
beneath states.Interruptible saved = states.Interruptible
beneath states.Uninterruptible saved = states.Uninterruptible
beneath _ saved = saved

-- the two fields of a task
abbrev pub flat_at : TaskPart → Flat
flat_at task = record { state = beneath task.state task.saved; signal = task.signal }

-- in the lock-wait state and in the running one it is what is saved
waiting-beneath : (state saved : TaskState) → (state ≡ states.LockWait) ⊎ (state ≡ states.Running) → beneath state saved ≡ saved
waiting-beneath state saved (inl is) = ap (λ (s : TaskState). beneath s saved) is
waiting-beneath state saved (inr is) = ap (λ (s : TaskState). beneath s saved) is

-- where nothing is saved it is any other state itself
other-beneath : (state saved : TaskState) → state ≢ states.LockWait → saved ≡ states.Running → beneath state saved ≡ state
other-beneath states.Running saved ne none = none
other-beneath states.Interruptible saved ne none = refl
other-beneath states.Uninterruptible saved ne none = refl
other-beneath states.LockWait saved ne none = absurd (ne refl)

-- so of a task that rests as it is to it is the saved state where it waits for a spinning kind, and else its state
pub rested-beneath : (spinning : Bool) (task : TaskPart) → IsRested spinning task → cond spinning task.saved task.state ≡ beneath task.state task.saved
rested-beneath true task rested = sym (waiting-beneath task.state task.saved rested.0)
rested-beneath false task rested = sym (other-beneath task.state task.saved rested.0 rested.1)

-- ---- wakeups

-- in an ordinary sleep a task has saved nothing
abbrev pub SavesNone : TaskState → TaskState → Type 0
SavesNone state saved = sleeps state ≡ true → saved ≡ states.Running

pub rested-saves : (spinning : Bool) (task : TaskPart) → IsRested spinning task → SavesNone task.state task.saved
rested-saves true task rested = either rested.0
  where
    either : (task.state ≡ states.LockWait) ⊎ (task.state ≡ states.Running) → SavesNone task.state task.saved
    either (inl is) asleep = let never : false ≡ true = sym (ap sleeps is) ∙ asleep in absurd cc
    either (inr is) asleep = let never : false ≡ true = sym (ap sleeps is) ∙ asleep in absurd cc
rested-saves false task rested = λ asleep. rested.1

-- a task in these states
abbrev in_states : TaskPart → TaskState → TaskState → TaskPart
in_states task state saved = record task { state = state; saved = saved }

pub woken-fields : (task : TaskPart) → SavesNone task.state task.saved → flat_at (woken_up task) ≡ flat_woken (flat_at task)
woken-fields task = by_states task.state task.saved
  where
    by_states : (state saved : TaskState) → SavesNone state saved → flat_at (woken_up (in_states task state saved)) ≡ flat_woken (flat_at (in_states task state saved))
    by_states states.Interruptible saved none = λ i. record { state = none refl i; signal = task.signal }
    by_states states.Uninterruptible saved none = λ i. record { state = none refl i; signal = task.signal }
    by_states _ states.Interruptible none = refl
    by_states _ states.Uninterruptible none = refl
    by_states _ _ none = refl

signalled-fields : (task : TaskPart) → SavesNone task.state task.saved → flat_at (signalled task) ≡ flat_signalled (flat_at task)
signalled-fields task = by_states task.state task.saved
  where
    by_states : (state saved : TaskState) → SavesNone state saved → flat_at (signalled (in_states task state saved)) ≡ flat_signalled (flat_at (in_states task state saved))
    by_states states.Interruptible saved none = λ i. record { state = none refl i; signal = true }
    by_states _ states.Interruptible none = refl
    by_states _ _ none = refl

pub woken_by-fields : (n : ℕ) (task : TaskPart) → SavesNone task.state task.saved → flat_at (woken_by n task) ≡ flat_woken_by n (flat_at task)
woken_by-fields zero task none = woken-fields task none
woken_by-fields (suc n) task none = signalled-fields task none

pub lock_woken-fields : (spinning : Bool) (task : TaskPart) → SavesNone task.state task.saved → flat_at (lock_woken spinning task) ≡ cond (not spinning) (flat_woken (flat_at task)) (flat_at task)
lock_woken-fields true task none = by_state task.state
  where
    by_state : (state : TaskState) → flat_at (lock_woken true (in_states task state task.saved)) ≡ flat_at (in_states task state task.saved)
    by_state states.LockWait = refl
    by_state _ = refl
lock_woken-fields false task none = woken-fields task none

-- what it is answered

pub wake-answer : (task : TaskPart) → wake_answer task ≡ flat_answer 0 (flat_at task)
wake-answer task = by_state task.state
  where
    by_state : (state : TaskState) → wake_answer (in_states task state task.saved) ≡ flat_answer 0 (flat_at (in_states task state task.saved))
    by_state states.LockWait = refl
    by_state _ = refl

pub signal-answer : (task : TaskPart) → SavesNone task.state task.saved → signal_answer task ≡ flat_answer 1 (flat_at task)
signal-answer task = by_state task.state
  where
    by_state : (state : TaskState) → SavesNone state task.saved → signal_answer (in_states task state task.saved) ≡ flat_answer 1 (flat_at (in_states task state task.saved))
    by_state states.Uninterruptible none = ap (λ (saved : TaskState). signal_answer (in_states task states.Uninterruptible saved)) (none refl)
    by_state _ none = refl

-- ---- waits

asleep-beneath : (call : Option Call) (saved : TaskState) → beneath (sleep_of call) saved ≡ sleep_of call
asleep-beneath (Some (calls.LockInt l)) saved = refl
asleep-beneath _ saved = refl

saved_for-signal : (rest : TaskState) (task : TaskPart) → (saved_for rest task).signal ≡ task.signal
saved_for-signal states.LockWait task = refl
saved_for-signal _ task = refl

-- what a sleep at a lock of this kind makes of the two fields, and its end
abbrev pub flat_asleep : Bool → Option Call → Flat → Flat
flat_asleep spinning call flat = cond (not spinning) (record flat { state = sleep_of call }) flat

abbrev pub flat_restored : Bool → Flat → Flat
flat_restored spinning flat = cond (not spinning) (record flat { state = states.Running }) flat

-- a task that goes to rest, queued or not
pub put_to_rest-fields : (spinning : Bool) (call : Option Call) (task : TaskPart) → IsRested false task → flat_at (put_to_rest (cond spinning states.LockWait (sleep_of call)) task) ≡ flat_asleep spinning call (flat_at task)
put_to_rest-fields true call task rested = λ i. record { state = sym (other-beneath task.state task.saved rested.0 rested.1) i; signal = task.signal }
put_to_rest-fields false call task rested = λ i. record { state = asleep-beneath call (saved_for (sleep_of call) task).saved i; signal = saved_for-signal (sleep_of call) task i }

-- one that was woken, and goes to rest again
pub put_back-fields : (spinning : Bool) (call : Option Call) (task : TaskPart) → task.state ≡ states.Running → flat_at (put_back (cond spinning states.LockWait (sleep_of call)) task) ≡ flat_asleep spinning call (flat_at task)
put_back-fields true call task runs = λ i. record { state = beneath (sym runs i) task.saved; signal = task.signal }
put_back-fields false call task runs = λ i. record { state = asleep-beneath call task.saved i; signal = task.signal }

-- and one whose state is restored, as it leaves a queue or not
pub restored-fields : (spinning : Bool) (task : TaskPart) → IsRested spinning task → flat_at (restored spinning task) ≡ flat_restored spinning (flat_at task)
restored-fields true task rested = λ i. record { state = (other-beneath task.saved states.Running rested.1 refl ∙ sym (waiting-beneath task.state task.saved rested.0)) i; signal = task.signal }
restored-fields false task rested = λ i. record { state = rested.1 i; signal = task.signal }

pub leave_queue-fields : (spinning : Bool) (task : TaskPart) → is_some task.blocked ≡ true → IsRested spinning task → flat_at (leave_queue spinning task) ≡ flat_restored spinning (flat_at task)
leave_queue-fields spinning task queued rested =
    ap (λ (b : Bool). flat_at (cond b (record (restored spinning task) { blocked = None }) task)) queued ∙ restored-fields spinning task rested

-- a task that waits for no spinning kind sets its state
pub set-fields : (state : TaskState) (task : TaskPart) → state ≢ states.LockWait → IsRested false task → flat_at (record task { state = state }) ≡ record (flat_at task) { state = state }
set-fields state task ne rested = λ i. record { state = other-beneath state task.saved ne rested.1 i; signal = task.signal }

-- ---- what leaves both fields as they are

-- a task's states and its signal flag are as they were
pub record KeepsStates (task other : TaskPart) : Type 0 where
  pub state : other.state ≡ task.state
  pub saved : other.saved ≡ task.saved
  pub signal : other.signal ≡ task.signal

pub KeepsStates-itself : (task : TaskPart) → KeepsStates task task
KeepsStates-itself task = record { state = refl; saved = refl; signal = refl }

pub flat-kept : (task other : TaskPart) → KeepsStates task other → flat_at other ≡ flat_at task
flat-kept task other keeps = λ i. record { state = beneath (keeps.state i) (keeps.saved i); signal = keeps.signal i }

pub saves-kept : (task other : TaskPart) → KeepsStates task other → SavesNone task.state task.saved → SavesNone other.state other.saved
saves-kept task other keeps none = λ asleep. keeps.saved ∙ none (sym (ap sleeps keeps.state) ∙ asleep)

-- an event of this kind changes them of its own task
abbrev pub sets_own : EventKind → Bool
sets_own kinds.Take = true
sets_own kinds.Wait = true
sets_own kinds.Again = true
sets_own kinds.Leave = true
sets_own kinds.Cycle = true
sets_own kinds.State = true
sets_own kinds.Sched = true
sets_own kinds.WTake = true
sets_own kinds.WSleep = true
sets_own _ = false

-- and of another
abbrev pub wakes_other : EventKind → Bool
wakes_other kinds.Wake = true
wakes_other kinds.Give = true
wakes_other kinds.Walk = true
wakes_other kinds.WWake = true
wakes_other _ = false

-- one that wakes nobody is no wakeup
quiet : (kind : EventKind) → wakes_other kind ≡ false → is_wakeup kind ≡ false
quiet kinds.Wake is = cc
quiet _ is = refl

module _ (old : TaskPart) where
  pub with_top-keeps : (l : Option LockId) (top : Option ℕ) (task : TaskPart) → KeepsStates old task → KeepsStates old (with_top l top task)
  with_top-keeps None top task was = was
  with_top-keeps (Some l) top task was = record { state = was.state; saved = was.saved; signal = was.signal }

  where_changed-keeps : (l : Option LockId) (before after : List Row) (task : TaskPart) → KeepsStates old task → KeepsStates old (refreshed_where_changed l before after task)
  where_changed-keeps l before after task was = where_changed (KeepsStates old) l before after task was (with_top-keeps l (top_key after) task was)

  rekeyed-keeps : (task : TaskPart) → KeepsStates old task → KeepsStates old (rekeyed task)
  rekeyed-keeps task was = record { state = was.state; saved = was.saved; signal = was.signal }

  with_own-keeps : (prio : ℕ) (task : TaskPart) → KeepsStates old task → KeepsStates old (with_own prio task)
  with_own-keeps prio task was = record { state = was.state; saved = was.saved; signal = was.signal }

  pub keeps-own : (kind : EventKind) (e : Event) (th : ThreadPart) → sets_own kind ≡ false → (found : Around) (lock : OwnerPart) (task : TaskPart) → KeepsStates old task → KeepsStates old ((effect kind e th found).own lock task)
  keeps-own kinds.Take e th is found lock task was = cc
  keeps-own kinds.Wait e th is found lock task was = cc
  keeps-own kinds.Again e th is found lock task was = cc
  keeps-own kinds.Leave e th is found lock task was = cc
  keeps-own kinds.Cycle e th is found lock task was = cc
  keeps-own kinds.State e th is found lock task was = cc
  keeps-own kinds.Sched e th is found lock task was = cc
  keeps-own kinds.WTake e th is found lock task was = cc
  keeps-own kinds.WSleep e th is found lock task was = cc
  keeps-own kinds.Give e th is found lock task was = with_top-keeps e.lock None task was
  keeps-own _ e th is found lock task was = was

  pub keeps-owner : (kind : EventKind) (e : Event) (th : ThreadPart) (found : Around) (lock : OwnerPart) (task : TaskPart) → KeepsStates old task → KeepsStates old ((effect kind e th found).owner lock task)
  keeps-owner kinds.Wait e th found lock task was = with_top-keeps e.lock (top_key lock.rows) task was
  keeps-owner kinds.Leave e th found lock task was = with_top-keeps e.lock (top_key lock.rows) task was
  keeps-owner kinds.Cycle e th found lock task was = with_top-keeps e.lock (top_key lock.rows) task was
  keeps-owner kinds.Walk e th found lock task was = where_changed-keeps e.lock found.lock.rows lock.rows task was
  keeps-owner _ e th found lock task was = was

  pub keeps-other : (kind : EventKind) (e : Event) (th : ThreadPart) → is_wakeup kind ≡ false → (found : Around) (lock : OwnerPart) (task : TaskPart) → KeepsStates old task → KeepsStates old ((effect kind e th found).other lock task)
  keeps-other kinds.Wake e th is found lock task was = cc
  keeps-other kinds.Walk e th is found lock task was = rekeyed-keeps task was
  keeps-other kinds.SetPrio e th is found lock task was = with_own-keeps e.value task was
  keeps-other _ e th is found lock task was = was

  keeps-woken : (kind : EventKind) (e : Event) (th : ThreadPart) → wakes_other kind ≡ false → (found : Around) (lock : OwnerPart) (task : TaskPart) → KeepsStates old task → KeepsStates old ((effect kind e th found).woken lock task)
  keeps-woken kinds.Wake e th is found lock task was = cc
  keeps-woken kinds.Give e th is found lock task was = cc
  keeps-woken kinds.Walk e th is found lock task was = cc
  keeps-woken kinds.WWake e th is found lock task was = cc
  keeps-woken _ e th is found lock task was = was

  pub keeps-others : (kind : EventKind) (e : Event) (th : ThreadPart) → wakes_other kind ≡ false → (found : Around) (lock : OwnerPart) → OthersKeep (KeepsStates old) (effect kind e th found) lock
  keeps-others kind e th is found lock = record {
    owner = keeps-owner kind e th found lock;
    other = keeps-other kind e th (quiet kind is) found lock;
    woken = keeps-woken kind e th is found lock;
  }

-- ---- what an event makes of both fields

-- one choice of two that are the same
pub chosen_same : (b : Bool) (flat : Flat) → cond b flat flat ≡ flat
chosen_same true flat = refl
chosen_same false flat = refl

own_kept : (kind : EventKind) (value : ℕ) (call : Option Call) (waiting ordinary : Bool) (flat : Flat) → sets_own kind ≡ false → own_by_kind kind value (cond ordinary (own_at_lock kind call waiting flat) flat) ≡ flat
own_kept kinds.Take value call waiting ordinary flat is = cc
own_kept kinds.Wait value call waiting ordinary flat is = cc
own_kept kinds.Again value call waiting ordinary flat is = cc
own_kept kinds.Leave value call waiting ordinary flat is = cc
own_kept kinds.Cycle value call waiting ordinary flat is = cc
own_kept kinds.State value call waiting ordinary flat is = cc
own_kept kinds.Sched value call waiting ordinary flat is = cc
own_kept kinds.WTake value call waiting ordinary flat is = cc
own_kept kinds.WSleep value call waiting ordinary flat is = cc
own_kept _ value call waiting ordinary flat is = chosen_same ordinary flat

module _ (script : Script) (t : TaskId) (seen : Seen) (e : Event) (flat : Flat) where
  -- what its task makes of them
  abbrev own_part : Flat
  own_part = cond (nat_eq e.task.0 t.0) (flat_own script t seen e flat) flat

  own_part-kept : sets_own e.kind ≡ false → own_part ≡ flat
  own_part-kept is = ap (λ (x : Flat). cond (nat_eq e.task.0 t.0) x flat) (own_kept e.kind e.value (call_at script t seen) seen.waiting (is_ordinary script e.lock) flat is) ∙ chosen_same (nat_eq e.task.0 t.0) flat

  -- one that wakes nobody
  wakes_none : e.woken ≡ None → is_wakeup e.kind ≡ false → flat_after script t seen e flat ≡ own_part
  wakes_none none is = by_parts e.woken (is_wakeup e.kind) none is
    where
      by_parts : (woken : Option TaskId) (wakeup : Bool) → woken ≡ None → wakeup ≡ false
          → cond (wakeup && owned_by e.other t) (flat_woken_by e.value (cond (owned_by woken t) (flat_lock_woken script e own_part) own_part)) (cond (owned_by woken t) (flat_lock_woken script e own_part) own_part) ≡ own_part
      by_parts (Some v) wakeup none is = cc
      by_parts None true none is = cc
      by_parts None false none is = refl

  pub after-quiet : sets_own e.kind ≡ false → wakes_other e.kind ≡ false → e.woken ≡ None → flat_after script t seen e flat ≡ flat
  after-quiet own others none = wakes_none none (quiet e.kind others) ∙ own_part-kept own

  pub after-other : nat_eq e.task.0 t.0 ≡ false → wakes_other e.kind ≡ false → e.woken ≡ None → flat_after script t seen e flat ≡ flat
  after-other other others none = wakes_none none (quiet e.kind others) ∙ cond-false (nat_eq e.task.0 t.0) (flat_own script t seen e flat) flat other

  pub after-own : nat_eq e.task.0 t.0 ≡ true → wakes_other e.kind ≡ false → e.woken ≡ None → flat_after script t seen e flat ≡ flat_own script t seen e flat
  after-own own others none = wakes_none none (quiet e.kind others) ∙ cond-true (nat_eq e.task.0 t.0) (flat_own script t seen e flat) flat own

  -- one that wakes a lock's waiter
  pub after-lock_woken : sets_own e.kind ≡ false → is_wakeup e.kind ≡ false → flat_after script t seen e flat ≡ cond (owned_by e.woken t) (flat_lock_woken script e flat) flat
  after-lock_woken own is =
      ap (λ (b : Bool). cond (b && owned_by e.other t) (flat_woken_by e.value (cond (owned_by e.woken t) (flat_lock_woken script e own_part) own_part)) (cond (owned_by e.woken t) (flat_lock_woken script e own_part) own_part)) is
      ∙ ap (λ (x : Flat). cond (owned_by e.woken t) (flat_lock_woken script e x) x) (own_part-kept own)

  -- and a wakeup or a signal
  pub after-wakeup : sets_own e.kind ≡ false → is_wakeup e.kind ≡ true → e.woken ≡ None → flat_after script t seen e flat ≡ cond (owned_by e.other t) (flat_woken_by e.value flat) flat
  after-wakeup own is none =
      ap (λ (x : Flat). flat_targeted e.woken (is_wakeup e.kind) x) (own_part-kept own) ∙ λ i. flat_targeted (none i) (is i) flat
    where
      flat_targeted : Option TaskId → Bool → Flat → Flat
      flat_targeted woken wakeup x = cond (wakeup && owned_by e.other t) (flat_woken_by e.value (cond (owned_by woken t) (flat_lock_woken script e x) x)) (cond (owned_by woken t) (flat_lock_woken script e x) x)

-- two fields that are a task's, where other tasks than the event's own change nothing of them
pub flat-others : (flat : Flat) (kind : EventKind) (e : Event) (th : ThreadPart) → wakes_other kind ≡ false → (found : Around) (lock : OwnerPart) → OthersKeep (λ task. flat ≡ flat_at task) (effect kind e th found) lock
flat-others flat kind e th is found lock = record {
  owner = λ task same. same ∙ sym (flat-kept task _ ((keeps-others task kind e th is found lock).owner task (KeepsStates-itself task)));
  other = λ task same. same ∙ sym (flat-kept task _ ((keeps-others task kind e th is found lock).other task (KeepsStates-itself task)));
  woken = λ task same. same ∙ sym (flat-kept task _ ((keeps-others task kind e th is found lock).woken task (KeepsStates-itself task)));
}
