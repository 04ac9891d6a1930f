-- The parts of the state that an event leaves, each read at its number.
use Rattle.std.proofs.lemmas.Option.{unwrap_or-slice_get}
use Rattle.std.proofs.lemmas.List.{get_or-set_same, get_or-set_other}
use Rattle.std.proofs.Common.{◌≡◌, ◌⊎◌, inl, inr, ℕ, zero, suc, ◌<◌, Bool, true, false, List, [], ◌∷◌, length, refl, sym, ap, ◌∙◌, subst, arith, Option, Some, None, IfSome, unwrap_or}
use Rattle.std.specs.Prelude.{slice_get, nat_eq, slice_set}
use Rattle.rt_base.specs.declared.id.LockId.{LockId}
use Rattle.rt_base.specs.declared.id.TaskId.{TaskId}
use Rattle.rt_model.specs.declared.event.Event.{Event}
use Rattle.rt_model.specs.declared.event_kind.EventKind.{EventKind}
use Rattle.rt_model.specs.declared.event_kind.EventKind.TheVariants as kinds
use Rattle.rt_model.specs.declared.reader_cell.ReaderCell.{ReaderCell}
use Rattle.rt_model.specs.Parts.{OwnerPart, TaskPart, ThreadPart}
use Rattle.rt_model.specs.State.{State, shared, free_lock, no_readers, no_task, owner_part, reader_part, task_part, thread_part}
use Rattle.rt_model.specs.Effect.{Touched, Around, Effect, around}
use Rattle.rt_model.specs.Rules.{touched, effect}
use Rattle.rt_model.specs.events.Readers.{where_slept}
use Rattle.rt_model.specs.laws.Owners.{owned_by}
use Rattle.rt_model.specs.StateAfter.{update, at_lock, at_task, effect_in, lock_left, thread_after, state_after}
use Rattle.rt_model.proofs.Lists.{update-other, at_lock-none, length-at_task}
use Rattle.rt_model.proofs.Numbers.{same_task, other_number, at_each_lock, at_each_task}

-- an element of a list with one written
pub read-set_same : {X : Type 0} (xs : List X) (i : ℕ) (x d : X) → i < length xs → unwrap_or (slice_get (slice_set xs i x) i) d ≡ x
read-set_same xs i x d lt = unwrap_or-slice_get (slice_set xs i x) i d ∙ get_or-set_same xs i x d lt

pub read-set_other : {X : Type 0} (xs : List X) (i j : ℕ) (x d : X) → nat_eq i j ≡ false → unwrap_or (slice_get (slice_set xs i x) j) d ≡ unwrap_or (slice_get xs j) d
read-set_other xs i j x d ne =
    unwrap_or-slice_get (slice_set xs i x) j d ∙ (get_or-set_other xs i j x d (λ same. other_number i j ne (sym same)) ∙ sym (unwrap_or-slice_get xs j d))

-- and of one with one updated
pub read-update : {X : Type 0} (xs : List X) (i : ℕ) (f : X → X) (d : X) → i < length xs → unwrap_or (slice_get (update xs i f) i) d ≡ f (unwrap_or (slice_get xs i) d)
read-update [] i f d lt = absurd (omega (arith, lt))
read-update (x ∷ xs) zero f d lt = refl
read-update (x ∷ xs) (suc i) f d lt = read-update xs i f d (omega (arith, lt))

pub read-update_other : {X : Type 0} (xs : List X) (i j : ℕ) (f : X → X) (d : X) → nat_eq i j ≡ false → unwrap_or (slice_get (update xs i f) j) d ≡ unwrap_or (slice_get xs j) d
read-update_other {X} xs i j f d ne = ap (λ (o : Option X). unwrap_or o d) (update-other xs i j f (λ same. other_number i j ne same))

-- ---- an element of a list, with one updated

pub kept-at : {X : Type 0} (P : X → Type 0) (xs : List X) (i j : ℕ) (f : X → X) (d : X) → P (unwrap_or (slice_get xs j) d) → ((x : X) → P x → P (f x)) → P (unwrap_or (slice_get (update xs i f) j) d)
kept-at P [] i j f d was keeps = was
kept-at P (x ∷ xs) zero zero f d was keeps = keeps x was
kept-at P (x ∷ xs) zero (suc j) f d was keeps = was
kept-at P (x ∷ xs) (suc i) zero f d was keeps = was
kept-at P (x ∷ xs) (suc i) (suc j) f d was keeps = kept-at P xs i j f d was keeps

-- of a task, in a slot that keeps what holds
pub slot-keeps : (P : TaskPart → Type 0) (xs : List TaskPart) (named : Option TaskId) (u : TaskId) (f : TaskPart → TaskPart) → P (unwrap_or (slice_get xs u.0) no_task) → ((task : TaskPart) → P task → P (f task))
    → P (unwrap_or (slice_get (at_task xs named f) u.0) no_task)
slot-keeps P xs None u f was keeps = was
slot-keeps P xs (Some v) u f was keeps = kept-at P xs v.0 u.0 f no_task was keeps

-- and in one that changes the task that it names
pub slot-left : (P : TaskPart → Type 0) (xs : List TaskPart) (named : Option TaskId) (u : TaskId) (f : TaskPart → TaskPart) → IfSome named (λ v. v.0 < length xs)
    → (owned_by named u ≡ true → P (f (unwrap_or (slice_get xs u.0) no_task))) → (owned_by named u ≡ false → P (unwrap_or (slice_get xs u.0) no_task)) → P (unwrap_or (slice_get (at_task xs named f) u.0) no_task)
slot-left P xs None u f lt here there = there refl
slot-left P xs (Some v) u f lt here there = by_test (nat_eq v.0 u.0) refl
  where
    by_test : (b : Bool) → nat_eq v.0 u.0 ≡ b → P (unwrap_or (slice_get (update xs v.0 f) u.0) no_task)
    by_test true is =
        let same : v ≡ u = same_task v u is in
        subst P (sym (read-update xs u.0 f no_task (subst (λ (w : TaskId). w.0 < length xs) same lt)) ∙ ap (λ (w : TaskId). unwrap_or (slice_get (update xs w.0 f) u.0) no_task) (sym same)) (here is)
    by_test false is = subst P (sym (read-update_other xs v.0 u.0 f no_task is)) (there is)

-- ---- locks, of an event that comes about as x

-- the lock that it touches is as the effect says, and every other as it was
pub lock-made : (P : LockId → OwnerPart → Type 0) (s : State) (e x : Event) (l m : LockId) → e ≡ x → (touched x.kind x).lock ≡ Some l → l.0 < length s.locks
    → P l ((effect_in (shared s) (thread_part s x.task) x).lock (owner_part s l)) → (nat_eq l.0 m.0 ≡ false → P m (owner_part s m)) → P m (owner_part (state_after s e) m)
lock-made P s e x l m is named lt here there =
    subst (λ (y : Event). P m (owner_part (state_after s y) m)) (sym is)
    (at_each_lock (λ k. P k (owner_part (state_after s x) k)) l m (subst (P l) (sym changed) here) (λ ne. subst (P m) (sym (kept ne)) (there ne)))
  where
    f : OwnerPart → OwnerPart
    f = (effect_in (shared s) (thread_part s x.task) x).lock

    at : Option LockId → LockId → OwnerPart
    at o k = owner_part (record s { locks = at_lock s.locks o f }) k

    changed : owner_part (state_after s x) l ≡ f (owner_part s l)
    changed = ap (λ (o : Option LockId). at o l) named ∙ read-update s.locks l.0 f free_lock lt

    kept : nat_eq l.0 m.0 ≡ false → owner_part (state_after s x) m ≡ owner_part s m
    kept ne = ap (λ (o : Option LockId). at o m) named ∙ read-update_other s.locks l.0 m.0 f free_lock ne

-- what the effect keeps of any lock
pub lock-kept : (P : OwnerPart → Type 0) (s : State) (e x : Event) (m : LockId) → e ≡ x → P (owner_part s m) → ((lock : OwnerPart) → P lock → P ((effect_in (shared s) (thread_part s x.task) x).lock lock)) → P (owner_part (state_after s e) m)
lock-kept P s e x m is was keeps = subst (λ (y : Event). P (owner_part (state_after s y) m)) (sym is) (by_name (touched x.kind x).lock)
  where
    f : OwnerPart → OwnerPart
    f = (effect_in (shared s) (thread_part s x.task) x).lock

    by_name : (o : Option LockId) → P (owner_part (record s { locks = at_lock s.locks o f }) m)
    by_name None = was
    by_name (Some l) = kept-at P s.locks l.0 m.0 f free_lock was keeps

-- where it touches none, or leaves each as it was, every lock is as it was
pub locks-kept : (s : State) (e : Event) (m : LockId) → ((lock : OwnerPart) → (effect_in (shared s) (thread_part s e.task) e).lock lock ≡ lock) → owner_part (state_after s e) m ≡ owner_part s m
locks-kept s e m same = ap (λ (xs : List OwnerPart). owner_part (record s { locks = xs }) m) (at_lock-none s.locks (touched e.kind e).lock _ same)

-- ---- reader parts, likewise

pub readers-made : (P : LockId → ReaderCell → Type 0) (s : State) (e x : Event) (l m : LockId) → e ≡ x → (touched x.kind x).readers ≡ Some l → l.0 < length s.readers
    → P l ((effect_in (shared s) (thread_part s x.task) x).readers (reader_part s l)) → (nat_eq l.0 m.0 ≡ false → P m (reader_part s m)) → P m (reader_part (state_after s e) m)
readers-made P s e x l m is named lt here there =
    subst (λ (y : Event). P m (reader_part (state_after s y) m)) (sym is)
    (at_each_lock (λ k. P k (reader_part (state_after s x) k)) l m (subst (P l) (sym changed) here) (λ ne. subst (P m) (sym (kept ne)) (there ne)))
  where
    f : ReaderCell → ReaderCell
    f = (effect_in (shared s) (thread_part s x.task) x).readers

    at : Option LockId → LockId → ReaderCell
    at o k = reader_part (record s { readers = at_lock s.readers o f }) k

    changed : reader_part (state_after s x) l ≡ f (reader_part s l)
    changed = ap (λ (o : Option LockId). at o l) named ∙ read-update s.readers l.0 f no_readers lt

    kept : nat_eq l.0 m.0 ≡ false → reader_part (state_after s x) m ≡ reader_part s m
    kept ne = ap (λ (o : Option LockId). at o m) named ∙ read-update_other s.readers l.0 m.0 f no_readers ne

-- where it touches none, or leaves each as it was, every reader part is as it was
pub reader_parts-kept : (s : State) (e : Event) (m : LockId) → ((cell : ReaderCell) → (effect_in (shared s) (thread_part s e.task) e).readers cell ≡ cell) → reader_part (state_after s e) m ≡ reader_part s m
reader_parts-kept s e m same = ap (λ (xs : List ReaderCell). reader_part (record s { readers = xs }) m) (at_lock-none s.readers (touched e.kind e).readers _ same)

-- an event of this kind changes a reader part
abbrev pub changes_readers : EventKind → Bool
changes_readers kinds.RIn = true
changes_readers kinds.ROut = true
changes_readers kinds.Unbias = true
changes_readers kinds.WTake = true
changes_readers kinds.WOpen = true
changes_readers _ = false

pub readers-left : (kind : EventKind) (e : Event) (th : ThreadPart) (found : Around) → changes_readers kind ≡ false → (cell : ReaderCell) → (effect kind e th found).readers cell ≡ cell
readers-left kinds.RIn e th found is cell = cc
readers-left kinds.ROut e th found is cell = cc
readers-left kinds.Unbias e th found is cell = cc
readers-left kinds.WTake e th found is cell = cc
readers-left kinds.WOpen e th found is cell = cc
readers-left _ e th found is cell = refl

-- and no other kind does
pub readers-kept : (s : State) (e x : Event) (m : LockId) → e ≡ x → changes_readers x.kind ≡ false → reader_part (state_after s e) m ≡ reader_part s m
readers-kept s e x m is kept =
    subst (λ (y : Event). reader_part (state_after s y) m ≡ reader_part s m) (sym is)
    (reader_parts-kept s x m (readers-left x.kind x (thread_part s x.task) (around (shared s) (touched x.kind x)) kept))

-- ---- threads

-- its own thread is as the effect and the answer say
pub thread-own : (s : State) (e x : Event) → e ≡ x → x.task.0 < length s.threads → thread_part (state_after s e) x.task ≡ thread_after (shared s) (thread_part s x.task) x
thread-own s e x is lt =
    ap (λ (y : Event). thread_part (state_after s y) x.task) is
    ∙ read-update s.threads x.task.0 (λ old. thread_after (shared s) (thread_part s x.task) x) (thread_part (record s { threads = [] }) x.task) lt

-- and every other as it was
pub thread-other : (s : State) (e : Event) (u : TaskId) → nat_eq e.task.0 u.0 ≡ false → thread_part (state_after s e) u ≡ thread_part s u
thread-other s e u ne = read-update_other s.threads e.task.0 u.0 (λ old. thread_after (shared s) (thread_part s e.task) e) (thread_part (record s { threads = [] }) u) ne

pub thread-made : (P : TaskId → ThreadPart → Type 0) (s : State) (e x : Event) (u : TaskId) → e ≡ x → x.task.0 < length s.threads
    → P x.task (thread_after (shared s) (thread_part s x.task) x) → (nat_eq x.task.0 u.0 ≡ false → P u (thread_part s u)) → P u (thread_part (state_after s e) u)
thread-made P s e x u is lt own others =
    subst (λ (y : Event). P u (thread_part (state_after s y) u)) (sym is)
    (at_each_task (λ v. P v (thread_part (state_after s x) v)) x.task u (subst (P x.task) (sym (thread-own s x x refl lt)) own) (λ ne. subst (P u) (sym (thread-other s x u ne)) (others ne)))

-- an effect leaves all of a thread but its phase, and where it sets the bit its migration count
pub thread-phase : (kind : EventKind) (e : Event) (th : ThreadPart) (found left : Around) (old : ThreadPart)
    → (effect kind e th found).thread left old ≡ record old { phase = ((effect kind e th found).thread left old).phase; migration = ((effect kind e th found).thread left old).migration }
thread-phase kinds.Mark e th found left old = refl
thread-phase _ e th found left old = refl

-- ---- tasks, slot by slot

-- the slots but that of the event's own task keep what holds
pub record OthersKeep (P : TaskPart → Type 0) (f : Effect) (lock : OwnerPart) : Type 0 where
  pub owner : (task : TaskPart) → P task → P (f.owner lock task)
  pub other : (task : TaskPart) → P task → P (f.other lock task)
  pub woken : (task : TaskPart) → P task → P (f.woken lock task)

after-own : (P : TaskPart → Type 0) (s : State) (e : Event) (u : TaskId) → OthersKeep P (effect_in (shared s) (thread_part s e.task) e) (lock_left (shared s) (thread_part s e.task) e)
    → P (unwrap_or (slice_get (at_task s.tasks (touched e.kind e).own ((effect_in (shared s) (thread_part s e.task) e).own (lock_left (shared s) (thread_part s e.task) e))) u.0) no_task) → P (task_part (state_after s e) u)
after-own P s e u keep was =
    let f = effect_in (shared s) (thread_part s e.task) e in
    let lock = lock_left (shared s) (thread_part s e.task) e in
    let named = touched e.kind e in
    slot-keeps P _ named.woken u (f.woken lock) (slot-keeps P _ named.other u (f.other lock) (slot-keeps P _ named.owner u (f.owner lock) was keep.owner) keep.other) keep.woken

-- ---- what an event of a kind keeps of a task, whatever it finds

pub task-keeps : (P : TaskPart → Type 0) (s : State) (e : Event) (u : TaskId) → P (task_part s u)
    → ((found : Around) (lock : OwnerPart) (task : TaskPart) → P task → P ((effect e.kind e (thread_part s e.task) found).own lock task))
    → ((found : Around) (lock : OwnerPart) → OthersKeep P (effect e.kind e (thread_part s e.task) found) lock) → P (task_part (state_after s e) u)
task-keeps P s e u was own others =
    let found = around (shared s) (touched e.kind e) in
    let lock = lock_left (shared s) (thread_part s e.task) e in
    after-own P s e u (others found lock) (slot-keeps P s.tasks (touched e.kind e).own u _ was (own found lock))

-- the slot of its own task has that task, or none, or changes nothing
abbrev IsOwnSlot : Event → Option TaskId → (TaskPart → TaskPart) → Type 0
IsOwnSlot e named f = (named ≡ Some e.task) ⊎ ((named ≡ None) ⊎ ((task : TaskPart) → f task ≡ task))

slept-slot : (e : Event) (owner : Option TaskId) (f : TaskPart → TaskPart) → IsOwnSlot e (where_slept e.task owner) f
slept-slot e None f = inr (inl refl)
slept-slot e (Some owner) f = inl refl

own-slot : (kind : EventKind) (e : Event) (th : ThreadPart) (found : Around) (lock : OwnerPart) → IsOwnSlot e (touched kind e).own ((effect kind e th found).own lock)
own-slot kinds.Take e th found lock = inl refl
own-slot kinds.Wait e th found lock = inl refl
own-slot kinds.Again e th found lock = inl refl
own-slot kinds.Leave e th found lock = inl refl
own-slot kinds.Cycle e th found lock = inl refl
own-slot kinds.Give e th found lock = inl refl
own-slot kinds.State e th found lock = inl refl
own-slot kinds.Sched e th found lock = inl refl
own-slot kinds.WSleep e th found lock = inl refl
own-slot kinds.WTake e th found lock = slept-slot e e.owner ((effect kinds.WTake e th found).own lock)
own-slot _ e th found lock = inr (inr (λ task. refl))

-- so what the other slots keep is kept of every other task
pub other-keeps : (P : TaskPart → Type 0) (s : State) (e : Event) (u : TaskId) → nat_eq e.task.0 u.0 ≡ false → P (task_part s u)
    → ((found : Around) (lock : OwnerPart) → OthersKeep P (effect e.kind e (thread_part s e.task) found) lock) → P (task_part (state_after s e) u)
other-keeps P s e u ne was others = after-own P s e u (others found lock) (by_slot (own-slot e.kind e (thread_part s e.task) found lock))
  where
    found : Around
    found = around (shared s) (touched e.kind e)

    lock : OwnerPart
    lock = lock_left (shared s) (thread_part s e.task) e

    f : TaskPart → TaskPart
    f = (effect_in (shared s) (thread_part s e.task) e).own lock

    Read : Option TaskId → Type 0
    Read named = P (unwrap_or (slice_get (at_task s.tasks named f) u.0) no_task)

    by_slot : IsOwnSlot e (touched e.kind e).own f → Read (touched e.kind e).own
    by_slot (inl named) = subst Read (sym named) (subst P (sym (read-update_other s.tasks e.task.0 u.0 f no_task ne)) was)
    by_slot (inr (inl none)) = subst Read (sym none) was
    by_slot (inr (inr same)) = slot-keeps P s.tasks (touched e.kind e).own u f was (λ task is. subst P (sym (same task)) is)

-- ---- what an event that comes about as x leaves of a task

-- its own task is as the effect says, and every other as it was
pub own-made : (P : TaskId → TaskPart → Type 0) (s : State) (e x : Event) (t u : TaskId) → e ≡ x → (touched x.kind x).own ≡ Some t → t.0 < length s.tasks
    → OthersKeep (P u) (effect_in (shared s) (thread_part s x.task) x) (lock_left (shared s) (thread_part s x.task) x)
    → P t ((effect_in (shared s) (thread_part s x.task) x).own (lock_left (shared s) (thread_part s x.task) x) (task_part s t)) → (nat_eq t.0 u.0 ≡ false → P u (task_part s u)) → P u (task_part (state_after s e) u)
own-made P s e x t u is named lt keep own others =
    subst (λ (y : Event). P u (task_part (state_after s y) u)) (sym is)
    (after-own (P u) s x u keep (subst (λ (o : Option TaskId). P u (unwrap_or (slice_get (at_task s.tasks o f) u.0) no_task)) (sym named) (at_each_task Read t u changed kept)))
  where
    f : TaskPart → TaskPart
    f = (effect_in (shared s) (thread_part s x.task) x).own (lock_left (shared s) (thread_part s x.task) x)

    Read : TaskId → Type 0
    Read v = P v (unwrap_or (slice_get (update s.tasks t.0 f) v.0) no_task)

    changed : Read t
    changed = subst (P t) (sym (read-update s.tasks t.0 f no_task lt)) own

    kept : nat_eq t.0 u.0 ≡ false → Read u
    kept ne = subst (P u) (sym (read-update_other s.tasks t.0 u.0 f no_task ne)) (others ne)

-- the lock's owner changes after the event's own task
pub owner-made : (P mid : TaskPart → Type 0) (s : State) (e x : Event) (u : TaskId) → e ≡ x → IfSome (touched x.kind x).owner (λ v. v.0 < length s.tasks) → mid (task_part s u)
    → ((task : TaskPart) → mid task → mid ((effect_in (shared s) (thread_part s x.task) x).own (lock_left (shared s) (thread_part s x.task) x) task))
    → ((task : TaskPart) → mid task → owned_by (touched x.kind x).owner u ≡ true → P ((effect_in (shared s) (thread_part s x.task) x).owner (lock_left (shared s) (thread_part s x.task) x) task))
    → ((task : TaskPart) → mid task → owned_by (touched x.kind x).owner u ≡ false → P task)
    → ((task : TaskPart) → P task → P ((effect_in (shared s) (thread_part s x.task) x).other (lock_left (shared s) (thread_part s x.task) x) task))
    → ((task : TaskPart) → P task → P ((effect_in (shared s) (thread_part s x.task) x).woken (lock_left (shared s) (thread_part s x.task) x) task)) → P (task_part (state_after s e) u)
owner-made P mid s e x u is lt was own mine others other woken =
    let f = effect_in (shared s) (thread_part s x.task) x in
    let lock = lock_left (shared s) (thread_part s x.task) x in
    let named = touched x.kind x in
    let first = at_task s.tasks named.own (f.own lock) in
    let at_mid = slot-keeps mid s.tasks named.own u (f.own lock) was own in
    let long : length first ≡ length s.tasks = length-at_task s.tasks named.own (f.own lock) in
    subst (λ (y : Event). P (task_part (state_after s y) u)) (sym is)
    (slot-keeps P _ named.woken u (f.woken lock) (slot-keeps P _ named.other u (f.other lock)
    (slot-left P first named.owner u (f.owner lock) (subst (λ (n : ℕ). IfSome named.owner (λ v. v.0 < n)) (sym long) lt) (mine _ at_mid) (others _ at_mid)) other) woken)

-- ---- what the slots leave of one task, one after another

-- each slot after that of the event's own task names task u, or another
pub record SlotsLeave (first second third P : TaskPart → Type 0) (named : Touched) (f : Effect) (lock : OwnerPart) (u : TaskId) : Type 0 where
  pub owner : (task : TaskPart) → first task → owned_by named.owner u ≡ true → second (f.owner lock task)
  pub not_owner : (task : TaskPart) → first task → owned_by named.owner u ≡ false → second task
  pub other : (task : TaskPart) → second task → owned_by named.other u ≡ true → third (f.other lock task)
  pub not_other : (task : TaskPart) → second task → owned_by named.other u ≡ false → third task
  pub woken : (task : TaskPart) → third task → owned_by named.woken u ≡ true → P (f.woken lock task)
  pub not_woken : (task : TaskPart) → third task → owned_by named.woken u ≡ false → P task

-- the tasks that the slots name are there
pub record SlotsThere (named : Touched) (tasks : ℕ) : Type 0 where
  pub owner : IfSome named.owner (λ v. v.0 < tasks)
  pub other : IfSome named.other (λ v. v.0 < tasks)
  pub woken : IfSome named.woken (λ v. v.0 < tasks)

-- from what the slot of its own task leaves on
slots-left : (first second third P : TaskPart → Type 0) (s : State) (e x : Event) (u : TaskId) → e ≡ x → SlotsThere (touched x.kind x) (length s.tasks)
    → first (unwrap_or (slice_get (at_task s.tasks (touched x.kind x).own ((effect_in (shared s) (thread_part s x.task) x).own (lock_left (shared s) (thread_part s x.task) x))) u.0) no_task)
    → SlotsLeave first second third P (touched x.kind x) (effect_in (shared s) (thread_part s x.task) x) (lock_left (shared s) (thread_part s x.task) x) u → P (task_part (state_after s e) u)
slots-left first second third P s e x u is there at_own leave =
    subst (λ (y : Event). P (task_part (state_after s y) u)) (sym is)
    (slot-left P others named.woken u (f.woken lock) (subst (λ (n : ℕ). IfSome named.woken (λ v. v.0 < n)) (sym (long_others ∙ (long_owners ∙ long_own))) there.woken)
    (leave.woken _ at_other) (leave.not_woken _ at_other))
  where
    f : Effect
    f = effect_in (shared s) (thread_part s x.task) x

    lock : OwnerPart
    lock = lock_left (shared s) (thread_part s x.task) x

    named : Touched
    named = touched x.kind x

    own_left : List TaskPart
    own_left = at_task s.tasks named.own (f.own lock)

    owners : List TaskPart
    owners = at_task own_left named.owner (f.owner lock)

    others : List TaskPart
    others = at_task owners named.other (f.other lock)

    long_own : length own_left ≡ length s.tasks
    long_own = length-at_task s.tasks named.own (f.own lock)

    long_owners : length owners ≡ length own_left
    long_owners = length-at_task own_left named.owner (f.owner lock)

    long_others : length others ≡ length owners
    long_others = length-at_task owners named.other (f.other lock)

    at_owner : second (unwrap_or (slice_get owners u.0) no_task)
    at_owner =
        slot-left second own_left named.owner u (f.owner lock) (subst (λ (n : ℕ). IfSome named.owner (λ v. v.0 < n)) (sym long_own) there.owner) (leave.owner _ at_own) (leave.not_owner _ at_own)

    at_other : third (unwrap_or (slice_get others u.0) no_task)
    at_other =
        slot-left third owners named.other u (f.other lock) (subst (λ (n : ℕ). IfSome named.other (λ v. v.0 < n)) (sym (long_owners ∙ long_own)) there.other) (leave.other _ at_owner) (leave.not_other _ at_owner)

-- where the slot of its own task keeps what holds
pub slots-made : (first second third P : TaskPart → Type 0) (s : State) (e x : Event) (u : TaskId) → e ≡ x → SlotsThere (touched x.kind x) (length s.tasks) → first (task_part s u)
    → ((task : TaskPart) → first task → first ((effect_in (shared s) (thread_part s x.task) x).own (lock_left (shared s) (thread_part s x.task) x) task))
    → SlotsLeave first second third P (touched x.kind x) (effect_in (shared s) (thread_part s x.task) x) (lock_left (shared s) (thread_part s x.task) x) u → P (task_part (state_after s e) u)
slots-made first second third P s e x u is there was own leave =
    slots-left first second third P s e x u is there
    (slot-keeps first s.tasks (touched x.kind x).own u ((effect_in (shared s) (thread_part s x.task) x).own (lock_left (shared s) (thread_part s x.task) x)) was own) leave

-- and where its own task changes before the others
pub own-slots-made : (first second third P : TaskPart → Type 0) (s : State) (e x : Event) (u : TaskId) → e ≡ x → SlotsThere (touched x.kind x) (length s.tasks)
    → IfSome (touched x.kind x).own (λ v. v.0 < length s.tasks)
    → (owned_by (touched x.kind x).own u ≡ true → first ((effect_in (shared s) (thread_part s x.task) x).own (lock_left (shared s) (thread_part s x.task) x) (task_part s u)))
    → (owned_by (touched x.kind x).own u ≡ false → first (task_part s u))
    → SlotsLeave first second third P (touched x.kind x) (effect_in (shared s) (thread_part s x.task) x) (lock_left (shared s) (thread_part s x.task) x) u → P (task_part (state_after s e) u)
own-slots-made first second third P s e x u is there lt own not_own leave =
    slots-left first second third P s e x u is there
    (slot-left first s.tasks (touched x.kind x).own u ((effect_in (shared s) (thread_part s x.task) x).own (lock_left (shared s) (thread_part s x.task) x)) lt own not_own) leave

-- another task than these changes after the lock's owner
pub other-made : (P mid : TaskPart → Type 0) (s : State) (e x : Event) (u : TaskId) → e ≡ x → SlotsThere (touched x.kind x) (length s.tasks) → mid (task_part s u)
    → ((task : TaskPart) → mid task → mid ((effect_in (shared s) (thread_part s x.task) x).own (lock_left (shared s) (thread_part s x.task) x) task))
    → ((task : TaskPart) → mid task → mid ((effect_in (shared s) (thread_part s x.task) x).owner (lock_left (shared s) (thread_part s x.task) x) task))
    → ((task : TaskPart) → mid task → owned_by (touched x.kind x).other u ≡ true → P ((effect_in (shared s) (thread_part s x.task) x).other (lock_left (shared s) (thread_part s x.task) x) task))
    → ((task : TaskPart) → mid task → owned_by (touched x.kind x).other u ≡ false → P task)
    → ((task : TaskPart) → P task → P ((effect_in (shared s) (thread_part s x.task) x).woken (lock_left (shared s) (thread_part s x.task) x) task)) → P (task_part (state_after s e) u)
other-made P mid s e x u is there was own owner mine others woken =
    slots-made mid mid P P s e x u is there was own (record {
      owner = λ task m its. owner task m;
      not_owner = λ task m its. m;
      other = mine;
      not_other = others;
      woken = λ task m its. woken task m;
      not_woken = λ task m its. m;
    })
