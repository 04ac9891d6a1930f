-- An event leaves a state in shape, and one of its script.
use Rattle.std.proofs.Common.{◌≡◌, ℕ, zero, suc, ◌<◌, ◌≤◌, List, [], ◌∷◌, length, map, not, refl, sym, ap, ◌∙◌, subst, Option, Some, None, All, IfSome, length-set, unwrap_or}
use Rattle.std.specs.Prelude.{slice_get, sum}
use Rattle.std.proofs.lemmas.List.Elements.{All-filter}
use Rattle.rt_base.specs.Kind.{spins}
use Rattle.rt_base.specs.Script.{Script}
use Rattle.rt_base.specs.declared.call.Call.{Call}
use Rattle.rt_base.specs.declared.call.Call.TheVariants as calls
use Rattle.rt_base.specs.declared.id.Cpu.{Cpu}
use Rattle.rt_base.specs.declared.id.TaskId.{TaskId}
use Rattle.rt_base.specs.declared.kind.Kind.{Kind}
use Rattle.rt_base.specs.declared.limits.TheConstants.{MAX_CALLS}
use Rattle.rt_base.specs.declared.reply.Reply.{Reply}
use Rattle.rt_base.specs.declared.reply.Reply.TheVariants as replies
use Rattle.rt_model.specs.declared.event.Event.{Event}
use Rattle.rt_model.specs.declared.event_kind.EventKind.{EventKind}
use Rattle.rt_model.specs.declared.event_kind.EventKind.TheVariants as kinds
use Rattle.rt_model.specs.declared.phase.Phase.{Phase}
use Rattle.rt_model.specs.declared.row.Row.{Row}
use Rattle.rt_model.specs.Parts.{OwnerPart, TaskPart, ThreadPart, made_on, call_of, effective_of, kind_named}
use Rattle.rt_model.specs.Rows.{is_of}
use Rattle.rt_model.specs.State.{State, Shared, shared, thread_part, kinds_in}
use Rattle.rt_model.specs.steps.Lock.{left_by}
use Rattle.rt_model.specs.steps.Task.{rest_of}
use Rattle.rt_model.specs.steps.Chain.{requeued_where_old}
use Rattle.rt_model.specs.Effect.{Touched, Around, Effect, around}
use Rattle.rt_model.specs.Rules.{touched, effect}
use Rattle.rt_model.specs.StateAfter.{update, effect_in, lock_left, tasks_left, shared_after, thread_after, state_after}
use Rattle.rt_model.specs.steps.Thread.{holds_after, cpu_after, answered_with}
use Rattle.rt_model.specs.CallKinds.{IsServed, IsForKind, MovesWithin, OnEachCpu, CallsFit}
use Rattle.rt_model.specs.laws.Shape.{calls_of, IsShaped, IsOf, IsWithin}
use Rattle.rt_model.proofs.Lists.{length-update, All-at, All-update, All-default, length-at_lock, length-at_task, All-at_lock, All-at_task}
use Rattle.rt_model.proofs.Calling.{made-of}
use Rattle.rt_model.proofs.Queues.{All-insert_row}
use Rattle.rt_model.proofs.CellStepLemmas.{restored-like, leave_queue-like, interrupted-like, blocked_on-like, writer_rests-like, woken_by-like, lock_woken-like, length-with_top, length-where_changed}
use Rattle.rt_model.proofs.Links.{requeued-owner}
use Rattle.rt_model.proofs.Named.{requeued_within}
use Rattle.rt_model.proofs.PartsAfter.{OthersKeep, thread-phase}
use Rattle.rt_model.proofs.Within.{HoldsFit}
use Rattle.std.proofs.lemmas.List.{length-map}

abbrev pub OwnerIn : ℕ → OwnerPart → Type 0
OwnerIn n lock = IfSome lock.owner (λ t. t.0 < n)

abbrev pub RowsIn : ℕ → OwnerPart → Type 0
RowsIn n lock = All (λ (row : Row). row.who < n) lock.rows

abbrev pub KeptFits : ℕ → TaskPart → Type 0
KeptFits n task = length task.kept ≡ n

abbrev pub KindsFit : ℕ → ThreadPart → Type 0
KindsFit n thread = length thread.kinds ≡ n

abbrev pub AreServed : ℕ → ℕ → ℕ → ThreadPart → Type 0
AreServed cpus m n thread = All (OnEachCpu cpus (IsServed m n)) thread.calls

abbrev pub AreFit : ℕ → ThreadPart → Type 0
AreFit cpus thread = All (OnEachCpu cpus (IsForKind thread.kinds)) thread.calls

-- it is on one of so many processors, and stays on these
abbrev pub StaysOn : ℕ → ThreadPart → Type 0
StaysOn cpus thread = (thread.cpu.0 < cpus) × All (MovesWithin cpus) thread.calls

abbrev pub KnowsKinds : List Kind → ThreadPart → Type 0
KnowsKinds known thread = thread.kinds ≡ known

-- ---- a lock

owner-left : (n : ℕ) (kind : EventKind) (e : Event) (th : ThreadPart) (found : Around) → e.task.0 < n → (lock : OwnerPart) → OwnerIn n lock → OwnerIn n ((effect kind e th found).lock lock)
owner-left n kinds.Fast e th found lt lock is = lt
owner-left n kinds.Free e th found lt lock is = tt
owner-left n kinds.Take e th found lt lock is = lt
owner-left n kinds.Give e th found lt lock is = tt
owner-left n kinds.Walk e th found lt lock is = subst (λ (o : Option TaskId). IfSome o (λ t. t.0 < n)) (sym (requeued-owner e.other found.other lock)) is
owner-left n _ e th found lt lock is = is

requeued-rows : (n : ℕ) (u : Option TaskId) (task : TaskPart) (lock : OwnerPart) → IfSome u (λ t. t.0 < n) → RowsIn n lock → RowsIn n (requeued_where_old u task lock)
requeued-rows n None task lock lt all = all
requeued-rows n (Some u) task lock lt all = requeued_within n u task lock lt all

left-rows : (n : ℕ) (t : TaskId) (lock : OwnerPart) → RowsIn n lock → RowsIn n (left_by t lock)
left-rows n t lock all = All-filter (λ row. not (is_of t row)) (λ (row : Row). row.who < n) lock.rows all

rows-left : (n : ℕ) (kind : EventKind) (e : Event) (th : ThreadPart) (found : Around) → e.task.0 < n → IfSome e.other (λ t. t.0 < n) → (lock : OwnerPart) → RowsIn n lock → RowsIn n ((effect kind e th found).lock lock)
rows-left n kinds.Walk e th found lt other lock all = requeued-rows n e.other found.other lock other all
rows-left n kinds.Take e th found lt other lock all = left-rows n e.task lock all
rows-left n kinds.Leave e th found lt other lock all = left-rows n e.task lock all
rows-left n kinds.Cycle e th found lt other lock all = left-rows n e.task lock all
rows-left n kinds.Wait e th found lt other lock all = All-insert_row (λ (row : Row). row.who < n) (record { key = effective_of found.own; ticket = lock.ticket; who = e.task.0 }) lock.rows lt all
rows-left n _ e th found lt other lock all = all

-- ---- a task

fits-own : (n : ℕ) (kind : EventKind) (e : Event) (th : ThreadPart) (found : Around) (lock : OwnerPart) (task : TaskPart) → KeptFits n task → KeptFits n ((effect kind e th found).own lock task)
fits-own n kinds.Take e th found lock task fits = length-with_top e.lock _ _ ∙ (ap length (leave_queue-like (spins (kind_named th e.lock)) task).kept ∙ fits)
fits-own n kinds.Leave e th found lock task fits = ap length (interrupted-like (spins (kind_named th e.lock)) task).kept ∙ fits
fits-own n kinds.Cycle e th found lock task fits = ap length (leave_queue-like (spins (kind_named th e.lock)) task).kept ∙ fits
fits-own n kinds.Wait e th found lock task fits = ap length (blocked_on-like e.lock (rest_of (kind_named th e.lock) (call_of th)) task).kept ∙ fits
fits-own n kinds.WTake e th found lock task fits = ap length (restored-like (spins (kind_named th e.lock)) task).kept ∙ fits
fits-own n kinds.WSleep e th found lock task fits = ap length (writer_rests-like th.phase (rest_of (kind_named th e.lock) (call_of th)) task).kept ∙ fits
fits-own n kinds.Give e th found lock task fits = length-with_top e.lock None task ∙ fits
fits-own n _ e th found lock task fits = fits

fits-others : (n : ℕ) (kind : EventKind) (e : Event) (th : ThreadPart) (found : Around) (lock : OwnerPart) → OthersKeep (KeptFits n) (effect kind e th found) lock
fits-others n kinds.Wait e th found lock = record { owner = λ task fits. length-with_top e.lock _ task ∙ fits; other = λ task fits. fits; woken = λ task fits. fits }
fits-others n kinds.Leave e th found lock = record { owner = λ task fits. length-with_top e.lock _ task ∙ fits; other = λ task fits. fits; woken = λ task fits. fits }
fits-others n kinds.Cycle e th found lock = record { owner = λ task fits. length-with_top e.lock _ task ∙ fits; other = λ task fits. fits; woken = λ task fits. fits }
fits-others n kinds.Wake e th found lock = record { owner = λ task fits. fits; other = λ task fits. ap length (woken_by-like e.value task).like.kept ∙ fits; woken = λ task fits. fits }
fits-others n kinds.WWake e th found lock = record { owner = λ task fits. fits; other = λ task fits. fits; woken = λ task fits. ap length (lock_woken-like (spins (kind_named th e.lock)) task).like.kept ∙ fits }
fits-others n kinds.Give e th found lock = record { owner = λ task fits. fits; other = λ task fits. fits; woken = λ task fits. ap length (lock_woken-like (spins (kind_named th e.lock)) task).like.kept ∙ fits }
fits-others n kinds.Walk e th found lock = record {
  owner = λ task fits. length-where_changed e.lock found.lock.rows lock.rows task ∙ fits;
  other = λ task fits. fits;
  woken = λ task fits. ap length (lock_woken-like (spins (kind_named th e.lock)) task).like.kept ∙ fits;
}
fits-others n _ e th found lock = record { owner = λ task fits. fits; other = λ task fits. fits; woken = λ task fits. fits }

-- ---- a thread

-- the thread is on the processor that it was on, or its call has moved it to this one
pub data GoesTo (before : ThreadPart) (after : Cpu) : Type 0 where
  stays : after ≡ before.cpu → GoesTo before after
  moves : (to : Cpu) → call_of before ≡ Some (calls.Move to) → after ≡ to → GoesTo before after

-- what an event leaves of a thread
pub record KeepsThread (before after : ThreadPart) : Type 0 where
  pub kinds : after.kinds ≡ before.kinds
  pub calls : after.calls ≡ before.calls
  pub cpu : GoesTo before after.cpu
  pub holds : length after.holds ≡ length before.holds

length-holds_after : (thread : ThreadPart) (call : Option Call) (answer : Reply) → length (holds_after thread call answer) ≡ length thread.holds
length-holds_after thread (Some (calls.Lock l)) replies.Got = simp length-set
length-holds_after thread (Some (calls.LockInt l)) replies.Got = simp length-set
length-holds_after thread (Some (calls.TryLock l)) replies.Got = simp length-set
length-holds_after thread (Some (calls.Unlock l)) replies.Done = simp length-set
length-holds_after thread (Some (calls.Spin l)) replies.Got = simp length-set
length-holds_after thread (Some (calls.TrySpin l)) replies.Got = simp length-set
length-holds_after thread (Some (calls.Unspin l)) replies.Done = simp length-set
length-holds_after thread (Some (calls.Read l)) replies.Got = simp length-set
length-holds_after thread (Some (calls.TryRead l)) replies.Got = simp length-set
length-holds_after thread (Some (calls.Unread l)) replies.Done = simp length-set
length-holds_after thread (Some (calls.Write l)) replies.Got = simp length-set
length-holds_after thread (Some (calls.TryWrite l)) replies.Got = simp length-set
length-holds_after thread (Some (calls.Unwrite l)) replies.Done = simp length-set
length-holds_after thread (Some (calls.Downgrade l)) replies.Done = simp length-set
length-holds_after thread (Some (calls.Local l)) replies.Got = simp length-set
length-holds_after thread (Some (calls.Unlocal l)) replies.Done = simp length-set
length-holds_after thread call answer = refl

cpu-after : (thread : ThreadPart) (call : Option Call) (answer : Reply) → call_of thread ≡ call → GoesTo thread (cpu_after call answer thread.cpu)
cpu-after thread (Some (calls.Move to)) replies.Done is = moves to is refl
cpu-after thread _ _ is = stays refl

answer-left : (thread : ThreadPart) (phase : Phase) (count : ℕ) (reply : Option Reply) → KeepsThread thread (answered_with (record thread { phase = phase; migration = count }) reply)
answer-left thread phase count None = record { kinds = refl; calls = refl; cpu = stays refl; holds = refl }
answer-left thread phase count (Some answer) = record {
  kinds = refl;
  calls = refl;
  cpu = cpu-after thread (call_of thread) answer refl;
  holds = length-holds_after (record thread { phase = phase; migration = count }) (call_of thread) answer;
}

pub thread-keeps : (sh : Shared) (th : ThreadPart) (e : Event) → KeepsThread th (thread_after sh th e)
thread-keeps sh th e =
    let left = around (shared_after sh th e) (touched e.kind e) in
    let moved = thread-phase e.kind e th (around sh (touched e.kind e)) left th in
    subst (λ (thread : ThreadPart). KeepsThread th (answered_with thread e.reply)) (sym moved) (answer-left th ((effect_in sh th e).thread left th).phase ((effect_in sh th e).thread left th).migration e.reply)

-- calls that fit the kinds fit the same kinds
fits-still : (cpus : ℕ) (before after : ThreadPart) → after.kinds ≡ before.kinds → after.calls ≡ before.calls → AreFit cpus before → AreFit cpus after
fits-still cpus before after kinds calls fits =
    subst (λ (ks : List Kind). All (OnEachCpu cpus (IsForKind ks)) after.calls) (sym kinds) (subst (λ (cs : List Call). All (OnEachCpu cpus (IsForKind before.kinds)) cs) (sym calls) fits)

-- a `move` is to the processor that it names, wherever it is made
pub made-moves : (cpus : ℕ) (cpu : Cpu) (call : Call) → MovesWithin cpus call → MovesWithin cpus (made_on cpu call)
made-moves cpus cpu (calls.Move to) within = within
made-moves cpus cpu _ within = tt

stays-still : (cpus : ℕ) (before after : ThreadPart) → KeepsThread before after → StaysOn cpus before → StaysOn cpus after
stays-still cpus before after keeps on = (by_move keeps.cpu, subst (All (MovesWithin cpus)) (sym keeps.calls) on.1)
  where
    by_move : GoesTo before after.cpu → after.cpu.0 < cpus
    by_move (stays same) = subst (λ (cpu : Cpu). cpu.0 < cpus) (sym same) on.0
    by_move (moves to calling same) =
        let made = made-of before (calls.Move to) calling in
        let within : MovesWithin cpus made.listed = All-at (MovesWithin cpus) before.calls before.answered made.listed on.1 made.at in
        subst (λ (cpu : Cpu). cpu.0 < cpus) (sym same) (subst (MovesWithin cpus) (sym made.made) (made-moves cpus before.cpu made.listed within))

-- ---- the state

-- what a list is mapped to, where one is written that gives the same
map-write : {X Y : Type 0} (g : X → Y) (xs : List X) (i : ℕ) (x d : X) → g x ≡ g (unwrap_or (slice_get xs i) d) → map g (update xs i (λ old. x)) ≡ map g xs
map-write g [] i x d is = refl
map-write g (y ∷ xs) zero x d is = ap (λ z. z ∷ map g xs) is
map-write g (y ∷ xs) (suc i) x d is = ap (λ zs. g y ∷ zs) (map-write g xs i x d is)

tasks-keep : (P : TaskPart → Type 0) (named : Touched) (f : Effect) (lock : OwnerPart) (xs : List TaskPart) → ((task : TaskPart) → P task → P (f.own lock task)) → OthersKeep P f lock → All P xs → All P (tasks_left named f lock xs)
tasks-keep P named f lock xs own others all =
    All-at_task P _ named.woken (f.woken lock) others.woken (All-at_task P _ named.other (f.other lock) others.other
    (All-at_task P _ named.owner (f.owner lock) others.owner (All-at_task P xs named.own (f.own lock) own all)))

length-tasks : (named : Touched) (f : Effect) (lock : OwnerPart) (xs : List TaskPart) → length (tasks_left named f lock xs) ≡ length xs
length-tasks named f lock xs =
    length-at_task _ named.woken (f.woken lock) ∙ (length-at_task _ named.other (f.other lock) ∙ (length-at_task _ named.owner (f.owner lock) ∙ length-at_task xs named.own (f.own lock)))

module _ (s : State) (e : Event) (lt : e.task.0 < length s.threads) where
  locks : length (state_after s e).locks ≡ length s.locks
  locks = length-at_lock s.locks (touched e.kind e).lock (effect_in (shared s) (thread_part s e.task) e).lock

  tasks : length (state_after s e).tasks ≡ length s.tasks
  tasks = length-tasks (touched e.kind e) (effect_in (shared s) (thread_part s e.task) e) (lock_left (shared s) (thread_part s e.task) e) s.tasks

  threads : length (state_after s e).threads ≡ length s.threads
  threads = length-update s.threads e.task.0 _

  -- what threads have that a thread keeps
  threads-keep : (P : ThreadPart → Type 0) → ((after : ThreadPart) → KeepsThread (thread_part s e.task) after → P (thread_part s e.task) → P after) → All P s.threads → All P (state_after s e).threads
  threads-keep P keeps all = All-update P s.threads e.task.0 _ (λ old was. keeps _ (thread-keeps (shared s) (thread_part s e.task) e) (All-default P s.threads e.task.0 _ all lt)) all

  -- each makes the calls that it made
  same_calls : map (λ (thread : ThreadPart). thread.calls) (state_after s e).threads ≡ map (λ (thread : ThreadPart). thread.calls) s.threads
  same_calls = map-write (λ (thread : ThreadPart). thread.calls) s.threads e.task.0 _ _ (thread-keeps (shared s) (thread_part s e.task) e).calls

  few_calls : calls_of s.threads ≤ MAX_CALLS → calls_of (state_after s e).threads ≤ MAX_CALLS
  few_calls few = subst (λ (n : ℕ). n ≤ MAX_CALLS) (sym (ap sum (map-write (λ (thread : ThreadPart). length thread.calls) s.threads e.task.0 _ _ (ap length (thread-keeps (shared s) (thread_part s e.task) e).calls)))) few

  -- its calls fit
  pub CallsFit-after : CallsFit s → CallsFit (state_after s e)
  CallsFit-after fits =
      let n : ℕ = fits.cpus in
      let on = threads-keep (StaysOn n) (λ after is was. stays-still n (thread_part s e.task) after is was) (λ i d lt. (fits.on i d lt, fits.moves i d lt)) in
      record {
        cpus = n;
        on = λ i d lt. (on i d lt).0;
        moves = λ i d lt. (on i d lt).1;
        served = subst (λ (k : ℕ). All (AreServed n k (length (state_after s e).locks)) (state_after s e).threads) (sym threads)
            (subst (λ (k : ℕ). All (AreServed n (length s.threads) k) (state_after s e).threads) (sym locks)
            (threads-keep (AreServed n (length s.threads) (length s.locks)) (λ after is was. subst (All (OnEachCpu n (IsServed (length s.threads) (length s.locks)))) (sym is.calls) was) fits.served));
        fit = threads-keep (AreFit n) (λ after is was. fits-still n (thread_part s e.task) after is.kinds is.calls was) fits.fit;
      }

-- an event that names what is there leaves lists that fit together
pub IsShaped-after : (s : State) (e : Event) → IsWithin (length s.threads) (length s.locks) e → IsShaped s → IsShaped (state_after s e)
IsShaped-after s e within shaped =
    let th = thread_part s e.task in
    let found = around (shared s) (touched e.kind e) in
    let lock = lock_left (shared s) th e in
    let n = length s.locks in
    let same_locks = locks s e within.task in
    let same_threads = threads s e within.task in
    record {
      few_tasks = rw same_threads shaped.few_tasks;
      few_locks = rw same_locks shaped.few_locks;
      few_calls = few_calls s e within.task shaped.few_calls;
      readers = length-at_lock s.readers (touched e.kind e).readers _ ∙ (shaped.readers ∙ sym same_locks);
      tasks = tasks s e within.task ∙ (shaped.tasks ∙ sym same_threads);
      kept = subst (λ (k : ℕ). All (KeptFits k) (state_after s e).tasks) (sym same_locks)
          (tasks-keep (KeptFits n) (touched e.kind e) (effect_in (shared s) th e) lock s.tasks (fits-own n e.kind e th found lock) (fits-others n e.kind e th found lock) shaped.kept);
      kinds = subst (λ (k : ℕ). All (KindsFit k) (state_after s e).threads) (sym same_locks) (threads-keep s e within.task (KindsFit n) (λ after is was. ap length is.kinds ∙ was) shaped.kinds);
      known = shaped.known;
      alike = threads-keep s e within.task (KnowsKinds shaped.known) (λ after is was. is.kinds ∙ was) shaped.alike;
      holds = subst (λ (k : ℕ). All (HoldsFit k) (state_after s e).threads) (sym same_locks) (threads-keep s e within.task (HoldsFit n) (λ after is was. is.holds ∙ was) shaped.holds);
      owners = subst (λ (k : ℕ). All (OwnerIn k) (state_after s e).locks) (sym same_threads)
          (All-at_lock (OwnerIn (length s.threads)) s.locks (touched e.kind e).lock _ (owner-left (length s.threads) e.kind e th found within.task) shaped.owners);
      rows = subst (λ (k : ℕ). All (RowsIn k) (state_after s e).locks) (sym same_threads)
          (All-at_lock (RowsIn (length s.threads)) s.locks (touched e.kind e).lock _ (rows-left (length s.threads) e.kind e th found within.task within.other) shaped.rows);
    }

-- ---- the script

pub IsOf-after : (script : Script) (s : State) (e : Event) → e.task.0 < length s.threads → IsOf script s → IsOf script (state_after s e)
IsOf-after script s e lt is = record {
  locks = length-at_lock s.locks (touched e.kind e).lock _ ∙ is.locks;
  readers = length-at_lock s.readers (touched e.kind e).readers _ ∙ is.readers;
  tasks = tasks s e lt ∙ is.tasks;
  kinds = threads-keep s e lt (KnowsKinds (kinds_in script)) (λ after keeps was. keeps.kinds ∙ was) is.kinds;
  calls = same_calls s e lt ∙ is.calls;
}

pub IsOf-threads : (script : Script) (s : State) → IsOf script s → length s.threads ≡ length script.tasks
IsOf-threads script s is = sym (length-map s.threads (λ (thread : ThreadPart). thread.calls)) ∙ (ap length is.calls ∙ length-map script.tasks _)
