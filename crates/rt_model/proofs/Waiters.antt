-- What a lawful state says of a task in a phase.
use Rattle.std.proofs.Common.{◌≡◌, ◌≢◌, ℕ, ◌<◌, ◌≤◌, false, cond, List, [], ◌∷◌, length, arith, refl, sym, ap, ◌∙◌, subst, Option, Some, None, IfSome}
use Rattle.std.specs.Prelude.{nat_eq, option_map, option_and_then}
use Rattle.std.proofs.lemmas.Bool.Decides.{nat_tests}
use Rattle.std.proofs.lemmas.List.Elements.{All-head, All-tail}
use Rattle.rt_base.specs.declared.call.Call.{Call}
use Rattle.rt_base.specs.declared.id.LockId.{LockId}
use Rattle.rt_base.specs.declared.id.TaskId.{TaskId}
use Rattle.rt_model.specs.declared.event.Event.{Event}
use Rattle.rt_model.specs.declared.phase.Phase.{Phase}
use Rattle.rt_model.specs.declared.phase.Phase.TheVariants as phases
use Rattle.rt_model.specs.declared.phase.Route.{Route}
use Rattle.rt_model.specs.declared.phase.Route.TheVariants.{Full, Short}
use Rattle.rt_model.specs.Parts.{ThreadPart, call_of}
use Rattle.rt_model.specs.Rows.{queued_key}
use Rattle.rt_model.specs.State.{State, owner_part, task_part, thread_part}
use Rattle.rt_model.specs.Choice.{called_lock, present_lock}
use Rattle.rt_model.specs.CallKinds.{IsServed, IsPhaseOf, CallsFit}
use Rattle.rt_model.specs.laws.Lawful.{IsLawful}
use Rattle.rt_model.specs.laws.Queued.{awaited_in, asked_in, QueuedLaw}
use Rattle.rt_model.specs.laws.Rows.{key_at}
use Rattle.rt_model.specs.laws.States.{has_slept}
use Rattle.rt_model.specs.laws.Owners.{owned_by}
use Rattle.rt_model.specs.laws.Phases.{PhasesLaw}
use Rattle.rt_model.specs.laws.Walks.{IsToConfirm, IsWalkOf}
use Rattle.rt_model.proofs.Calling.{IsIn, served_call, WaitsFor, waits-holds, waits-called, waits-about, Asks, asks-present}
use Rattle.rt_model.proofs.events.Acquire.{TakesIn, from_slow, from_wait, from_trying}
use Rattle.rt_model.proofs.events.Walk.{WalksIn, by_full, by_short, IsWalk}

-- the lock on which a task is blocked
abbrev pub blocking : Option (LockId × ℕ) → Option LockId
blocking blocked = option_map (λ (at : LockId × ℕ). at.0) blocked

pub not_blocking : (blocked : Option (LockId × ℕ)) → blocking blocked ≡ None → blocked ≡ None
not_blocking None is = refl
not_blocking (Some at) is = cc

pub key_elsewhere : (blocked : Option (LockId × ℕ)) (l m : LockId) → blocking blocked ≡ Some l → nat_eq l.0 m.0 ≡ false → key_at blocked m ≡ None
key_elsewhere None l m is ne = refl
key_elsewhere (Some at) l m is ne = let same : at.0 ≡ l = cc in subst (λ (k : LockId). cond (nat_eq k.0 m.0) (Some at.1) None ≡ None) (sym same) (rw ne refl)

module _ (s : State) (made : ℕ) (t : TaskId) (lawful : IsLawful s made) where
  -- a task is blocked on what it waits for in its phase
  pub awaited : (phase : Phase) (call : Call) → IsIn s t phase call → blocking (task_part s t).blocked ≡ awaited_in phase (called_lock call)
  awaited phase call at =
      subst (λ (p : Phase). blocking (task_part s t).blocked ≡ awaited_in p (called_lock call)) at.phased
      (subst (λ (c : Option Call). blocking (task_part s t).blocked ≡ awaited_in (thread_part s t).phase (option_and_then called_lock c)) at.calling
      (lawful.queued.blocked t))

  pub asks-awaited : (phase : Phase) (l : LockId) → Asks s t phase l → blocking (task_part s t).blocked ≡ awaited_in phase (Some l)
  asks-awaited phase l is = awaited phase is.call is.at ∙ ap (awaited_in phase) (waits-called is.call l is.waits_for)

  -- in a phase in which it waits for no lock it is blocked on nothing
  pub idle-blocked : (phase : Phase) (call : Call) → IsIn s t phase call → awaited_in phase (called_lock call) ≡ None → (task_part s t).blocked ≡ None
  idle-blocked phase call at idle = not_blocking (task_part s t).blocked (awaited phase call at ∙ idle)

  -- so before a call's first event and with the bit set
  pub start-blocked : (call : Call) → IsIn s t phases.Start call → (task_part s t).blocked ≡ None
  start-blocked call at = idle-blocked phases.Start call at refl

  pub slow-blocked : (call : Call) → IsIn s t phases.Slow call → (task_part s t).blocked ≡ None
  slow-blocked call at = idle-blocked phases.Slow call at refl

  -- one that takes a lock, or waits, is blocked on no other
  pub wait-elsewhere : (l m : LockId) → Asks s t phases.Wait l → nat_eq l.0 m.0 ≡ false → key_at (task_part s t).blocked m ≡ None
  wait-elsewhere l m is ne = key_elsewhere (task_part s t).blocked l m (asks-awaited phases.Wait l is) ne

  pub slow-nowhere : (m : LockId) (call : Call) → IsIn s t phases.Slow call → key_at (task_part s t).blocked m ≡ None
  slow-nowhere m call at = ap (λ (b : Option (LockId × ℕ)). key_at b m) (slow-blocked call at)

  pub slow-unqueued : (m : LockId) (call : Call) → IsIn s t phases.Slow call → queued_key t (owner_part s m).rows ≡ None
  slow-unqueued m call at = lawful.rows.rows m t ∙ slow-nowhere m call at

  -- and with the bit set it doesn't own the lock that it asks for
  pub slow-unowned : (l : LockId) → Asks s t phases.Slow l → owned_by (owner_part s l).owner t ≡ false
  slow-unowned l is =
      subst (λ (lock : Option LockId). IfSome (asked_in phases.Slow lock) (λ k. owned_by (owner_part s k).owner t ≡ false)) (asks-present s t phases.Slow l is)
      (subst (λ (p : Phase). IfSome (asked_in p (present_lock (thread_part s t))) (λ k. owned_by (owner_part s k).owner t ≡ false)) is.at.phased (lawful.queued.asking t))

  -- a task that takes a lock is blocked on no other
  pub take-elsewhere : (l m : LockId) → TakesIn s t l → nat_eq l.0 m.0 ≡ false → key_at (task_part s t).blocked m ≡ None
  take-elsewhere l m (from_slow is) ne = slow-nowhere m is.call is.at
  take-elsewhere l m (from_wait is awake) ne = wait-elsewhere l m is ne
  take-elsewhere l m (from_trying is) ne = ap (λ (b : Option (LockId × ℕ)). key_at b m) (start-blocked is.call is.at)

-- ---- who is blocked, and on what

-- a task that is blocked doesn't sleep for readers
pub queued-awake : (s : State) (u : TaskId) (l : LockId) → QueuedLaw s → blocking (task_part s u).blocked ≡ Some l → has_slept (thread_part s u).phase ≡ false
queued-awake s u l queued is = by_phase (thread_part s u).phase (sym (queued.blocked u) ∙ is)
  where
    by_phase : (phase : Phase) → awaited_in phase (present_lock (thread_part s u)) ≡ Some l → has_slept phase ≡ false
    by_phase phases.WWait waits = cc
    by_phase _ waits = refl

-- the phases in which a task is queued: it waits, or its own full walk is under way or to be confirmed
pub data QueuedIn (phase : Phase) : Type 0 where
  in_wait : phase ≡ phases.Wait → QueuedIn phase
  in_walk : (cursor : TaskId) (path : List (ℕ × ℕ)) → phase ≡ phases.Walk cursor (Full path) → QueuedIn phase
  in_confirm : (path : List (ℕ × ℕ)) → phase ≡ phases.Confirm path → QueuedIn phase

-- the thread waits in a call for this lock, which is there
pub record Awaits (s : State) (u : TaskId) (l : LockId) : Type 0 where
  pub phase : QueuedIn (thread_part s u).phase
  pub call : Call
  pub waits_for : WaitsFor call l
  pub calling : call_of (thread_part s u) ≡ Some call
  pub lock : l.0 < length s.locks

-- the phase and the call in which a lock is awaited
awaits : (thread : ThreadPart) (l : LockId) (phase : Phase) (call : Option Call) → IsPhaseOf phase call → awaited_in phase (option_and_then called_lock call) ≡ Some l
    → QueuedIn phase × (c : Call) × WaitsFor c l × (call ≡ Some c)
awaits thread l phases.Start call fits is = cc
awaits thread l phases.Slow call fits is = cc
awaits thread l phases.Wait (Some c) fits is = (in_wait refl, c, waits-about c l fits is, refl)
awaits thread l phases.Wait None fits is = absurd fits
awaits thread l (phases.Walk cursor (Full path)) (Some c) fits is = (in_walk cursor path refl, c, waits-about c l fits is, refl)
awaits thread l (phases.Walk cursor (Full path)) None fits is = absurd fits
awaits thread l (phases.Walk cursor (Short answer)) call fits is = cc
awaits thread l (phases.Confirm path) (Some c) fits is = (in_confirm path refl, c, waits-about c l fits is, refl)
awaits thread l (phases.Confirm path) None fits is = absurd fits
awaits thread l phases.Inner call fits is = cc
awaits thread l phases.ReadIn call fits is = cc
awaits thread l phases.Unbias call fits is = cc
awaits thread l phases.WTry call fits is = cc
awaits thread l phases.WWait call fits is = cc
awaits thread l phases.Release call fits is = cc
awaits thread l phases.WakeWriter call fits is = cc

-- a blocked task waits for the lock on which it is blocked
pub WaitsFor-blocked : (s : State) (u : TaskId) (at : LockId × ℕ) → CallsFit s → PhasesLaw s → QueuedLaw s → (task_part s u).blocked ≡ Some at → Awaits s u at.0
WaitsFor-blocked s u at staged phased queued is =
    let found = awaits (thread_part s u) at.0 (thread_part s u).phase (call_of (thread_part s u)) (phased u) (sym (queued.blocked u) ∙ ap blocking is) in
    let Within : Call → Type 0 = λ c. IsServed (length s.threads) (length s.locks) c → at.0.0 < length s.locks in
    record {
      phase = found.0;
      call = found.1;
      waits_for = found.2;
      calling = found.3;
      lock = waits-holds Within found.1 at.0 found.2 (λ served. served) (λ served. served) (λ served. served) (λ served. served) (λ served. served) (λ served. served) (served_call s u found.1 staged found.3);
    }

-- and doesn't own that lock
pub blocked-unowned : (s : State) (u : TaskId) (at : LockId × ℕ) → QueuedLaw s → (task_part s u).blocked ≡ Some at → owned_by (owner_part s at.0).owner u ≡ false
blocked-unowned s u at queued is = subst (λ (b : Option (LockId × ℕ)). IfSome b (λ a. owned_by (owner_part s a.0).owner u ≡ false)) is (queued.waiting u)

-- ---- walks

-- the phase of a walk
pub walk-phase : (s : State) (t : TaskId) (route : Route) (u : TaskId) → WalksIn s t route u → (thread_part s t).phase ≡ phases.Walk u route
walk-phase s t route u (by_full path l same is) = is.at.phased
walk-phase s t route u (by_short call answer same at to_come) = at.phased

-- its cursor is there
pub cursor-there : (s : State) (made : ℕ) (t : TaskId) (route : Route) (u : TaskId) → IsLawful s made → WalksIn s t route u → u.0 < length s.threads
cursor-there s made t route u lawful how = of_route route (subst (IsWalkOf (length s.threads) (length s.locks) t (present_lock (thread_part s t))) (walk-phase s t route u how) (lawful.walks t))
  where
    of_route : (r : Route) → IsWalkOf (length s.threads) (length s.locks) t (present_lock (thread_part s t)) (phases.Walk u r) → u.0 < length s.threads
    of_route (Full path) is = is.0
    of_route (Short answer) is = is

-- one that is to be confirmed has such a path
pub confirm-walk : (s : State) (made : ℕ) (t : TaskId) (path : List (ℕ × ℕ)) (l : LockId) → IsLawful s made → Asks s t (phases.Confirm path) l → IsToConfirm (length s.threads) (length s.locks) t (Some l) path
confirm-walk s made t path l lawful is =
    subst (λ (lock : Option LockId). IsToConfirm (length s.threads) (length s.locks) t lock path) (asks-present s t (phases.Confirm path) l is)
    (subst (IsWalkOf (length s.threads) (length s.locks) t (present_lock (thread_part s t))) is.at.phased (lawful.walks t))

-- it begins with the task and its lock, and leads to another task
pub record IsRound (s : State) (t : TaskId) (l : LockId) (path : List (ℕ × ℕ)) : Type 0 where
  pub owner : TaskId
  pub next : LockId
  pub rest : List (ℕ × ℕ)
  pub is : path ≡ (t.0, l.0) ∷ (owner.0, next.0) ∷ rest
  pub there : owner.0 < length s.threads
  pub other : nat_eq t.0 owner.0 ≡ false

round : (s : State) (t : TaskId) (l : LockId) (path : List (ℕ × ℕ)) → IsToConfirm (length s.threads) (length s.locks) t (Some l) path → IsRound s t l path
round s t l [] is = absurd is.begins
round s t l (pair ∷ []) is = let many : 2 ≤ 1 = is.many in absurd (omega (arith, many))
round s t l (pair ∷ second ∷ rest) is = record {
  owner = record { 0 = second.0 };
  next = record { 0 = second.1 };
  rest = rest;
  is = λ i. (is.begins.0 i, lock (sym is.begins.1) i) ∷ second ∷ rest;
  there = (All-head Within second rest (All-tail Within pair (second ∷ rest) is.there)).0;
  other = apart (is.differ 0 1 pair (omega arith) (omega arith));
}
  where
    Within : ℕ × ℕ → Type 0
    Within pair = (pair.0 < length s.threads) × (pair.1 < length s.locks)

    lock : Some (record { 0 = pair.1 }) ≡ Some l → pair.1 ≡ l.0
    lock same = let one : record { 0 = pair.1 } ≡ l = cc in ap (λ (m : LockId). m.0) one

    apart : pair.0 ≢ second.0 → nat_eq t.0 second.0 ≡ false
    apart differ = grind (arith, nat_tests)

pub round-begins : (s : State) (made : ℕ) (t : TaskId) (path : List (ℕ × ℕ)) (l : LockId) → IsLawful s made → Asks s t (phases.Confirm path) l → IsRound s t l path
round-begins s made t path l lawful is = round s t l path (confirm-walk s made t path l lawful is)

-- what a link finds: the cursor and the lock are there, and the cursor doesn't own that lock
pub record IsLink (s : State) (u : TaskId) (l : LockId) : Type 0 where
  pub cursor : u.0 < length s.threads
  pub lock : l.0 < length s.locks
  pub unowned : owned_by (owner_part s l).owner u ≡ false

pub walk-link : (s : State) (made : ℕ) (t : TaskId) (route : Route) (u : TaskId) (l : LockId) (key : ℕ) (e : Event) → IsLawful s made → IsWalk s t route u l key e → IsLink s u l
walk-link s made t route u l key e lawful is = record {
  cursor = cursor-there s made t route u lawful is.how;
  lock = (WaitsFor-blocked s u (l, key) lawful.calls lawful.phases lawful.queued is.blocked).lock;
  unowned = blocked-unowned s u (l, key) lawful.queued is.blocked;
}
