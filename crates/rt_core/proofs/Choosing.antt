-- What the choice of an event finds in a lawful state.
use Rattle.std.proofs.Common.{◌≡◌, ℕ, ◌<◌, List, [], ◌∷◌, length, refl, sym, ap, subst, arith, Option, Some, None, IfSome}
use Rattle.std.specs.Prelude.{option_map}
use Rattle.std.proofs.lemmas.List.Elements.{All-head}
use Rattle.rt_base.specs.declared.call.Call.{Call}
use Rattle.rt_base.specs.declared.id.LockId.{LockId}
use Rattle.rt_base.specs.declared.id.TaskId.{TaskId}
use Rattle.rt_model.specs.declared.phase.Phase.{Phase}
use Rattle.rt_model.specs.declared.phase.Phase.TheVariants as phases
use Rattle.rt_model.specs.declared.phase.Route.{Route}
use Rattle.rt_model.specs.declared.phase.Route.TheVariants.{Full, Short}
use Rattle.rt_model.specs.Parts.{call_of}
use Rattle.rt_model.specs.State.{State, shared, task_part, thread_part}
use Rattle.rt_model.specs.NextEvent.{event_in, event_of, next_event}
use Rattle.rt_model.specs.Choice.{present_lock}
use Rattle.rt_model.specs.Path.{first_broken}
use Rattle.rt_model.specs.CallKinds.{IsServed, IsPhaseOf}
use Rattle.rt_model.specs.events.Walk.{confirmed_event}
use Rattle.rt_model.specs.laws.Phases.{PhasesLaw}
use Rattle.rt_model.specs.laws.Lawful.{IsLawful}
use Rattle.rt_model.specs.laws.Walks.{IsToConfirm, IsWalkOf}
use Rattle.rt_model.proofs.Calling.{served_call}
use Rattle.rt_model.proofs.Lists.{All-both}
use Rattle.rt_model.proofs.Waiters.{WaitsFor-blocked}
use Rattle.rt_choice.specs.Walking.{CanConfirm, FindsCursor}
use Rattle.rt_choice.proofs.PathLinks.{links-there}

-- a pair's task and its lock are there
abbrev IsThere : State → ℕ × ℕ → Type 0
IsThere s pair = (pair.0 < length s.threads) × (pair.1 < length s.locks)

-- a path that is to be confirmed can be
confirmable : (s : State) (t : TaskId) (lock : Option LockId) (path : List (ℕ × ℕ)) → length s.tasks ≡ length s.threads → IsToConfirm (length s.threads) (length s.locks) t lock path → CanConfirm (shared s) path
confirmable s t lock [] long is = absurd is.begins
confirmable s t lock (pair ∷ path) long is = record {
  some = omega arith;
  lock = (All-head (IsThere s) pair path is.there).1;
  tasks = links-there (length s.tasks) (pair ∷ path) (All-both (IsThere s) (IsThere s) (λ (pair : ℕ × ℕ). pair.0 < length s.tasks) (λ pair there also. subst (λ (n : ℕ). pair.0 < n) (sym long) there.0) (pair ∷ path) is.there is.there);
}

module _ (s : State) (made : ℕ) (t : TaskId) (lawful : IsLawful s made) where
  -- the call is served
  pub served-here : IfSome (call_of (thread_part s t)) (IsServed (length s.tasks) (length s.locks))
  served-here = subst (λ (n : ℕ). IfSome (call_of (thread_part s t)) (IsServed n (length s.locks))) (sym lawful.shape.tasks) (by_call (call_of (thread_part s t)) refl)
    where
      by_call : (call : Option Call) → call_of (thread_part s t) ≡ call → IfSome call (IsServed (length s.threads) (length s.locks))
      by_call None is = tt
      by_call (Some call) is = served_call s t call lawful.calls is

  -- the lock on which a task is blocked is there
  pub blocked-within : (u : TaskId) → IfSome (task_part s u).blocked (λ at. at.0.0 < length s.locks)
  blocked-within u = by_place (task_part s u).blocked refl
    where
      by_place : (blocked : Option (LockId × ℕ)) → (task_part s u).blocked ≡ blocked → IfSome blocked (λ at. at.0.0 < length s.locks)
      by_place None is = tt
      by_place (Some at) is = (WaitsFor-blocked s u at lawful.calls lawful.phases lawful.queued is).lock

  pub blocked-lock : (u : TaskId) (l : LockId) → option_map (λ (at : LockId × ℕ). at.0) (task_part s u).blocked ≡ Some l → l.0 < length s.locks
  blocked-lock u l is = by_place (task_part s u).blocked is (blocked-within u)
    where
      by_place : (blocked : Option (LockId × ℕ)) → option_map (λ (at : LockId × ℕ). at.0) blocked ≡ Some l → IfSome blocked (λ at. at.0.0 < length s.locks) → l.0 < length s.locks
      by_place None is within = cc
      by_place (Some at) is within = let same : at.0 ≡ l = cc in subst (λ (m : LockId). m.0 < length s.locks) same within

  -- a walk's cursor is there
  pub cursor-within : (u : TaskId) (route : Route) → (thread_part s t).phase ≡ phases.Walk u route → u.0 < length s.threads
  cursor-within u route is = of_route route (subst (IsWalkOf (length s.threads) (length s.locks) t (present_lock (thread_part s t))) is (lawful.walks t))
    where
      of_route : (r : Route) → IsWalkOf (length s.threads) (length s.locks) t (present_lock (thread_part s t)) (phases.Walk u r) → u.0 < length s.threads
      of_route (Full path) of = of.0
      of_route (Short answer) of = of

  -- so are a path that is to be confirmed and its first lock
  pub path-here : (path : List (ℕ × ℕ)) → (thread_part s t).phase ≡ phases.Confirm path → CanConfirm (shared s) path
  path-here path is = confirmable s t (present_lock (thread_part s t)) path lawful.shape.tasks (subst (IsWalkOf (length s.threads) (length s.locks) t (present_lock (thread_part s t))) is (lawful.walks t))

  -- and so is the lock on which a cursor is blocked
  pub cursor-here : FindsCursor (shared s) (thread_part s t).phase
  cursor-here = by_phase (thread_part s t).phase refl
    where
      by_phase : (phase : Phase) → (thread_part s t).phase ≡ phase → FindsCursor (shared s) phase
      by_phase (phases.Walk u route) is = record {
        task = subst (λ (n : ℕ). u.0 < n) (sym lawful.shape.tasks) (cursor-within u route is);
        lock = blocked-within u;
      }
      by_phase (phases.Confirm path) is = path-here path is
      by_phase _ is = tt

-- the event of a walk that is to be confirmed
pub confirmed-next : (s : State) (t : TaskId) (path : List (ℕ × ℕ)) → PhasesLaw s → (thread_part s t).phase ≡ phases.Confirm path → next_event s t ≡ Some (confirmed_event (shared s) t path (first_broken (shared s) path))
confirmed-next s t path law phase = by_call (call_of (thread_part s t)) (subst (λ (p : Phase). IsPhaseOf p (call_of (thread_part s t))) phase (law t))
  where
    by_call : (call : Option Call) → IsPhaseOf (phases.Confirm path) call → event_of (shared s) t (thread_part s t) call ≡ Some (confirmed_event (shared s) t path (first_broken (shared s) path))
    by_call None fits = absurd fits
    by_call (Some call) fits = ap (λ (p : Phase). event_in p (shared s) t (thread_part s t) call) phase
