-- How a walk goes on.
use Rattle.std.proofs.Common.{◌≡◌, ℕ, Bool, true, false, cond, not, ◌&&◌, List, [], ◌∷◌, ◌++◌, refl, sym, ap, subst, Option, Some, None, is_none}
use Rattle.rt_base.specs.declared.call.Call.TheVariants as calls
use Rattle.rt_base.specs.declared.id.LockId.{LockId}
use Rattle.rt_base.specs.declared.reply.Reply.{Reply}
use Rattle.rt_base.specs.declared.reply.Reply.TheVariants.{Done}
use Rattle.std.specs.Prelude.{nat_eq}
use Rattle.std.proofs.lemmas.Bool.{cond_both}
use Rattle.rt_base.specs.declared.id.TaskId.{TaskId}
use Rattle.rt_model.specs.declared.phase.Phase.{Phase}
use Rattle.rt_model.specs.declared.phase.Phase.TheVariants as phases
use Rattle.rt_model.specs.declared.phase.Route.{Route}
use Rattle.rt_model.specs.declared.phase.Route.TheVariants.{Full, Short}
use Rattle.rt_model.specs.Parts.{TaskPart, ThreadPart, call_of, effective_of}
use Rattle.rt_model.specs.State.{State, thread_part}
use Rattle.rt_model.specs.CallKinds.{IsPhaseOf}
use Rattle.rt_model.specs.laws.Phases.{PhasesLaw}
use Rattle.rt_model.specs.steps.Chain.{is_old, has_old_key, followed, is_on_path, path_before, goes_on, phase_of_walk}
use Rattle.rt_model.proofs.Calling.{IsIn}
use Rattle.rt_model.proofs.Links.{walked_thread}
use Rattle.rt_model.proofs.Numbers.{same_task}
use Rattle.rt_model.proofs.Waiters.{walk-phase}
use Rattle.rt_model.proofs.events.Walk.{WalksIn}

-- ---- where it ends, where it is to be confirmed, and where it stands

-- a full walk stands at a blocked task, which isn't its own, and on its path only with an old key
pub record FullStands (t : TaskId) (path : List (ℕ × ℕ)) (o : TaskId) (task : TaskPart) : Type 0 where
  pub blocked : is_none task.blocked ≡ false
  pub other : nat_eq o.0 t.0 ≡ false
  pub on_path : is_on_path o path ≡ true → has_old_key task ≡ true

full_stands : (on old : Bool) → on && not old ≡ false → on ≡ true → old ≡ true
full_stands true true is its = refl
full_stands true false is its = cc
full_stands false old is its = cc

pub full-holds : (P : Option Phase → Type 0) (t : TaskId) (path : List (ℕ × ℕ)) (owner : Option TaskId) (task : TaskPart) → P None
    → (owner ≡ Some t → is_none task.blocked ≡ false → P (Some (phases.Confirm path)))
    → ((o : TaskId) → owner ≡ Some o → FullStands t path o task → P (Some (phases.Walk o (Full (path_before o path))))) → P (goes_on t (Full path) owner task)
full-holds P t path None task ends confirms goes = ends
full-holds P t path (Some o) task ends confirms goes =
    cond_both (is_none task.blocked) None own P (λ free. ends)
    (λ blocked. cond_both (nat_eq o.0 t.0) (Some (phases.Confirm path)) other P (λ same. confirms (ap Some (same_task o t same)) blocked)
    (λ apart. cond_both (is_on_path o path && not (has_old_key task)) None stands P (λ right. ends)
    (λ is. goes o refl (record { blocked = blocked; other = apart; on_path = full_stands (is_on_path o path) (has_old_key task) is }))))
  where
    stands : Option Phase
    stands = Some (phases.Walk o (Full (path_before o path)))

    other : Option Phase
    other = cond (is_on_path o path && not (has_old_key task)) None stands

    own : Option Phase
    own = cond (nat_eq o.0 t.0) (Some (phases.Confirm path)) other

-- a short one stands at a task with an old key
pub short-holds : (P : Option Phase → Type 0) (t : TaskId) (answer : Reply) (owner : Option TaskId) (task : TaskPart) → P None
    → ((o : TaskId) → owner ≡ Some o → has_old_key task ≡ true → P (Some (phases.Walk o (Short answer)))) → P (goes_on t (Short answer) owner task)
short-holds P t answer None task ends goes = ends
short-holds P t answer (Some o) task ends goes = cond_both (has_old_key task) (Some (phases.Walk o (Short answer))) None P (λ is. goes o refl is) (λ is. ends)

-- either stands at a task on the route onward
pub data StandsOn (t : TaskId) (route : Route) (o : TaskId) (task : TaskPart) (onward : Route) : Type 0 where
  on_full : (path : List (ℕ × ℕ)) → route ≡ Full path → onward ≡ Full (path_before o path) → FullStands t path o task → StandsOn t route o task onward
  on_short : (answer : Reply) → route ≡ Short answer → onward ≡ Short answer → has_old_key task ≡ true → StandsOn t route o task onward

pub goes_on-holds : (P : Option Phase → Type 0) (t : TaskId) (route : Route) (owner : Option TaskId) (task : TaskPart) → P None
    → ((path : List (ℕ × ℕ)) → route ≡ Full path → owner ≡ Some t → is_none task.blocked ≡ false → P (Some (phases.Confirm path)))
    → ((o : TaskId) (onward : Route) → owner ≡ Some o → StandsOn t route o task onward → P (Some (phases.Walk o onward))) → P (goes_on t route owner task)
goes_on-holds P t (Full path) owner task ends confirms goes =
    full-holds P t path owner task ends (confirms path refl) (λ o some stands. goes o (Full (path_before o path)) some (on_full path refl refl stands))
goes_on-holds P t (Short answer) owner task ends confirms goes = short-holds P t answer owner task ends (λ o some old. goes o (Short answer) some (on_short answer refl refl old))

-- a task with an old key is blocked
pub old-blocked : (task : TaskPart) → has_old_key task ≡ true → is_none task.blocked ≡ false
old-blocked task is = by_blocked task.blocked is
  where
    by_blocked : (b : Option (LockId × ℕ)) → is_old b (effective_of task) ≡ true → is_none b ≡ false
    by_blocked None is = cc
    by_blocked (Some at) is = refl

-- the phase in which it goes on, and that of a full one, which isn't answered
pub walked-on : (thread : ThreadPart) (route : Route) (next : Option Phase) (phase : Phase) → next ≡ Some phase → (walked_thread thread route next).phase ≡ phase
walked-on thread route None phase is = cc
walked-on thread (Full path) (Some p) phase is = cc
walked-on thread (Short answer) (Some p) phase is = cc

pub full-phase : (thread : ThreadPart) (path : List (ℕ × ℕ)) (next : Option Phase) → (walked_thread thread (Full path) next).phase ≡ phase_of_walk next
full-phase thread path None = refl
full-phase thread path (Some phase) = refl

-- a walk stands in its task's call, and one that a setprio begins in that
pub walk-fits : (s : State) (t : TaskId) (route : Route) (u : TaskId) → PhasesLaw s → WalksIn s t route u → IsPhaseOf (phases.Walk u route) (call_of (thread_part s t))
walk-fits s t route u law how = subst (λ (p : Phase). IsPhaseOf p (call_of (thread_part s t))) (walk-phase s t route u how) (law t)

pub setprio-fits : (s : State) (t u : TaskId) (prio : ℕ) → IsIn s t phases.Start (calls.SetPrio u prio) → IsPhaseOf (phases.Walk u (Short Done)) (call_of (thread_part s t))
setprio-fits s t u prio at = subst (IsPhaseOf (phases.Walk u (Short Done))) (sym at.calling) refl

-- ---- the routes of one walk

-- two routes are both full, or both short with one answer
pub data SameSort (route onward : Route) : Type 0 where
  both_full : (path rest : List (ℕ × ℕ)) → route ≡ Full path → onward ≡ Full rest → SameSort route onward
  both_short : (answer : Reply) → route ≡ Short answer → onward ≡ Short answer → SameSort route onward

pub SameSort-itself : (route : Route) → SameSort route route
SameSort-itself (Full path) = both_full path path refl refl
SameSort-itself (Short answer) = both_short answer refl refl

pub SameSort-followed : (u : TaskId) (l : LockId) (route : Route) → SameSort route (followed u l route)
SameSort-followed u l (Full path) = both_full path (path ++ (u.0, l.0) ∷ []) refl refl
SameSort-followed u l (Short answer) = both_short answer refl refl

-- a thread whose walk goes on, or ends, where it may go on along these routes
pub walked-holds : (P : Route → ThreadPart → Type 0) (thread : ThreadPart) (t : TaskId) (route onward : Route) (owner : Option TaskId) (task : TaskPart) → SameSort route onward
    → ((path : List (ℕ × ℕ)) → P (Full path) (walked_thread thread (Full path) None)) → ((path rest : List (ℕ × ℕ)) → P (Full path) (record thread { phase = phases.Confirm rest }))
    → ((path rest : List (ℕ × ℕ)) (o : TaskId) → P (Full path) (record thread { phase = phases.Walk o (Full rest) }))
    → ((answer : Reply) → P (Short answer) (walked_thread thread (Short answer) None)) → ((answer : Reply) (o : TaskId) → P (Short answer) (record thread { phase = phases.Walk o (Short answer) }))
    → P route (walked_thread thread route (goes_on t onward owner task))
walked-holds P thread t route onward owner task (both_full path rest same also) waits confirms goes done begins =
    subst (λ (r : Route). P r (walked_thread thread r (goes_on t onward owner task))) (sym same)
    (subst (λ (r : Route). P (Full path) (walked_thread thread (Full path) (goes_on t r owner task))) (sym also)
    (full-holds (λ next. P (Full path) (walked_thread thread (Full path) next)) t rest owner task (waits path) (λ some blocked. confirms path rest) (λ o some stands. goes path (path_before o rest) o)))
walked-holds P thread t route onward owner task (both_short answer same also) waits confirms goes done begins =
    subst (λ (r : Route). P r (walked_thread thread r (goes_on t onward owner task))) (sym same)
    (subst (λ (r : Route). P (Short answer) (walked_thread thread (Short answer) (goes_on t r owner task))) (sym also)
    (short-holds (λ next. P (Short answer) (walked_thread thread (Short answer) next)) t answer owner task (done answer) (λ o some old. begins answer o)))
