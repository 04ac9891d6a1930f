-- Chain walks: how they come about, and that their choice reads only what they touch.
use Rattle.std.proofs.Common.{◌≡◌, ℕ, ◌<◌, List, length, refl, sym, ap, ◌∙◌, Option, Some, None}
use Rattle.rt_base.specs.declared.call.Call.{Call}
use Rattle.rt_base.specs.declared.id.LockId.{LockId}
use Rattle.rt_base.specs.declared.id.TaskId.{TaskId}
use Rattle.rt_base.specs.declared.reply.Reply.{Reply}
use Rattle.rt_model.specs.declared.event.Event.{Event}
use Rattle.rt_model.specs.declared.phase.Phase.TheVariants as phases
use Rattle.rt_model.specs.declared.phase.Route.{Route}
use Rattle.rt_model.specs.declared.phase.Route.TheVariants.{Full, Short}
use Rattle.rt_model.specs.Parts.{TaskPart}
use Rattle.rt_model.specs.State.{State, Shared, shared, lock_in, task_in, lock_at, task_at, owner_part, task_part}
use Rattle.rt_model.specs.CallKinds.{IsToCome, IsPhaseOf}
use Rattle.rt_model.specs.Path.{Link, first_lock, first_owner, first_broken}
use Rattle.rt_model.specs.events.Walk.{walkend_event, walk_event, cursor_event, restart_event, cycle_event, confirmed_event}
use Rattle.rt_model.proofs.Calling.{IsIn, Asks, asked}
use Rattle.rt_model.proofs.Touching.{touches-lock, touches-owner, touches-other}
use Rattle.rt_model.proofs.Alike.{Alike, same-task_at}

-- ---- how they come about

-- a full walk stands in a call that waits, a short one before an answer that is to come
pub data WalksIn (s : State) (t : TaskId) (route : Route) (u : TaskId) : Type 0 where
  by_full : (path : List (ℕ × ℕ)) (l : LockId) → route ≡ Full path → Asks s t (phases.Walk u route) l → WalksIn s t route u
  by_short : (call : Call) (answer : Reply) → route ≡ Short answer → IsIn s t (phases.Walk u route) call → IsToCome call answer → WalksIn s t route u

pub walks_in : (s : State) (t : TaskId) (call : Call) (route : Route) (u : TaskId) → IsIn s t (phases.Walk u route) call → IsPhaseOf (phases.Walk u route) (Some call) → WalksIn s t route u
walks_in s t call (Full path) u at fits = let some = asked s t (phases.Walk u (Full path)) call at fits in by_full path some.0 refl some.1
walks_in s t call (Short answer) u at fits = by_short call answer refl at fits

-- the walk makes a link: its cursor is blocked on lock l, with this key
pub record IsWalk (s : State) (t : TaskId) (route : Route) (u : TaskId) (l : LockId) (key : ℕ) (e : Event) : Type 0 where
  pub how : WalksIn s t route u
  pub task : t.0 < length s.threads
  pub blocked : (task_part s u).blocked ≡ Some (l, key)
  pub event : e ≡ walk_event t route u l (owner_part s l) (task_part s u) (task_at (shared s) (owner_part s l).owner)

-- it ends at a cursor that isn't blocked
pub record IsWalkEnd (s : State) (t : TaskId) (route : Route) (u : TaskId) (e : Event) : Type 0 where
  pub how : WalksIn s t route u
  pub task : t.0 < length s.threads
  pub blocked : (task_part s u).blocked ≡ None
  pub event : e ≡ walkend_event t route u

pub data IsWalking (s : State) (t : TaskId) (route : Route) (u : TaskId) (e : Event) : Type 0 where
  is_walk : (l : LockId) (key : ℕ) → IsWalk s t route u l key e → IsWalking s t route u e
  is_walkend : IsWalkEnd s t route u e → IsWalking s t route u e

pub walked : (s : State) (t : TaskId) (call : Call) (route : Route) (u : TaskId) (e : Event) → IsIn s t (phases.Walk u route) call → IsPhaseOf (phases.Walk u route) (Some call)
    → cursor_event (shared s) t route u (task_part s u) (task_part s u).blocked ≡ e → IsWalking s t route u e
walked s t call route u e at fits is = by_blocked (task_part s u).blocked refl is
  where
    how : WalksIn s t route u
    how = walks_in s t call route u at fits

    by_blocked : (b : Option (LockId × ℕ)) → (task_part s u).blocked ≡ b → cursor_event (shared s) t route u (task_part s u) b ≡ e → IsWalking s t route u e
    by_blocked None none is = is_walkend (record { how = how; task = at.task; blocked = none; event = sym is })
    by_blocked (Some (l, key)) some is = is_walk l key (record { how = how; task = at.task; blocked = some; event = sym is })

-- ---- what a walk that came back to its own task does

-- a link of its path is broken: it begins anew
pub record IsRestart (s : State) (t : TaskId) (l : LockId) (path : List (ℕ × ℕ)) (link : Link) (e : Event) : Type 0 where
  pub at : Asks s t (phases.Confirm path) l
  pub broken : first_broken (shared s) path ≡ Some link
  pub event : e ≡ restart_event t path link

-- each stands: the task leaves the queue
pub record IsCycleEvent (s : State) (t : TaskId) (l : LockId) (path : List (ℕ × ℕ)) (e : Event) : Type 0 where
  pub at : Asks s t (phases.Confirm path) l
  pub stand : first_broken (shared s) path ≡ None
  pub event : e ≡ cycle_event t path (lock_at (shared s) (first_lock path)) (task_at (shared s) (first_owner path))

pub data IsConfirmed (s : State) (t : TaskId) (l : LockId) (path : List (ℕ × ℕ)) (e : Event) : Type 0 where
  is_restart : (link : Link) → IsRestart s t l path link e → IsConfirmed s t l path e
  is_cycle : IsCycleEvent s t l path e → IsConfirmed s t l path e

pub confirmed : (s : State) (t : TaskId) (l : LockId) (path : List (ℕ × ℕ)) (e : Event) → Asks s t (phases.Confirm path) l
    → confirmed_event (shared s) t path (first_broken (shared s) path) ≡ e → IsConfirmed s t l path e
confirmed s t l path e asks is = by_broken (first_broken (shared s) path) refl is
  where
    by_broken : (link : Option Link) → first_broken (shared s) path ≡ link → confirmed_event (shared s) t path link ≡ e → IsConfirmed s t l path e
    by_broken None stand is = is_cycle (record { at = asks; stand = stand; event = sym is })
    by_broken (Some link) broken is = is_restart link (record { at = asks; broken = broken; event = sym is })

-- ---- what the choice reads

pub same-cursor : (a b : Shared) (t : TaskId) (route : Route) (u : TaskId) → Alike (cursor_event a t route u (task_in a u) (task_in a u).blocked) a b
    → cursor_event b t route u (task_in b u) (task_in b u).blocked ≡ cursor_event a t route u (task_in a u) (task_in a u).blocked
same-cursor a b t route u = by_blocked (task_in a u).blocked refl
  where
    by_blocked : (blocked : Option (LockId × ℕ)) → (task_in a u).blocked ≡ blocked → Alike (cursor_event a t route u (task_in a u) blocked) a b
        → cursor_event b t route u (task_in b u) (task_in b u).blocked ≡ cursor_event a t route u (task_in a u) blocked
    by_blocked None is alike =
        let task = alike.task u (touches-other (walkend_event t route u) u refl) in
        (λ i. cursor_event b t route u (task i) (task i).blocked) ∙ ap (λ (o : Option (LockId × ℕ)). cursor_event b t route u (task_in a u) o) is
    by_blocked (Some at) is alike =
        let e : Event = walk_event t route u at.0 (lock_in a at.0) (task_in a u) (task_at a (lock_in a at.0).owner) in
        let task = alike.task u (touches-other e u refl) in
        let lock = alike.lock at.0 (touches-lock e at.0 refl) in
        let owner = same-task_at a b (lock_in a at.0).owner (λ o named. alike.task o (touches-owner e o named)) in
        (λ i. cursor_event b t route u (task i) (task i).blocked) ∙ (ap (λ (o : Option (LockId × ℕ)). cursor_event b t route u (task_in a u) o) is
        ∙ ((λ i. walk_event t route u at.0 (lock i) (task_in a u) (task_at b (lock i).owner)) ∙ ap (λ (o : TaskPart). walk_event t route u at.0 (lock_in a at.0) (task_in a u) o) owner))
