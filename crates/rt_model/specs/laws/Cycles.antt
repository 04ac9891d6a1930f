-- What walks make of cycles: none is passed over, and a walk begins anew only where its path is broken.
use Rattle.std.specs.Prelude.{◌≡◌, ◌≢◌, ◌⊎◌, ℕ, false, List, [], ◌∷◌, ◌++◌, All, Some, None, nat_eq}
use Rattle.rt_base.specs.declared.id.LockId.{LockId}
use Rattle.rt_base.specs.declared.id.TaskId.{TaskId}
use Rattle.rt_model.specs.declared.event.Event.{Event}
use Rattle.rt_model.specs.declared.event_kind.EventKind.TheVariants.{Walk, Restart, Cycle}
use Rattle.rt_model.specs.declared.phase.Phase.{Phase}
use Rattle.rt_model.specs.declared.phase.Phase.TheVariants as phases
use Rattle.rt_model.specs.declared.phase.Route.TheVariants.{Full}
use Rattle.rt_model.specs.Rows.{row_of}
use Rattle.rt_model.specs.State.{State, owner_part, task_part, thread_part}
use Rattle.rt_model.specs.StateAfter.{state_after}
use Rattle.rt_model.specs.Run.{after}
use Rattle.rt_model.specs.Path.{Link, first_task, links_of, Edge, IsCycle}
use Rattle.rt_model.specs.laws.Responsible.{IsResponsible, ResponsibleLaw}

-- a walk that has followed a cycle up to this pair, and through its lock, stands at the task of the next one, or has come round
abbrev pub IsPast : List (ℕ × ℕ) → ℕ × ℕ → List (ℕ × ℕ) → Phase → Type 0
IsPast front pair [] phase = phase ≡ phases.Confirm (front ++ pair ∷ [])
IsPast front pair (next ∷ back) phase = phase ≡ phases.Walk (record { 0 = next.0 }) (Full (front ++ pair ∷ []))

-- the event is the walk through the lock of the cycle at which its task's walk stands; after it that is one pair further, and the
-- task is responsible still
pub record IsWalkAlong (s : State) (cycle : List (ℕ × ℕ)) (e : Event) : Type 0 where
  pub front : List (ℕ × ℕ)
  pub pair : ℕ × ℕ
  pub back : List (ℕ × ℕ)
  pub along : cycle ≡ front ++ pair ∷ back
  pub stood : (thread_part s e.task).phase ≡ phases.Walk (record { 0 = pair.0 }) (Full front)
  pub kind : e.kind ≡ Walk
  pub cursor : e.other ≡ Some (record { 0 = pair.0 })
  pub lock : e.lock ≡ Some (record { 0 = pair.1 })
  pub past : IsPast front pair back (thread_part (state_after s e) e.task).phase
  pub still : IsResponsible (state_after s e) cycle

-- the event tells of the whole cycle
pub record TellsCycle (cycle : List (ℕ × ℕ)) (e : Event) : Type 0 where
  pub kind : e.kind ≡ Cycle
  pub path : e.path ≡ cycle

-- the event takes its task out of a cycle: the path of its walk is a cycle that begins with the task; afterwards the task is
-- blocked on no lock and queued at none, and every other task has the row that it had
pub record BreaksCycle (s : State) (e : Event) : Type 0 where
  pub whole : (thread_part s e.task).phase ≡ phases.Confirm e.path
  pub cycle : IsCycle s e.path
  pub begins : first_task e.task e.path ≡ e.task
  pub unblocked : (task_part (state_after s e) e.task).blocked ≡ None
  pub out : (l : LockId) → row_of e.task (owner_part (state_after s e) l).rows ≡ None
  pub others : (l : LockId) (u : TaskId) → nat_eq e.task.0 u.0 ≡ false → row_of u (owner_part (state_after s e) l).rows ≡ row_of u (owner_part s l).rows

-- the event names the first link of its walk's path that isn't an edge
pub record NamesBroken (s : State) (e : Event) : Type 0 where
  pub whole : (thread_part s e.task).phase ≡ phases.Confirm e.path
  pub front : List Link
  pub link : Link
  pub back : List Link
  pub along : links_of e.path ≡ front ++ link ∷ back
  pub stand : All (Edge s) front
  pub broken : Edge s link → ⊥
  pub task : e.other ≡ Some link.from
  pub lock : e.lock ≡ Some link.lock

-- in every state each cycle has a responsible member; while it stands, that one's event is a walk along it or tells of it, and no
-- other task's event takes the responsibility away; an event that tells of a cycle breaks one, and one that begins a walk anew
-- names what is broken
pub record CyclesLaw (s : State) (events : List Event) : Type 0 where
  pub watched : (prefix rest : List Event) → prefix ++ rest ≡ events → ResponsibleLaw (after s prefix)
  pub along : (prefix rest : List Event) (e : Event) (cycle : List (ℕ × ℕ)) → prefix ++ e ∷ rest ≡ events → IsCycle (after s prefix) cycle → IsResponsible (after s prefix) cycle → first_task e.task cycle ≡ e.task → IsWalkAlong (after s prefix) cycle e ⊎ TellsCycle cycle e
  pub stays : (prefix rest : List Event) (e : Event) (cycle : List (ℕ × ℕ)) → prefix ++ e ∷ rest ≡ events → IsResponsible (after s prefix) cycle → first_task e.task cycle ≢ e.task → IsResponsible (state_after (after s prefix) e) cycle
  pub breaks : (prefix rest : List Event) (e : Event) → prefix ++ e ∷ rest ≡ events → e.kind ≡ Cycle → BreaksCycle (after s prefix) e
  pub restarts : (prefix rest : List Event) (e : Event) → prefix ++ e ∷ rest ≡ events → e.kind ≡ Restart → NamesBroken (after s prefix) e
