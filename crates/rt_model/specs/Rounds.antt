-- How the tasks that lead to one are found: each task is either known to lead to it, or known not to. A round follows edges from
-- a task of which neither is known, up to one of which it is, one of the round, or one without an edge; what is known of that one
-- holds of the whole round then.
use Rattle.std.specs.Prelude.{◌≡◌, ◌⊎◌, ◌<◌, Bool, true, false, length, Option, Some, IfSome}
use Rattle.rt_base.specs.declared.id.TaskId.{TaskId}
use Rattle.rt_model.specs.State.{State}
use Rattle.rt_model.specs.Graph.{Leads, Reaches}

-- a set of tasks; what holds is said of tasks that are there
abbrev pub Set : Type 0
Set = TaskId → Bool

-- those of the one set lead to the task, or are it; those of the other don't: their edges lead to none but themselves
pub record AreKnown (s : State) (t : TaskId) (near far : Set) : Type 0 where
  pub itself : near t ≡ true
  pub lead : (u : TaskId) → u.0 < length s.tasks → near u ≡ true → (u ≡ t) ⊎ Reaches s u t
  pub other : far t ≡ false
  pub stay : (u v : TaskId) → u.0 < length s.tasks → far u ≡ true → Leads s u v → far v ≡ true

-- a round that stands at a task, or is at its end: its edges lead to the round and to where it stands, and each task of it leads there
pub record IsRound (s : State) (t : TaskId) (round : Set) (here : Option TaskId) : Type 0 where
  pub other : round t ≡ false
  pub stay : (u v : TaskId) → u.0 < length s.tasks → round u ≡ true → Leads s u v → (round v ≡ true) ⊎ (here ≡ Some v)
  pub lead : (u : TaskId) → u.0 < length s.tasks → round u ≡ true → IfSome here (Reaches s u)
