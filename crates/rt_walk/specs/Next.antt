-- How a walk goes on from a link, by what it finds of the owner of the lock there.
use Rattle.std.specs.Prelude.{ℕ, Bool, not, ◌&&◌, List, length, take, Option, Some, None, option_map, is_some, nat_eq, if◌then◌else◌}
use Rattle.rt_base.specs.declared.id.TaskId.{TaskId}
use Rattle.rt_base.specs.declared.reply.Reply.{Reply}
use Rattle.rt_model.specs.declared.phase.Phase.{Phase}
use Rattle.rt_model.specs.declared.phase.Phase.TheVariants as phases
use Rattle.rt_model.specs.declared.phase.Route.{Route}
use Rattle.rt_model.specs.declared.phase.Route.TheVariants.{Full, Short}
use Rattle.rt_model.specs.Parts.{TaskPart}
use Rattle.rt_model.specs.steps.Chain.{has_old_key, is_on_path, path_before}
use Rattle.rt_walk.specs.declared.next.Next.{Next}
use Rattle.rt_walk.specs.declared.next.Next.TheVariants.{End, Confirm, To}

-- ---- by the owner: who it is, whether it is blocked, and whether its key is its effective priority

-- a full walk ends at an owner that isn't blocked; where it comes back to its own task it is to be confirmed; at another task of
-- its path it ends, but where that one's key is old it goes on there, and the links before the task's own stay
abbrev pub full_after : TaskId → List (ℕ × ℕ) → TaskId → Bool → Bool → Next
full_after walker path o blocked right =
    if not blocked then End
    else if nat_eq o.0 walker.0 then Confirm
    else if is_on_path o path && right then End
    else To o (length (path_before o path))

-- a short walk goes on to an owner whose key is old
abbrev pub short_after : List (ℕ × ℕ) → TaskId → Bool → Bool → Next
short_after path o blocked right = if blocked && not right then To o (length path) else End

-- how a walk of a task goes on; at a lock without owner it ends
abbrev pub next_after : TaskId → Bool → List (ℕ × ℕ) → Option (TaskId × Bool × Bool) → Next
next_after walker full path None = End
next_after walker full path (Some (o, blocked, right)) = if full then full_after walker path o blocked right else short_after path o blocked right

-- ---- by the parts of a state

-- what a walk finds of the owner of a lock, where it has one
abbrev pub found : Option TaskId → TaskPart → Option (TaskId × Bool × Bool)
found owner task = option_map (λ (t : TaskId). (t, is_some task.blocked, not (has_old_key task))) owner

-- the route of a walk: a full one has a path, and a short one an answer to come
abbrev pub route_of : Bool → List (ℕ × ℕ) → Reply → Route
route_of full path answer = if full then Full path else Short answer

-- the phase in which a walk on this route stands then, or none where it ends
abbrev pub phase_of : Route → Next → Option Phase
phase_of route End = None
phase_of (Full path) Confirm = Some (phases.Confirm path)
phase_of (Short answer) Confirm = None
phase_of (Full path) (To t keep) = Some (phases.Walk t (Full (take keep path)))
phase_of (Short answer) (To t keep) = Some (phases.Walk t (Short answer))
