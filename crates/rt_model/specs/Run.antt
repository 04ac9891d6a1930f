-- Runs of the machine, and how a state stands.
use Rattle.std.specs.Prelude.{◌≡◌, ℕ, zero, suc, Bool, not, ◌&&◌, List, [], ◌∷◌, length, Option, Some, None, is_some, is_none, if◌then◌else◌}
use Rattle.std.specs.List.{list_all}
use Rattle.rt_base.specs.declared.ended.Ended.{Ended}
use Rattle.rt_base.specs.declared.ended.Ended.TheVariants.{Done, Stuck, Limit}
use Rattle.rt_base.specs.declared.id.TaskId.{TaskId}
use Rattle.rt_model.specs.declared.event.Event.{Event}
use Rattle.rt_model.specs.Parts.{ThreadPart, call_of}
use Rattle.rt_model.specs.State.{State}
use Rattle.rt_model.specs.NextEvent.{next_event}
use Rattle.rt_model.specs.StateAfter.{state_after}

-- the state after these events
abbrev pub after : State → List Event → State
after s [] = s
after s (e ∷ es) = after (state_after s e) es

-- each event is its task's next one in the state that those before it leave
abbrev pub IsRun : State → List Event → Type 0
IsRun s [] = Unit {0}
IsRun s (e ∷ es) = (next_event s e.task ≡ Some e) × IsRun (state_after s e) es

-- the thread is at the end of its calls
abbrev pub is_at_end : ThreadPart → Bool
is_at_end thread = is_none (call_of thread)

-- the task has a next event
abbrev pub is_enabled : State → ℕ → Bool
is_enabled s t = is_some (next_event s (record { 0 = t }))

-- the first, where there is one; else the other
abbrev pub or_else : Option TaskId → Option TaskId → Option TaskId
or_else (Some t) other = Some t
or_else None other = other

-- the lowest number below n that passes the test
abbrev pub lowest : (ℕ → Bool) → ℕ → Option TaskId
lowest test zero = None
lowest test (suc n) = or_else (lowest test n) (if test n then Some (record { 0 = n }) else None)

-- every task is at the end of its calls
abbrev pub is_done : State → Bool
is_done s = list_all is_at_end s.threads

-- no task has a next event, and some task isn't at the end of its calls
abbrev pub is_stuck : State → Bool
is_stuck s = is_none (lowest (is_enabled s) (length s.threads)) && not (is_done s)

-- how a run that leaves this state has ended
abbrev pub ended_of : State → Ended
ended_of s = if is_done s then Done else if is_stuck s then Stuck else Limit
