-- The order in which one thread plays a script: first the picks, then a stated choice.
use Rattle.std.specs.Prelude.{ℕ, zero, suc, Bool, true, false, ◌&&◌, List, [], ◌∷◌, ◌++◌, length, Option, Some, None, if◌then◌else◌}
use Rattle.rt_base.specs.Script.{Script}
use Rattle.rt_base.specs.declared.id.TaskId.{TaskId}
use Rattle.rt_model.specs.declared.event.Event.{Event}
use Rattle.rt_model.specs.declared.phase.Phase.{Phase}
use Rattle.rt_model.specs.declared.phase.Phase.TheVariants.{Walk, Confirm}
use Rattle.rt_model.specs.State.{State, start, thread_part}
use Rattle.rt_model.specs.NextEvent.{next_event}
use Rattle.rt_model.specs.StateAfter.{state_after}
use Rattle.rt_model.specs.Run.{is_enabled, lowest, or_else}

-- events in their order, the state that they leave, and the task that moved last
pub record Played : Type 0 where
  pub events : List Event
  pub state : State
  pub last : Option TaskId

-- nothing more is played
abbrev pub stop : State → Option TaskId → Played
stop s last = record { events = []; state = s; last = last }

-- the task's next event and then the rest, or the rest alone where it has none
abbrev pub then_play : (State → Option TaskId → Played) → State → Option TaskId → TaskId → Option Event → Played
then_play rest s last t None = rest s last
then_play rest s last t (Some e) = let more = rest (state_after s e) (Some t) in record more { events = e ∷ more.events }

-- the picks in order; a pick of a task without a next event is passed over
abbrev pub picked : List TaskId → State → Option TaskId → Played
picked [] s last = stop s last
picked (t ∷ ts) s last = then_play (picked ts) s last t (next_event s t)

-- the task that moved last, where it has a next event
abbrev pub if_enabled : State → Option TaskId → Option TaskId
if_enabled s None = None
if_enabled s (Some t) = if is_enabled s t.0 then Some t else None

-- a thread whose chain walk is unfinished
abbrev pub in_walk : Phase → Bool
in_walk (Walk cursor route) = true
in_walk (Confirm path) = true
in_walk _ = false

-- a task in such a walk that has a next event
abbrev pub is_walking : State → ℕ → Bool
is_walking s t = in_walk (thread_part s (record { 0 = t })).phase && is_enabled s t

-- who moves after the picks: the task that moved last; else the lowest one in a walk; else the lowest one
abbrev pub chosen_task : State → Option TaskId → Option TaskId
chosen_task s last =
    or_else (if_enabled s last) (or_else (lowest (is_walking s) (length s.threads)) (lowest (is_enabled s) (length s.threads)))

-- the chosen task's next event and then the rest
abbrev pub play_chosen : (State → Option TaskId → Played) → State → Option TaskId → Option TaskId → Played
play_chosen rest s last None = stop s last
play_chosen rest s last (Some t) = then_play rest s last t (next_event s t)

-- at most n events by that choice
abbrev pub chosen : ℕ → State → Option TaskId → Played
chosen zero s last = stop s last
chosen (suc n) s last = play_chosen (chosen n) s last (chosen_task s last)

-- all picks, then at most this many events by the stated choice
abbrev pub replayed : Script → ℕ → Played
replayed script turns =
    let first = picked script.picks (start script) None in
    let rest = chosen turns first.state first.last in
    record rest { events = first.events ++ rest.events }
