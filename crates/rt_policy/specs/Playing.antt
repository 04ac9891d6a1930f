-- Events made and told.
use Rattle.std.specs.Prelude.{◌≡◌, ℕ, ◌+◌, ◌<◌, List, [], ◌++◌, Option, Some, None, IfSome, length}
use Rattle.rt_base.specs.Outside.{AppendsPrefix}
use Rattle.rt_base.specs.Script.{Script}
use Rattle.rt_base.specs.declared.id.TaskId.{TaskId}
use Rattle.rt_model.specs.declared.event.Event.{Event}
use Rattle.rt_model.specs.State.{State}
use Rattle.rt_model.specs.StateAfter.{state_after}
use Rattle.rt_model.specs.Run.{after}
use Rattle.rt_core.specs.Core.{Made}
use Rattle.rt_events.specs.Entry.{entry}
use Rattle.rt_events.specs.Line.{line_of}
use Rattle.rt_policy.specs.declared.progress.Progress.{Progress}
use Rattle.rt_policy.specs.Printing.{HandsOn}

-- some first part of these events was made, and counted
abbrev pub IsPartMade : Made → Made → List Event → Type 0
IsPartMade old new events = (first : List Event) × (rest : List Event) × (first ++ rest ≡ events) × (new.state ≡ after old.state first) × (new.made ≡ old.made + length first)

-- who moved last, if anybody did, is a task of the script
abbrev pub IsLastOf : Script → Option TaskId → Type 0
IsLastOf script last = IfSome last (λ t. t.0 < length script.tasks)

-- one event more, of task t
abbrev pub with_move : Progress → TaskId → Progress
with_move so_far t = record { count = so_far.count + 1; last = Some t }

-- the task's next event is made and its line printed, or nothing is done where it has none
abbrev pub Moves : Script → ℕ → TaskId → Option Event → State → State → Progress → Progress → Option (List ℕ) → List ℕ → Option (List ℕ) → List ℕ → Type 0
Moves script first t None old new so_far now held_before gathered_before held_after gathered_after =
    (new ≡ old) × (now ≡ so_far) × HandsOn held_before gathered_before [] held_after gathered_after
Moves script first t (Some e) old new so_far now held_before gathered_before held_after gathered_after =
    (new ≡ state_after old e) × (now ≡ with_move so_far t) × HandsOn held_before gathered_before (line_of script (entry (first + so_far.count) e)) held_after gathered_after

-- the sink failed at the line of the task's next event, which isn't made
abbrev pub Stops : Script → ℕ → Option Event → State → State → Progress → Option (List ℕ) → List ℕ → Option (List ℕ) → Type 0
Stops script first None old new so_far held_before gathered_before held_after = ⊥
Stops script first (Some e) old new so_far held_before gathered_before held_after =
    (new ≡ old) × AppendsPrefix held_before (gathered_before ++ line_of script (entry (first + so_far.count) e)) held_after
