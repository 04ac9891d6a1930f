-- A task's move: it makes its next event, where it has one.
use Rattle.std.specs.Prelude.{◌≡◌, List, [], ◌∷◌, Option, Some, None}
use Rattle.rt_base.specs.declared.id.TaskId.{TaskId}
use Rattle.rt_model.specs.declared.event.Event.{Event}
use Rattle.rt_model.specs.State.{State}
use Rattle.rt_model.specs.StateAfter.{state_after}

-- the event, where there is one
abbrev pub made_of : Option Event → List Event
made_of None = []
made_of (Some e) = e ∷ []

-- the state and who moved last, before and after the move of task t
abbrev pub MovesTo : TaskId → Option Event → State → Option TaskId → State → Option TaskId → Type 0
MovesTo t None old last new now = (new ≡ old) × (now ≡ last)
MovesTo t (Some e) old last new now = (new ≡ state_after old e) × (now ≡ Some t)
