-- What an event reads and leaves depends on what it touches alone.
use Rattle.std.specs.Prelude.{◌≡◌, true}
use Rattle.rt_model.specs.declared.event.Event.{Event}
use Rattle.rt_model.specs.declared.obj.Obj.{Obj}
use Rattle.rt_model.specs.State.{State, object}
use Rattle.rt_model.specs.Footprint.{touches}

-- two states agree on what the event touches
abbrev pub AgreeOn : Event → State → State → Type 0
AgreeOn e s other = (o : Obj) → touches e o ≡ true → object other o ≡ object s o
