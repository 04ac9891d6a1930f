-- The event from which an answer comes, in the same call.
use Rattle.std.specs.Prelude.{◌≡◌, List, [], ◌∷◌, ◌++◌, All, Some, None, slice_get}
use Rattle.rt_model.specs.declared.event.Event.{Event}
use Rattle.rt_model.specs.declared.event_kind.EventKind.{EventKind}

-- of the events up to one, one of this kind is in the same call: it is that event itself, or stands before it, and from it on
-- no event of the task has an answer until that one
pub record IsCause (kind : EventKind) (before : List Event) (e cause : Event) (prefix : List Event) : Type 0 where
  pub since : List Event
  pub is : prefix ++ since ≡ before
  pub first : slice_get (since ++ e ∷ []) 0 ≡ Some cause
  pub is_of : cause.kind ≡ kind
  pub task : cause.task ≡ e.task
  pub unanswered : All (λ (other : Event). other.task ≡ e.task → other.reply ≡ None) since
