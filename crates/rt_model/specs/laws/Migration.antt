-- Migration law.
use Rattle.std.specs.Prelude.{◌≡◌, ℕ, ◌+◌, Bool, false, Option, Some, if◌then◌else◌}
use Rattle.rt_base.specs.declared.call.Call.{Call}
use Rattle.rt_base.specs.declared.call.Call.TheVariants as calls
use Rattle.rt_base.specs.declared.id.TaskId.{TaskId}
use Rattle.rt_base.specs.declared.kind.Kind.{Kind}
use Rattle.rt_base.specs.declared.kind.Kind.TheVariants.{Spin, RwLock, Local}
use Rattle.rt_model.specs.declared.hold.Hold.{Hold}
use Rattle.rt_model.specs.Parts.{ThreadPart, call_of, count_holds}
use Rattle.rt_model.specs.State.{State, thread_part}
use Rattle.rt_model.specs.steps.Thread.{is_start}

-- what a hold counts in the migration count: one where it is of a spinlock, two of a local lock's cell, and of an `rwlock_t` one for
-- writing and each for reading
abbrev pub pins : Kind → Hold → ℕ
pins Spin hold = if hold.owns then 1 else 0
pins Local hold = if hold.owns then 2 else 0
pins RwLock hold = (if hold.owns then 1 else 0) + hold.reads
pins _ hold = 0

-- what all holds of a thread count
abbrev pub pinned : ThreadPart → ℕ
pinned thread = count_holds pins thread.kinds thread.holds

-- a call for a local lock counts one, once it has made its first event, until it is answered: first is whether that is still to come
abbrev pub pins_calling : Option Call → Bool → ℕ
pins_calling (Some (calls.Local l)) false = 1
pins_calling call first = 0

-- a thread's migration count is what its holds count, and its call
abbrev pub MigrationLaw : State → Type 0
MigrationLaw s = (t : TaskId)
    → (thread_part s t).migration ≡ pinned (thread_part s t) + pins_calling (call_of (thread_part s t)) (is_start (thread_part s t).phase)
