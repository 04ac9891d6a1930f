-- Which wakeups a task heeds.
use Rattle.std.specs.Prelude.{Bool, ◌||◌}
use Rattle.rt_model.specs.Parts.{TaskPart}
use Rattle.rt_model.specs.steps.Task.{sleeps, is_interruptible}

-- a wakeup ends a sleep of the task, or one that is saved
abbrev pub heeds_wake : TaskPart → Bool
heeds_wake task = sleeps task.state || sleeps task.saved

-- a signal does
abbrev pub heeds_signal : TaskPart → Bool
heeds_signal task = is_interruptible task.state || is_interruptible task.saved
