-- A script with one line more.
use Rattle.std.specs.Prelude.{ℕ, List, [], ◌∷◌, ◌++◌, slice_set}
use Rattle.rt_base.specs.declared.call.Call.{Call}
use Rattle.rt_base.specs.declared.id.TaskId.{TaskId}
use Rattle.rt_base.specs.Script.{Script, TaskLine, LockLine, task_line}

-- one processor, and nothing else
abbrev pub empty_script : Script
empty_script = record { cpus = 1; tasks = []; locks = []; picks = [] }

-- with a task after the others
abbrev pub with_task : Script → TaskLine → Script
with_task script line = record script { tasks = script.tasks ++ line ∷ [] }

-- with so many processors
abbrev pub with_cpus : Script → ℕ → Script
with_cpus script n = record script { cpus = n }

-- with these locks after the others
abbrev pub with_locks : Script → List LockLine → Script
with_locks script lines = record script { locks = script.locks ++ lines }

-- with a call after the others of a task
abbrev pub with_call : Script → TaskId → Call → Script
with_call script t call = record script { tasks = slice_set script.tasks t.0 (called (task_line script t)) }
  where
    called : TaskLine → TaskLine
    called line = record line { calls = line.calls ++ call ∷ [] }

-- with a pick after the others
abbrev pub with_pick : Script → TaskId → Script
with_pick script t = record script { picks = script.picks ++ t ∷ [] }
