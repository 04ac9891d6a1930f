-- What names stand for.
use Rattle.std.specs.Prelude.{◌≡◌, ℕ, true, List, Option, Some, None, Ok, option_map, is_none}
use Rattle.std.specs.Option.{option_or}
use Rattle.rt_base.specs.declared.id.TaskId.{TaskId}
use Rattle.rt_base.specs.declared.id.LockId.{LockId}
use Rattle.rt_base.specs.declared.kind.Kind.{Kind}
use Rattle.rt_base.specs.Name.{is_name}
use Rattle.rt_base.specs.Script.{Script, LockLine, task_place, lock_place, locks_of}
use Rattle.rt_script.specs.declared.named.Named.{Named}
use Rattle.rt_script.specs.declared.named.Named.TheVariants.{Task, Lock}
use Rattle.rt_script.specs.declared.fault.Why.TheVariants.{BadName, NameTwice}
use Rattle.rt_script.specs.Judging.{Judged, provided}

-- the task of a number, and the lock of a number
abbrev pub the_task : ℕ → Named
the_task i = Task (record { 0 = i })

abbrev pub the_lock : ℕ → Named
the_lock i = Lock (record { 0 = i })

-- the task or the lock of that name
unfoldable pub named : Script → List ℕ → Option Named
named script name = option_or (option_map the_task (task_place script name)) (option_map the_lock (lock_place script name))

-- the task among these
abbrev pub only_task : Option Named → Option TaskId
only_task (Some (Task t)) = Some t
only_task (Some (Lock l)) = None
only_task None = None

-- the lock among these
abbrev pub only_lock : Option Named → Option LockId
only_lock (Some (Lock l)) = Some l
only_lock (Some (Task t)) = None
only_lock None = None

-- the task of that name
abbrev pub task_named : Script → List ℕ → Option TaskId
task_named script name = only_task (named script name)

-- the lock of that name
abbrev pub lock_named : Script → List ℕ → Option LockId
lock_named script name = only_lock (named script name)

-- the word, where it has the shape of a name and stands for nothing yet
abbrev pub new_name : Script → List ℕ → Judged (List ℕ)
new_name script word = provided (is_name word) BadName (provided (is_none (named script word)) NameTwice (Ok word))

-- the locks of a line of some kind, whose name is new in the script
pub record AreNewLocks (script : Script) (name : List ℕ) (locks : List LockLine) : Type 0 where
  pub shape : is_name name ≡ true
  pub free : named script name ≡ None
  pub kind : Kind
  pub made : locks ≡ locks_of script.cpus name kind
