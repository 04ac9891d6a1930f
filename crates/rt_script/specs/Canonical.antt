-- The text of a script as it is written: one form for each script.
use Rattle.std.specs.Prelude.{ℕ, List, [], ◌∷◌, ◌++◌, cond, map, filter, flat_map, codes, decimal}
use Rattle.rt_base.specs.declared.call.Call.{Call}
use Rattle.rt_base.specs.declared.call.Call.TheVariants as calls
use Rattle.rt_base.specs.declared.id.LockId.{LockId}
use Rattle.rt_base.specs.declared.id.TaskId.{TaskId}
use Rattle.rt_base.specs.declared.kind.Kind.{Kind}
use Rattle.rt_base.specs.declared.kind.Kind.TheVariants as kinds
use Rattle.rt_base.specs.Script.{Script, TaskLine, LockLine, task_line, lock_line, is_first_cell}
use Rattle.rt_base.specs.Text.{spaced, state_word}

-- the word for a kind of lock
abbrev pub lock_kind_word : Kind → List ℕ
lock_kind_word kinds.Mutex = codes "mutex"
lock_kind_word kinds.Spin = codes "spin"
lock_kind_word kinds.RwLock = codes "rwlock"
lock_kind_word kinds.RwSem = codes "rwsem"
lock_kind_word kinds.Local = codes "local"

-- a call on a lock
abbrev pub lock_call_words : Script → List ℕ → LockId → List (List ℕ)
lock_call_words script verb l = verb ∷ (lock_line script l).name ∷ []

-- a call on a task
abbrev pub task_call_words : Script → List ℕ → TaskId → List (List ℕ)
task_call_words script verb t = verb ∷ (task_line script t).name ∷ []

-- the words of a call
abbrev pub call_words : Script → Call → List (List ℕ)
call_words script (calls.Lock l) = lock_call_words script (codes "lock") l
call_words script (calls.LockInt l) = lock_call_words script (codes "lockint") l
call_words script (calls.TryLock l) = lock_call_words script (codes "trylock") l
call_words script (calls.Unlock l) = lock_call_words script (codes "unlock") l
call_words script (calls.Spin l) = lock_call_words script (codes "spin") l
call_words script (calls.TrySpin l) = lock_call_words script (codes "tryspin") l
call_words script (calls.Unspin l) = lock_call_words script (codes "unspin") l
call_words script (calls.Read l) = lock_call_words script (codes "read") l
call_words script (calls.TryRead l) = lock_call_words script (codes "tryread") l
call_words script (calls.Unread l) = lock_call_words script (codes "unread") l
call_words script (calls.Write l) = lock_call_words script (codes "write") l
call_words script (calls.TryWrite l) = lock_call_words script (codes "trywrite") l
call_words script (calls.Unwrite l) = lock_call_words script (codes "unwrite") l
call_words script (calls.Downgrade l) = lock_call_words script (codes "downgrade") l
call_words script (calls.Local l) = lock_call_words script (codes "local") l
call_words script (calls.Unlocal l) = lock_call_words script (codes "unlocal") l
call_words script (calls.State state) = codes "state" ∷ state_word state ∷ []
call_words script calls.Schedule = codes "schedule" ∷ []
call_words script (calls.Wake t) = task_call_words script (codes "wake") t
call_words script (calls.Signal t) = task_call_words script (codes "signal") t
call_words script (calls.SetPrio t prio) = task_call_words script (codes "setprio") t ++ decimal prio ∷ []
call_words script (calls.Move cpu) = codes "move" ∷ decimal cpu.0 ∷ []

-- ---- lines, without their line feeds

abbrev pub cpus_line_text : ℕ → List ℕ
cpus_line_text cpus = codes "cpus" ++ spaced (decimal cpus ∷ [])

abbrev pub task_line_text : TaskLine → List ℕ
task_line_text task = codes "task" ++ spaced (task.name ∷ decimal task.own ∷ decimal task.cpu.0 ∷ [])

abbrev pub lock_line_text : LockLine → List ℕ
lock_line_text lock = codes "lock" ++ spaced (lock.name ∷ lock_kind_word lock.kind ∷ [])

abbrev pub call_line_text : Script → TaskLine → Call → List ℕ
call_line_text script task call = codes "call" ++ spaced (task.name ∷ call_words script call)

abbrev pub pick_line_text : Script → TaskId → List ℕ
pick_line_text script t = codes "pick" ++ spaced ((task_line script t).name ∷ [])

-- the locks that have a line of their own: all but the cells of a local lock after its first
abbrev pub lined_locks : Script → List LockLine
lined_locks script = filter (λ (l : LockLine). is_first_cell l.cell) script.locks

-- the lines of a task's calls
abbrev pub call_line_texts : Script → TaskLine → List (List ℕ)
call_line_texts script task = map (call_line_text script task) task.calls

-- ---- the text

-- header, processors, tasks, locks, calls task by task, picks, and `go`
abbrev pub canonical_lines : Script → List (List ℕ)
canonical_lines script =
    codes "rtscript 1" ∷ cpus_line_text script.cpus ∷ map task_line_text script.tasks ++ map lock_line_text (lined_locks script)
    ++ flat_map (call_line_texts script) script.tasks ++ map (pick_line_text script) script.picks ++ codes "go" ∷ []

-- a line with its line feed
abbrev pub with_line_feed : List ℕ → List ℕ
with_line_feed line = line ++ 10 ∷ []

-- each line with its line feed
abbrev pub canonical : Script → List ℕ
canonical script = flat_map with_line_feed (canonical_lines script)

-- ---- the parts of the text, one after the other as they are written, each line with its line feed

-- the line of a task
abbrev pub task_text : TaskLine → List ℕ
task_text task = with_line_feed (task_line_text task)

-- the lines of the tasks
abbrev pub tasks_part : List TaskLine → List ℕ
tasks_part tasks = flat_map task_text tasks

-- the line of a lock, if it has one of its own
abbrev pub lock_text : LockLine → List ℕ
lock_text lock = cond (is_first_cell lock.cell) (with_line_feed (lock_line_text lock)) []

-- the lines of the locks
abbrev pub locks_part : List LockLine → List ℕ
locks_part locks = flat_map lock_text locks

-- the line of a task's call
abbrev pub call_text : Script → TaskLine → Call → List ℕ
call_text script task call = with_line_feed (call_line_text script task call)

-- the lines of a task's calls
abbrev pub calls_text : Script → TaskLine → List ℕ
calls_text script task = flat_map (call_text script task) task.calls

-- the lines of all calls, task by task
abbrev pub calls_part : Script → List ℕ
calls_part script = flat_map (calls_text script) script.tasks

-- the line of a pick
abbrev pub pick_text : Script → TaskId → List ℕ
pick_text script t = with_line_feed (pick_line_text script t)

-- the lines of the picks
abbrev pub picks_part : Script → List ℕ
picks_part script = flat_map (pick_text script) script.picks
