-- The report: where each task and each lock stands.
use Rattle.std.specs.Prelude.{ℕ, zero, suc, ◌+◌, ◌-◌, ◌<◌, Bool, true, false, List, [], ◌∷◌, ◌++◌, length, map, Option, Some, None, codes, decimal, nat_lt, if◌then◌else◌}
use Rattle.rt_base.specs.Script.{Script, lock_line}
use Rattle.rt_base.specs.declared.call.Call.{Call}
use Rattle.rt_base.specs.declared.id.LockId.{LockId}
use Rattle.rt_base.specs.declared.id.TaskId.{TaskId}
use Rattle.rt_base.specs.declared.kind.Kind.{Kind}
use Rattle.rt_base.specs.declared.kind.Kind.TheVariants.{RwLock, RwSem}
use Rattle.rt_model.specs.declared.phase.Phase.{Phase}
use Rattle.rt_model.specs.declared.phase.Phase.TheVariants as phases
use Rattle.rt_model.specs.declared.reader_cell.ReaderCell.{ReaderCell}
use Rattle.rt_model.specs.declared.row.Row.{Row}
use Rattle.rt_model.specs.Parts.{OwnerPart, TaskPart, ThreadPart, call_of, effective_of}
use Rattle.rt_model.specs.State.{State, owner_part, reader_part, task_part, thread_part}
use Rattle.rt_model.specs.Choice.{called_lock}
use Rattle.rt_model.specs.Run.{is_enabled}
use Rattle.rt_core.specs.declared.note.Note.{Note}
use Rattle.rt_core.specs.declared.note.Note.TheVariants as notes
use Rattle.rt_events.specs.Words.{spaced, state_word, task_word, task_or_dash, lock_word}

-- where a task that has no next event waits: queued at a lock, for readers, or for a wakeup
abbrev pub blocked_note : Option (LockId × ℕ) → Note
blocked_note None = notes.Wake
blocked_note (Some at) = notes.Lock at.0 at.1

abbrev pub readers_note : Option LockId → Note
readers_note None = notes.Wake
readers_note (Some l) = notes.Readers l

abbrev pub waiting_note : Phase → TaskPart → ThreadPart → Call → Note
waiting_note phases.Wait task thread call = blocked_note task.blocked
waiting_note phases.WWait task thread call = readers_note (called_lock call)
waiting_note _ task thread call = notes.Wake

abbrev pub phase_note : Phase → State → TaskId → Call → Note
phase_note (phases.Walk cursor route) s t call = notes.Walk cursor
phase_note (phases.Confirm path) s t call = notes.Confirm
phase_note phase s t call = if is_enabled s t.0 then notes.Ready else waiting_note phase (task_part s t) (thread_part s t) call

abbrev pub call_note : State → TaskId → Option Call → Note
call_note s t None = notes.End
call_note s t (Some call) = phase_note (thread_part s t).phase s t call

-- where a task stands
abbrev pub note_of : State → TaskId → Note
note_of s t = call_note s t (call_of (thread_part s t))

abbrev pub note_words : Script → Note → List (List ℕ)
note_words script notes.End = codes "end" ∷ []
note_words script (notes.Walk cursor) = codes "walk" ∷ task_word script cursor ∷ []
note_words script notes.Confirm = codes "confirm" ∷ []
note_words script notes.Ready = codes "ready" ∷ []
note_words script (notes.Lock l key) = codes "lock" ∷ lock_word script l ∷ decimal key ∷ []
note_words script (notes.Readers l) = codes "readers" ∷ lock_word script l ∷ []
note_words script notes.Wake = codes "wake" ∷ []

-- the key that the note tells, 0 where it tells none
abbrev pub note_key : Note → ℕ
note_key (notes.Lock l key) = key
note_key _ = 0

-- what the note names is among so many tasks and locks
abbrev pub IsNoteWithin : ℕ → ℕ → Note → Type 0
IsNoteWithin tasks locks (notes.Walk cursor) = cursor.0 < tasks
IsNoteWithin tasks locks (notes.Lock l key) = l.0 < locks
IsNoteWithin tasks locks (notes.Readers l) = l.0 < locks
IsNoteWithin tasks locks _ = Unit {0}

-- name, own and effective priority
abbrev pub priority_words : Script → TaskId → TaskPart → List (List ℕ)
priority_words script t task = task_word script t ∷ decimal task.own ∷ decimal (effective_of task) ∷ []

-- state and saved state, and how many of its calls are answered
abbrev pub progress_words : TaskPart → ThreadPart → List (List ℕ)
progress_words task thread = state_word task.state ∷ state_word task.saved ∷ (decimal thread.answered ++ 47 ∷ decimal (length thread.calls)) ∷ []

-- a task's line: its priorities, its progress, and where it stands
abbrev pub task_line_of : Script → TaskId → TaskPart → ThreadPart → Note → List ℕ
task_line_of script t task thread note =
    codes "task" ++ spaced (priority_words script t task) ++ spaced (progress_words task thread) ++ spaced (note_words script note) ++ 10 ∷ []

abbrev pub task_report : Script → State → TaskId → List ℕ
task_report script s t = task_line_of script t (task_part s t) (thread_part s t) (note_of s t)

abbrev pub bit_word : Bool → List ℕ
bit_word true = codes "1"
bit_word false = codes "0"

-- bias, write flag and count, at the reader/writer kinds
abbrev pub reader_part_words : Kind → ReaderCell → List (List ℕ)
reader_part_words RwLock r = bit_word r.bias ∷ bit_word r.writer ∷ decimal r.count ∷ []
reader_part_words RwSem r = bit_word r.bias ∷ bit_word r.writer ∷ decimal r.count ∷ []
reader_part_words _ r = []

abbrev pub row_word : Script → Row → List ℕ
row_word script row = task_word script (record { 0 = row.who }) ++ 58 ∷ decimal row.key

-- name, owner and waiters bit
abbrev pub owner_words : Script → LockId → OwnerPart → List (List ℕ)
owner_words script l lock = lock_word script l ∷ task_or_dash script lock.owner ∷ bit_word lock.bit ∷ []

-- a lock's line: its owner, its readers, and the rows in order
abbrev pub lock_line_of : Script → LockId → OwnerPart → ReaderCell → List ℕ
lock_line_of script l lock readers =
    codes "lock" ++ spaced (owner_words script l lock) ++ spaced (reader_part_words (lock_line script l).kind readers) ++ spaced (map (row_word script) lock.rows) ++ 10 ∷ []

abbrev pub lock_report : Script → State → LockId → List ℕ
lock_report script s l = lock_line_of script l (owner_part s l) (reader_part s l)

-- line i of the report, the tasks before the locks
abbrev pub report_line_of : Script → State → ℕ → List ℕ
report_line_of script s i =
    if nat_lt i (length script.tasks)
    then task_report script s (record { 0 = i })
    else lock_report script s (record { 0 = i - length script.tasks })

-- the first n lines of the report
abbrev pub report_upto : Script → State → ℕ → List ℕ
report_upto script s zero = []
report_upto script s (suc n) = report_upto script s n ++ report_line_of script s n

abbrev pub report_of : Script → State → List ℕ
report_of script s = report_upto script s (length script.tasks + length script.locks)
