-- A line of the report is short.
use Rattle.std.proofs.Common.{ℕ, ◌*◌, ◌<◌, ◌≤◌, ◌^◌, Bool, true, false, List, [], ◌∷◌, ◌++◌, map, length, IfSome, All, arith, length-append}
use Rattle.std.specs.Prelude.{codes, decimal}
use Rattle.std.proofs.lemmas.Fmt.{length-decimal-le}
use Rattle.rt_base.specs.Script.{Script, lock_line, IsScript}
use Rattle.rt_base.specs.declared.id.LockId.{LockId}
use Rattle.rt_base.specs.declared.id.TaskId.{TaskId}
use Rattle.rt_base.specs.declared.kind.Kind.{Kind}
use Rattle.rt_base.specs.declared.kind.Kind.TheVariants as locks
use Rattle.rt_base.specs.declared.state.TaskState.{TaskState}
use Rattle.rt_model.specs.declared.reader_cell.ReaderCell.{ReaderCell}
use Rattle.rt_model.specs.declared.row.Row.{Row}
use Rattle.rt_model.specs.Parts.{OwnerPart, TaskPart, ThreadPart, effective_of}
use Rattle.rt_events.specs.Words.{spaced, state_word, task_word, task_or_dash, lock_word}
use Rattle.rt_events.specs.WellFormed.{IsTaskIn, IsLockIn}
use Rattle.rt_events.proofs.Short.{task_short, lock_short, dash_short, state_short, spaced_one, two_words, three_words, each_short, line_length}
use Rattle.rt_core.specs.declared.note.Note.{Note}
use Rattle.rt_core.specs.declared.note.Note.TheVariants as notes
use Rattle.rt_core.specs.Report.{bit_word, priority_words, progress_words, note_words, note_key, task_line_of, owner_words, reader_part_words, row_word, lock_line_of, IsNoteWithin}

-- ---- what is told

-- the numbers of a task's line are below 2 ^ 64
pub record AreNumbersSmall (task : TaskPart) (thread : ThreadPart) (note : Note) : Type 0 where
  pub own : task.own < 2 ^ 64
  pub effective : effective_of task < 2 ^ 64
  pub answered : thread.answered < 2 ^ 64
  pub calls : length thread.calls < 2 ^ 64
  pub key : note_key note < 2 ^ 64

-- a row's task is the script's, and its key is below 2 ^ 64
pub record IsRowTold (script : Script) (row : Row) : Type 0 where
  pub who : row.who < length script.tasks
  pub key : row.key < 2 ^ 64

-- what a lock's line names is the script's, of at most 64 rows, and its numbers are below 2 ^ 64
pub record IsLockTold (script : Script) (lock : OwnerPart) (readers : ReaderCell) : Type 0 where
  pub owner : IfSome lock.owner (IsTaskIn script)
  pub count : readers.count < 2 ^ 64
  pub rows : All (IsRowTold script) lock.rows
  pub few : length lock.rows ≤ 64

-- ---- words

number_short : (n : ℕ) → n < 2 ^ 64 → length (decimal n) ≤ 20
number_short n lt = length-decimal-le 20 n (omega arith) (omega (arith, lt)) lt

bit_short : (bit : Bool) → length (bit_word bit) ≤ 1
bit_short true = omega arith
bit_short false = omega arith

-- a line of a first word and three groups of words
joined : (word first second third : List ℕ) → length word ≤ 4 → length first ≤ 64 → length second ≤ 64 → length third ≤ 38 * 64 → length (word ++ first ++ second ++ third ++ 10 ∷ []) < 4096
joined word first second third w a b c = omega (arith, w, a, b, c, line_length [] word first second third)

-- ---- a task's line

priorities_short : (script : Script) (t : TaskId) (task : TaskPart) → IsScript script → IsTaskIn script t → task.own < 2 ^ 64 → effective_of task < 2 ^ 64
    → length (spaced (priority_words script t task)) ≤ 64
priorities_short script t task is there own effective =
    omega (
      arith,
      task_short script t is there,
      number_short task.own own,
      number_short (effective_of task) effective,
      three_words (task_word script t) (decimal task.own) (decimal (effective_of task)),
    )

state_one : (state : TaskState) → length (state_word state) ≤ 1
state_one state = omega (arith, state_short state, spaced_one (state_word state))

progress_short : (task : TaskPart) (thread : ThreadPart) → thread.answered < 2 ^ 64 → length thread.calls < 2 ^ 64 → length (spaced (progress_words task thread)) ≤ 64
progress_short task thread answered calls =
    omega (
      arith,
      state_one task.state,
      state_one task.saved,
      number_short thread.answered answered,
      number_short (length thread.calls) calls,
      length-append (decimal thread.answered) (47 ∷ decimal (length thread.calls)),
      three_words (state_word task.state) (state_word task.saved) (decimal thread.answered ++ 47 ∷ decimal (length thread.calls)),
    )

note_short : (script : Script) (note : Note) → IsScript script → IsNoteWithin (length script.tasks) (length script.locks) note → note_key note < 2 ^ 64 → length (spaced (note_words script note)) ≤ 38 * 64
note_short script (notes.Walk cursor) is there key = omega (arith, task_short script cursor is there, two_words (codes "walk") (task_word script cursor))
note_short script (notes.Lock l k) is there key = omega (arith, lock_short script l is there, number_short k key, three_words (codes "lock") (lock_word script l) (decimal k))
note_short script (notes.Readers l) is there key = omega (arith, lock_short script l is there, two_words (codes "readers") (lock_word script l))
note_short script _ is there key = omega arith

-- a task's line of the report is shorter than 4,096 bytes
pub task_line_short : (script : Script) (t : TaskId) (task : TaskPart) (thread : ThreadPart) (note : Note) → IsScript script → IsTaskIn script t
    → IsNoteWithin (length script.tasks) (length script.locks) note → AreNumbersSmall task thread note → length (task_line_of script t task thread note) < 4096
task_line_short script t task thread note is there within small =
    joined (codes "task") (spaced (priority_words script t task)) (spaced (progress_words task thread)) (spaced (note_words script note)) (omega arith)
    (priorities_short script t task is there small.own small.effective)
    (progress_short task thread small.answered small.calls)
    (note_short script note is within small.key)

-- ---- a lock's line

owner_short : (script : Script) (l : LockId) (lock : OwnerPart) → IsScript script → IsLockIn script l → IfSome lock.owner (IsTaskIn script) → length (spaced (owner_words script l lock)) ≤ 64
owner_short script l lock is there owner =
    omega (
      arith,
      lock_short script l is there,
      dash_short script lock.owner is owner,
      spaced_one (task_or_dash script lock.owner),
      bit_short lock.bit,
      three_words (lock_word script l) (task_or_dash script lock.owner) (bit_word lock.bit),
    )

reader_part_short : (r : ReaderCell) → r.count < 2 ^ 64 → length (spaced (bit_word r.bias ∷ bit_word r.writer ∷ decimal r.count ∷ [])) ≤ 64
reader_part_short r count = omega (arith, bit_short r.bias, bit_short r.writer, number_short r.count count, three_words (bit_word r.bias) (bit_word r.writer) (decimal r.count))

readers_short : (kind : Kind) (r : ReaderCell) → r.count < 2 ^ 64 → length (spaced (reader_part_words kind r)) ≤ 64
readers_short locks.RwLock r count = reader_part_short r count
readers_short locks.RwSem r count = reader_part_short r count
readers_short _ r count = omega arith

row_short : (script : Script) (row : Row) → IsScript script → IsRowTold script row → length (row_word script row) ≤ 37
row_short script row is told =
    let t : TaskId = record { 0 = row.who } in
    omega (arith, task_short script t is told.who, number_short row.key told.key, length-append (task_word script t) (58 ∷ decimal row.key))

rows_short : (script : Script) (rows : List Row) → IsScript script → All (IsRowTold script) rows → length rows ≤ 64 → length (spaced (map (row_word script) rows)) ≤ 38 * 64
rows_short script rows is all few = omega (arith, each_short (row_word script) (IsRowTold script) rows (λ row. row_short script row is) all, few)

-- a lock's line of the report is shorter than 4,096 bytes
pub lock_line_short : (script : Script) (l : LockId) (lock : OwnerPart) (readers : ReaderCell) → IsScript script → IsLockIn script l → IsLockTold script lock readers
    → length (lock_line_of script l lock readers) < 4096
lock_line_short script l lock readers is there told =
    joined (codes "lock") (spaced (owner_words script l lock)) (spaced (reader_part_words (lock_line script l).kind readers)) (spaced (map (row_word script) lock.rows)) (omega arith)
    (owner_short script l lock is there told.owner)
    (readers_short (lock_line script l).kind readers told.count)
    (rows_short script lock.rows is told.rows told.few)
