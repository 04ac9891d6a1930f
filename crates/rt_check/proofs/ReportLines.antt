-- A line of the report is one line, whatever it tells.
use Rattle.std.proofs.Common.{◌≡◌, ℕ, zero, suc, ◌+◌, ◌-◌, Bool, true, false, cond, not, ◌&&◌, List, [], ◌∷◌, ◌++◌, map, length, Option, Some, None, refl, ◌∙◌, arith}
use Rattle.std.specs.Prelude.{codes, decimal, ◌==◌, ◌/◌, ◌%◌, nat_lt}
use Rattle.std.specs.List.{list_all}
use Rattle.std.specs.Fmt.{digit_glyph, digits_onto, digits}
use Rattle.std.proofs.lemmas.Bool.Decides.{nat_tests}
use Rattle.std.proofs.lemmas.List.Folds.{list_all-append}
use Rattle.rt_base.specs.Name.{is_name_byte, is_name}
use Rattle.rt_base.specs.Script.{Script, IsScript, IsTaskOf, IsLockWithin, lock_line, TaskLine, LockLine}
use Rattle.rt_base.specs.declared.id.Cpu.{Cpu}
use Rattle.rt_base.specs.declared.id.LockId.{LockId}
use Rattle.rt_base.specs.declared.id.TaskId.{TaskId}
use Rattle.rt_base.specs.declared.kind.Kind.{Kind}
use Rattle.rt_base.specs.declared.kind.Kind.TheVariants as locks
use Rattle.rt_base.specs.declared.state.TaskState.{TaskState}
use Rattle.rt_base.specs.declared.state.TaskState.TheVariants as states
use Rattle.rt_model.specs.declared.reader_cell.ReaderCell.{ReaderCell}
use Rattle.rt_model.specs.declared.row.Row.{Row}
use Rattle.rt_model.specs.Parts.{OwnerPart, TaskPart, ThreadPart, effective_of}
use Rattle.rt_model.specs.State.{State, owner_part, reader_part, task_part, thread_part}
use Rattle.rt_model.proofs.Lists.{All-read}
use Rattle.rt_events.specs.Words.{spaced, state_word, task_word, task_or_dash, cell_word, lock_word}
use Rattle.rt_core.specs.declared.note.Note.{Note}
use Rattle.rt_core.specs.declared.note.Note.TheVariants as notes
use Rattle.rt_core.specs.Report.{bit_word, priority_words, progress_words, note_words, note_of, task_line_of, owner_words, reader_part_words, row_word, lock_line_of, task_report, lock_report, report_line_of}
use Rattle.rt_check.proofs.Lines.{IsLine}

-- no line feed is in it
abbrev is_free : List ℕ → Bool
is_free word = list_all (λ b. not (b == 10)) word

abbrev are_free : List (List ℕ) → Bool
are_free words = list_all is_free words

both : (x y : Bool) → x ≡ true → y ≡ true → (x && y) ≡ true
both true y e f = f
both false y e f = e

right : (x y : Bool) → (x && y) ≡ true → y ≡ true
right true y e = e
right false y e = absurd cc

left : (x y : Bool) → (x && y) ≡ true → x ≡ true
left true y e = refl
left false y e = absurd cc

free_both : (a b : List ℕ) → is_free a ≡ true → is_free b ≡ true → is_free (a ++ b) ≡ true
free_both a b e f = list_all-append (λ b. not (b == 10)) a b ∙ both (is_free a) (is_free b) e f

words_both : (a b : List (List ℕ)) → are_free a ≡ true → are_free b ≡ true → are_free (a ++ b) ≡ true
words_both a b e f = list_all-append is_free a b ∙ both (are_free a) (are_free b) e f

free_spaced : (words : List (List ℕ)) → are_free words ≡ true → is_free (spaced words) ≡ true
free_spaced [] e = refl
free_spaced (w ∷ ws) e = free_both w (spaced ws) (left (is_free w) (are_free ws) e) (free_spaced ws (right (is_free w) (are_free ws) e))

-- ---- numbers

glyph : (d : ℕ) (b : Bool) → (not (cond b (48 + d) (87 + d) == 10)) ≡ true
glyph d true = grind (arith, nat_tests)
glyph d false = grind (arith, nat_tests)

digits_step : (b : Bool) (first : ℕ) (acc more : List ℕ) → is_free (first ∷ acc) ≡ true → is_free more ≡ true → is_free (cond b (first ∷ acc) more) ≡ true
digits_step true first acc more e f = e
digits_step false first acc more e f = f

digits_free : (k n : ℕ) (acc : List ℕ) → is_free acc ≡ true → is_free (digits_onto k 10 false n acc) ≡ true
digits_free zero n acc e = e
digits_free (suc k) n acc e =
    let digit : ℕ = digit_glyph false (n % 10) in
    let one : is_free (digit ∷ acc) ≡ true = both _ _ (glyph (n % 10) (nat_lt (n % 10) 10)) e in
    digits_step (n / 10 == 0) digit acc (digits_onto k 10 false (n / 10) (digit ∷ acc)) one (digits_free k (n / 10) (digit ∷ acc) one)

free_number : (n : ℕ) → is_free (decimal n) ≡ true
unfolding digits
free_number n = digits_free 64 n [] refl

-- ---- names

name_byte : (b : ℕ) → is_name_byte b ≡ true → not (b == 10) ≡ true
name_byte b e = grind (arith, nat_tests)

name_bytes : (word : List ℕ) → list_all is_name_byte word ≡ true → is_free word ≡ true
name_bytes [] e = refl
name_bytes (b ∷ bs) e = both _ _ (name_byte b (left (is_name_byte b) (list_all is_name_byte bs) e)) (name_bytes bs (right (is_name_byte b) (list_all is_name_byte bs) e))

free_name : (word : List ℕ) → is_name word ≡ true → is_free word ≡ true
free_name word e = name_bytes word (right _ (list_all is_name_byte word) e)

free_cell : (cell : Option Cpu) → is_free (cell_word cell) ≡ true
free_cell None = refl
free_cell (Some cpu) = free_number cpu.0

free_bit : (bit : Bool) → is_free (bit_word bit) ≡ true
free_bit true = refl
free_bit false = refl

free_state : (state : TaskState) → is_free (state_word state) ≡ true
free_state states.Running = refl
free_state states.Interruptible = refl
free_state states.Uninterruptible = refl
free_state states.LockWait = refl

-- ---- the lines

module _ (script : Script) (valid : IsScript script) where
  free_task_name : (line : TaskLine) → IsTaskOf script line → is_free line.name ≡ true
  free_task_name line is = free_name line.name is.name

  free_lock_name : (line : LockLine) → IsLockWithin script.cpus line → is_free line.name ≡ true
  free_lock_name line is = free_name line.name is.name

  free_task : (t : TaskId) → is_free (task_word script t) ≡ true
  free_task t = All-read (λ (line : TaskLine). is_free line.name ≡ true) script.tasks t.0 _ (λ k d lt. free_task_name _ (valid.each_task k d lt)) refl

  free_lock : (l : LockId) → is_free (lock_word script l) ≡ true
  free_lock l =
      free_both (lock_line script l).name (cell_word (lock_line script l).cell)
      (All-read (λ (line : LockLine). is_free line.name ≡ true) script.locks l.0 _ (λ k d lt. free_lock_name _ (valid.each_lock k d lt)) refl)
      (free_cell (lock_line script l).cell)

  free_dash : (t : Option TaskId) → is_free (task_or_dash script t) ≡ true
  free_dash None = refl
  free_dash (Some t) = free_task t

  -- ---- a task's line

  free_priorities : (t : TaskId) (task : TaskPart) → are_free (priority_words script t task) ≡ true
  free_priorities t task = both _ _ (free_task t) (both _ _ (free_number task.own) (both _ _ (free_number (effective_of task)) refl))

  free_progress : (task : TaskPart) (thread : ThreadPart) → are_free (progress_words task thread) ≡ true
  free_progress task thread =
      let count = free_both (decimal thread.answered) (47 ∷ decimal (length thread.calls)) (free_number thread.answered) (free_number (length thread.calls)) in
      both _ _ (free_state task.state) (both _ _ (free_state task.saved) (both _ _ count refl))

  free_note : (note : Note) → are_free (note_words script note) ≡ true
  free_note notes.End = refl
  free_note (notes.Walk cursor) = both _ _ (free_task cursor) refl
  free_note notes.Confirm = refl
  free_note notes.Ready = refl
  free_note (notes.Lock l key) = both _ _ (free_lock l) (both _ _ (free_number key) refl)
  free_note (notes.Readers l) = both _ _ (free_lock l) refl
  free_note notes.Wake = refl

  -- a first word and three groups of words
  line : (word : List ℕ) (a b c : List (List ℕ)) → is_free word ≡ true → are_free a ≡ true → are_free b ≡ true → are_free c ≡ true → IsLine (word ++ spaced a ++ spaced b ++ spaced c ++ 10 ∷ [])
  line word a b c w a-free b-free c-free = (
    word ++ spaced a ++ spaced b ++ spaced c,
    refl,
    free_both (word ++ spaced a ++ spaced b) (spaced c) (free_both (word ++ spaced a) (spaced b) (free_both word (spaced a) w (free_spaced a a-free)) (free_spaced b b-free)) (free_spaced c c-free),
  )

  task_line_is : (t : TaskId) (task : TaskPart) (thread : ThreadPart) (note : Note) → IsLine (task_line_of script t task thread note)
  task_line_is t task thread note = line (codes "task") (priority_words script t task) (progress_words task thread) (note_words script note) refl (free_priorities t task) (free_progress task thread) (free_note note)

  -- ---- a lock's line

  free_owner : (l : LockId) (lock : OwnerPart) → are_free (owner_words script l lock) ≡ true
  free_owner l lock = both _ _ (free_lock l) (both _ _ (free_dash lock.owner) (both _ _ (free_bit lock.bit) refl))

  free_readers : (kind : Kind) (r : ReaderCell) → are_free (reader_part_words kind r) ≡ true
  free_readers locks.RwLock r = both _ _ (free_bit r.bias) (both _ _ (free_bit r.writer) (both _ _ (free_number r.count) refl))
  free_readers locks.RwSem r = both _ _ (free_bit r.bias) (both _ _ (free_bit r.writer) (both _ _ (free_number r.count) refl))
  free_readers _ r = refl

  free_rows : (rows : List Row) → are_free (map (row_word script) rows) ≡ true
  free_rows [] = refl
  free_rows (row ∷ rows) = both _ _ (free_both (task_word script (record { 0 = row.who })) (58 ∷ decimal row.key) (free_task (record { 0 = row.who })) (free_number row.key)) (free_rows rows)

  lock_line_is : (l : LockId) (lock : OwnerPart) (readers : ReaderCell) → IsLine (lock_line_of script l lock readers)
  lock_line_is l lock readers =
      line (codes "lock") (owner_words script l lock) (reader_part_words (lock_line script l).kind readers) (map (row_word script) lock.rows) refl (free_owner l lock) (free_readers (lock_line script l).kind readers) (free_rows lock.rows)

  -- line i of the report, whatever it tells
  pub report_line_is : (s : State) (i : ℕ) → IsLine (report_line_of script s i)
  report_line_is s i = by (nat_lt i (length script.tasks))
    where
      t : TaskId
      t = record { 0 = i }

      l : LockId
      l = record { 0 = i - length script.tasks }

      by : (b : Bool) → IsLine (cond b (task_report script s t) (lock_report script s l))
      by true = task_line_is t (task_part s t) (thread_part s t) (note_of s t)
      by false = lock_line_is l (owner_part s l) (reader_part s l)
