-- A line between the header and `go`, judged in what the lines above it make.
use Rattle.std.specs.Prelude.{◌+◌, ℕ, Bool, true, not, List, [], ◌∷◌, length, Ok, Err, if◌then◌else◌, nat_lt, nat_le}
use Rattle.std.specs.List.{list_all}
use Rattle.rt_base.specs.Script.{Script, all_calls, locks_of}
use Rattle.rt_script.specs.declared.fault.Why.TheVariants.{NotAscii, BadLine, Unknown, BadNumber, TooMany}
use Rattle.rt_script.specs.declared.keyword.Keyword.{Keyword}
use Rattle.rt_script.specs.declared.keyword.Keyword.TheVariants as keywords
use Rattle.rt_script.specs.Adding.{with_cpus, with_task, with_locks, with_call, with_pick}
use Rattle.rt_script.specs.Calls.{call_form, call_in}
use Rattle.rt_script.specs.Judging.{Judged, ◌>>=◌, need, provided}
use Rattle.rt_base.specs.declared.limits.TheConstants.{MAX_TASKS, MAX_LOCKS, MAX_CALLS, MAX_PICKS, MAX_PRIO}
use Rattle.rt_script.specs.Names.{task_named, new_name}
use Rattle.rt_script.specs.Spelling.{cpus_spelled, cpu_spelled, kind_spelled, keyword_spelled}
use Rattle.rt_script.specs.Words.{words_of, one, two, three, number_upto, is_printable, is_passed_over}

-- what the lines so far make, and whether any of them was more than passed over
pub record SoFar : Type 0 where
  pub script : Script
  pub begun : Bool

-- ---- what the words after the first make: first their form, then each from left to right, and then the limits

-- `cpus N`, before all other lines
unfoldable pub after_cpus_line : SoFar → List (List ℕ) → Judged Script
after_cpus_line so_far operands = provided (not so_far.begun) BadLine do
  word ← need BadLine (one operands)
  n ← need BadNumber (cpus_spelled word)
  Ok (with_cpus so_far.script n)

-- `task NAME PRIO CPU`
unfoldable pub after_task_line : Script → List (List ℕ) → Judged Script
after_task_line script operands = do
  words ← need BadLine (three operands)
  name ← new_name script words.0
  own ← need BadNumber (number_upto MAX_PRIO words.1)
  cpu ← need BadNumber (cpu_spelled script words.2)
  provided (nat_lt (length script.tasks) MAX_TASKS) TooMany (Ok (with_task script (record { name = name; own = own; cpu = cpu; calls = [] })))

-- `lock NAME KIND`
unfoldable pub after_lock_line : Script → List (List ℕ) → Judged Script
after_lock_line script operands = do
  words ← need BadLine (two operands)
  kind ← need BadLine (kind_spelled words.1)
  name ← new_name script words.0
  provided (nat_le (length script.locks + length (locks_of script.cpus name kind)) MAX_LOCKS) TooMany (Ok (with_locks script (locks_of script.cpus name kind)))

-- `call TASK CALL`
unfoldable pub after_call_line : Script → List (List ℕ) → Judged Script
after_call_line script [] = Err BadLine
after_call_line script (task ∷ words) = do
  form ← need BadLine (call_form words)
  t ← need Unknown (task_named script task)
  call ← call_in script form
  provided (nat_lt (all_calls script) MAX_CALLS) TooMany (Ok (with_call script t call))

-- `pick TASK`
unfoldable pub after_pick_line : Script → List (List ℕ) → Judged Script
after_pick_line script operands = do
  task ← need BadLine (one operands)
  t ← need Unknown (task_named script task)
  provided (nat_lt (length script.picks) MAX_PICKS) TooMany (Ok (with_pick script t))

-- ---- lines

-- a line of that first word and those after it
abbrev pub after_keyword : SoFar → List (List ℕ) → Keyword → Judged Script
after_keyword so_far operands keywords.Cpus = after_cpus_line so_far operands
after_keyword so_far operands keywords.Task = after_task_line so_far.script operands
after_keyword so_far operands keywords.Lock = after_lock_line so_far.script operands
after_keyword so_far operands keywords.Call = after_call_line so_far.script operands
after_keyword so_far operands keywords.Pick = after_pick_line so_far.script operands

-- a line of these words
abbrev pub after_words : SoFar → List (List ℕ) → Judged Script
after_words so_far [] = Err BadLine
after_words so_far (first ∷ operands) = need BadLine (keyword_spelled first) >>= after_keyword so_far operands

-- a line that isn't passed over has come
abbrev pub begun_with : Judged Script → Judged SoFar
begun_with (Ok script) = Ok (record { script = script; begun = true })
begun_with (Err why) = Err why

-- no word is empty
abbrev pub are_words : List (List ℕ) → Bool
are_words words = list_all (λ word. nat_lt 0 (length word)) words

-- a line: its bytes, and then its words
unfoldable pub after_line : SoFar → List ℕ → Judged SoFar
after_line so_far line = provided (list_all is_printable line) NotAscii
    (if is_passed_over line then Ok so_far
    else provided (are_words (words_of line)) BadLine (begun_with (after_words so_far (words_of line))))
