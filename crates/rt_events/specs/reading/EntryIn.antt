-- The entry that a journal's line tells.
use Rattle.std.specs.Prelude.{ℕ, ◌^◌, ◌-◌, List, [], ◌∷◌, Option, Some, None}
use Rattle.rt_base.specs.Script.{Script}
use Rattle.rt_base.specs.declared.id.TaskId.{TaskId}
use Rattle.rt_base.specs.declared.reply.Reply.{Reply}
use Rattle.rt_model.specs.declared.event_kind.EventKind.{EventKind}
use Rattle.rt_events.specs.declared.entry.Entry.{Entry}
use Rattle.rt_events.specs.declared.reading.operands.Operands.{Operands}
use Rattle.rt_events.specs.reading.Operands.{operands_in}
use Rattle.rt_events.specs.reading.Spelling.{kind_in}
use Rattle.rt_events.specs.reading.Tail.{plain_front, plain_rest, tail_in}
use Rattle.rt_script.specs.Names.{task_named}
use Rattle.rt_script.specs.Words.{◌>>=◌, words_of, text_lines, number_upto}

-- an entry by its fields, some of which its operands tell
abbrev pub entry_told : ℕ → TaskId → EventKind → Operands → Option (TaskId × ℕ) → Option Reply → Entry
entry_told number task kind o boost reply = record { number = number; task = task; kind = kind; lock = o.lock; other = o.other; woken = o.woken; value = o.value; path = o.path; boost = boost; reply = reply }

-- number, task and kind, what the kind tells, the boost and the answer
abbrev pub entry_of_words : Script → List (List ℕ) → Option Entry
entry_of_words script (number ∷ task ∷ kind ∷ ws) = do
  number ← number_upto (2 ^ 64 - 1) number
  task ← task_named script task
  kind ← kind_in kind
  o ← operands_in kind.0 script kind.1 (plain_front ws)
  tail ← tail_in script (plain_rest ws)
  Some (entry_told number task kind.0 o tail.0 tail.1)
entry_of_words script _ = None

-- one line, and nothing after its line feed
abbrev pub entry_of_lines : Script → List (List ℕ) → Option Entry
entry_of_lines script (line ∷ [] ∷ []) = entry_of_words script (words_of line)
entry_of_lines script _ = None

-- the entry whose line this is
abbrev pub entry_in : Script → List ℕ → Option Entry
entry_in script line = entry_of_lines script (text_lines line)
