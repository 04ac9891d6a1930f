-- The line of a journal that tells an event.
use Rattle.std.specs.Prelude.{◌≡◌, ℕ, List, [], ◌∷◌, ◌++◌, flat_map, Option, Some, None, codes, decimal, nat_eq, if◌then◌else◌}
use Rattle.rt_base.specs.Script.{Script}
use Rattle.rt_base.specs.declared.id.LockId.{LockId}
use Rattle.rt_base.specs.declared.id.TaskId.{TaskId}
use Rattle.rt_base.specs.declared.reply.Reply.{Reply}
use Rattle.rt_model.specs.declared.event_kind.EventKind.{EventKind}
use Rattle.rt_model.specs.declared.event_kind.EventKind.TheVariants as kinds
use Rattle.rt_model.specs.steps.Task.{state_numbered}
use Rattle.rt_events.specs.declared.entry.Entry.{Entry}
use Rattle.rt_events.specs.WellFormed.{IsWellFormed}
use Rattle.rt_events.specs.Words.{spaced, kind_word, state_word, reply_word, task_word, lock_word, task_or_dash}

abbrev pub lock_words : Script → Option LockId → List (List ℕ)
lock_words script None = []
lock_words script (Some l) = lock_word script l ∷ []

abbrev pub task_words : Script → Option TaskId → List (List ℕ)
task_words script None = []
task_words script (Some t) = task_word script t ∷ []

-- the task that a walk woke
abbrev pub wakes_words : Script → Option TaskId → List (List ℕ)
wakes_words script None = []
wakes_words script (Some t) = codes "wakes" ∷ task_word script t ∷ []

-- the value 1 tells of a reader
abbrev pub reader_words : ℕ → List (List ℕ)
reader_words value = if nat_eq value 1 then codes "reader" ∷ [] else []

-- a link of a path: a task, and the lock that it waits for
abbrev pub link_words : Script → ℕ × ℕ → List (List ℕ)
link_words script link = task_word script (record { 0 = link.0 }) ∷ lock_word script (record { 0 = link.1 }) ∷ []

-- what is told of the event besides who did what
abbrev pub operands : Script → EventKind → Entry → List (List ℕ)
operands script kinds.Walk n = task_words script n.other ++ lock_words script n.lock ++ wakes_words script n.woken
operands script kinds.WalkEnd n = task_words script n.other
operands script kinds.Restart n = task_words script n.other ++ lock_words script n.lock
operands script kinds.Cycle n = flat_map (link_words script) n.path
operands script kinds.Give n = lock_words script n.lock ++ task_or_dash script n.woken ∷ []
operands script kinds.WWake n = lock_words script n.lock ++ task_or_dash script n.woken ∷ []
operands script kinds.Busy n = lock_words script n.lock ++ reader_words n.value
operands script kinds.WOpen n = lock_words script n.lock ++ reader_words n.value
operands script kinds.State n = state_word (state_numbered n.value) ∷ []
operands script kinds.Sched n = []
operands script kinds.Wake n = task_words script n.other
operands script kinds.SetPrio n = task_words script n.other ++ decimal n.value ∷ []
operands script _ n = lock_words script n.lock

-- a task and its effective priority
abbrev pub boost_word : Script → TaskId × ℕ → List ℕ
boost_word script boost = task_word script boost.0 ++ 61 ∷ decimal boost.1

-- the task whose effective priority changed, with the new one
abbrev pub boost_words : Script → Option (TaskId × ℕ) → List (List ℕ)
boost_words script None = []
boost_words script (Some boost) = boost_word script boost ∷ []

abbrev pub reply_words : Option Reply → List (List ℕ)
reply_words None = []
reply_words (Some reply) = codes "->" ∷ reply_word reply ∷ []

-- the words after the number: task and kind, what the kind tells, the boost and the answer
abbrev pub told_words : Script → Entry → List (List ℕ)
told_words script n = task_word script n.task ∷ kind_word n.kind n.value ∷ operands script n.kind n ++ (boost_words script n.boost ++ reply_words n.reply)

-- the line that tells an entry, with its line feed
abbrev pub line_of : Script → Entry → List ℕ
line_of script n = decimal n.number ++ spaced (told_words script n) ++ 10 ∷ []

-- the line is that of the entry, which is well formed
abbrev pub IsLineOf : Script → List ℕ → Entry → Type 0
IsLineOf script line n = (line_of script n ≡ line) × IsWellFormed script n
