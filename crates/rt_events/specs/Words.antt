-- The words of journals and reports.
use Rattle.std.specs.Prelude.{ℕ, List, [], ◌∷◌, ◌++◌, Option, Some, None, codes, decimal, nat_eq, if◌then◌else◌}
pub use Rattle.rt_base.specs.Text.{spaced, state_word}
use Rattle.rt_base.specs.Script.{Script, task_line, lock_line}
use Rattle.rt_base.specs.declared.ended.Ended.{Ended}
use Rattle.rt_base.specs.declared.ended.Ended.TheVariants as ends
use Rattle.rt_base.specs.declared.id.Cpu.{Cpu}
use Rattle.rt_base.specs.declared.id.LockId.{LockId}
use Rattle.rt_base.specs.declared.id.TaskId.{TaskId}
use Rattle.rt_base.specs.declared.reply.Reply.{Reply}
use Rattle.rt_base.specs.declared.reply.Reply.TheVariants as replies
use Rattle.rt_model.specs.declared.event_kind.EventKind.{EventKind}
use Rattle.rt_model.specs.declared.event_kind.EventKind.TheVariants as kinds

-- a wake that carries 1 is a signal's
abbrev pub wake_word : ℕ → List ℕ
wake_word value = if nat_eq value 1 then codes "signal" else codes "wake"

-- the word of a kind, where the event carries this number
abbrev pub kind_word : EventKind → ℕ → List ℕ
kind_word kinds.Fast value = codes "fast"
kind_word kinds.Free value = codes "free"
kind_word kinds.Mark value = codes "mark"
kind_word kinds.Take value = codes "take"
kind_word kinds.Wait value = codes "wait"
kind_word kinds.Walk value = codes "walk"
kind_word kinds.WalkEnd value = codes "walkend"
kind_word kinds.Restart value = codes "restart"
kind_word kinds.Cycle value = codes "cycle"
kind_word kinds.Again value = codes "again"
kind_word kinds.Leave value = codes "leave"
kind_word kinds.Give value = codes "give"
kind_word kinds.RIn value = codes "rin"
kind_word kinds.ROut value = codes "rout"
kind_word kinds.Unbias value = codes "unbias"
kind_word kinds.WTake value = codes "wtake"
kind_word kinds.WSleep value = codes "wsleep"
kind_word kinds.WOpen value = codes "wopen"
kind_word kinds.WWake value = codes "wwake"
kind_word kinds.Busy value = codes "busy"
kind_word kinds.State value = codes "state"
kind_word kinds.Sched value = codes "sched"
kind_word kinds.Wake value = wake_word value
kind_word kinds.SetPrio value = codes "setprio"
kind_word kinds.Own value = codes "own"

abbrev pub reply_word : Reply → List ℕ
reply_word replies.Got = codes "got"
reply_word replies.Busy = codes "busy"
reply_word replies.Deadlock = codes "deadlock"
reply_word replies.Interrupted = codes "interrupted"
reply_word replies.NotOwner = codes "notowner"
reply_word replies.Nesting = codes "nesting"
reply_word replies.Pinned = codes "pinned"
reply_word replies.Woke = codes "woke"
reply_word replies.Missed = codes "missed"
reply_word replies.Done = codes "done"

abbrev pub end_word : Ended → List ℕ
end_word ends.Done = codes "done"
end_word ends.Stuck = codes "stuck"
end_word ends.Limit = codes "limit"

abbrev pub task_word : Script → TaskId → List ℕ
task_word script t = (task_line script t).name

abbrev pub task_or_dash : Script → Option TaskId → List ℕ
task_or_dash script None = codes "-"
task_or_dash script (Some t) = task_word script t

-- the cell of a local lock is told by its processor
abbrev pub cell_word : Option Cpu → List ℕ
cell_word None = []
cell_word (Some cpu) = 46 ∷ decimal cpu.0

abbrev pub lock_word : Script → LockId → List ℕ
lock_word script l = (lock_line script l).name ++ cell_word (lock_line script l).cell
