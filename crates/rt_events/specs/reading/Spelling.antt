-- What a word of a journal's line stands for.
use Rattle.std.specs.Prelude.{◌≡◌, ℕ, ◌+◌, ◌-◌, ◌≤◌, List, [], ◌∷◌, Option, Some, None, option_map, is_none, is_some, if◌then◌else◌, ◌==◌, bytes_eq, codes}
use Rattle.std.specs.List.{slice_split}
use Rattle.rt_base.specs.Script.{Script, lock_line}
use Rattle.rt_base.specs.declared.id.LockId.{LockId}
use Rattle.rt_base.specs.declared.id.TaskId.{TaskId}
use Rattle.rt_base.specs.declared.reply.Reply.{Reply}
use Rattle.rt_base.specs.declared.reply.Reply.TheVariants as replies
use Rattle.rt_model.specs.declared.event_kind.EventKind.{EventKind}
use Rattle.rt_model.specs.declared.event_kind.EventKind.TheVariants as kinds
use Rattle.rt_script.specs.Names.{task_named, lock_named}
use Rattle.rt_script.specs.Words.{◌>>=◌, only_if, number_upto}

-- ---- tasks and locks

-- a task, or nobody
abbrev pub task_or_dash_in : Script → List ℕ → Option (Option TaskId)
task_or_dash_in script word = if bytes_eq word (codes "-") then Some None else option_map Some (task_named script word)

-- the lock of that name, where it has no cells
abbrev pub lone_lock : Script → List ℕ → Option LockId
lone_lock script name = lock_named script name >>= λ l. only_if (is_none (lock_line script l).cell) (Some l)

-- the cell of the local lock of that name on a processor
abbrev pub cell_in : Script → List ℕ → List ℕ → Option LockId
cell_in script name cpu = do
  l ← lock_named script name
  n ← number_upto (script.cpus - 1) cpu
  only_if (is_some (lock_line script l).cell) (Some (record { 0 = l.0 + n }))

-- a name alone, or a name and a processor
abbrev pub lock_of_parts : Script → List (List ℕ) → Option LockId
lock_of_parts script (name ∷ []) = lone_lock script name
lock_of_parts script (name ∷ cpu ∷ []) = cell_in script name cpu
lock_of_parts script _ = None

-- a dot stands between the name and the processor
abbrev pub lock_in : Script → List ℕ → Option LockId
lock_in script word = lock_of_parts script (slice_split (λ b. b == 46) word)

-- ---- fixed words

-- a kind, and the number that its word tells
abbrev pub kind_in : List ℕ → Option (EventKind × ℕ)
kind_in word = if bytes_eq word (codes "fast") then Some (kinds.Fast, 0)
    else if bytes_eq word (codes "free") then Some (kinds.Free, 0)
    else if bytes_eq word (codes "mark") then Some (kinds.Mark, 0)
    else if bytes_eq word (codes "take") then Some (kinds.Take, 0)
    else if bytes_eq word (codes "wait") then Some (kinds.Wait, 0)
    else if bytes_eq word (codes "walk") then Some (kinds.Walk, 0)
    else if bytes_eq word (codes "walkend") then Some (kinds.WalkEnd, 0)
    else if bytes_eq word (codes "restart") then Some (kinds.Restart, 0)
    else if bytes_eq word (codes "cycle") then Some (kinds.Cycle, 0)
    else if bytes_eq word (codes "again") then Some (kinds.Again, 0)
    else if bytes_eq word (codes "leave") then Some (kinds.Leave, 0)
    else if bytes_eq word (codes "give") then Some (kinds.Give, 0)
    else if bytes_eq word (codes "rin") then Some (kinds.RIn, 0)
    else if bytes_eq word (codes "rout") then Some (kinds.ROut, 0)
    else if bytes_eq word (codes "unbias") then Some (kinds.Unbias, 0)
    else if bytes_eq word (codes "wtake") then Some (kinds.WTake, 0)
    else if bytes_eq word (codes "wsleep") then Some (kinds.WSleep, 0)
    else if bytes_eq word (codes "wopen") then Some (kinds.WOpen, 0)
    else if bytes_eq word (codes "wwake") then Some (kinds.WWake, 0)
    else if bytes_eq word (codes "busy") then Some (kinds.Busy, 0)
    else if bytes_eq word (codes "state") then Some (kinds.State, 0)
    else if bytes_eq word (codes "sched") then Some (kinds.Sched, 0)
    else if bytes_eq word (codes "wake") then Some (kinds.Wake, 0)
    else if bytes_eq word (codes "signal") then Some (kinds.Wake, 1)
    else if bytes_eq word (codes "setprio") then Some (kinds.SetPrio, 0)
    else if bytes_eq word (codes "own") then Some (kinds.Own, 0)
    else None

-- the number that the word of a kind tells
abbrev pub HasKindValue : EventKind → ℕ → Type 0
HasKindValue kinds.Wake value = value ≤ 1
HasKindValue _ value = value ≡ 0

-- an answer
abbrev pub reply_in : List ℕ → Option Reply
reply_in word = if bytes_eq word (codes "got") then Some replies.Got
    else if bytes_eq word (codes "busy") then Some replies.Busy
    else if bytes_eq word (codes "deadlock") then Some replies.Deadlock
    else if bytes_eq word (codes "interrupted") then Some replies.Interrupted
    else if bytes_eq word (codes "notowner") then Some replies.NotOwner
    else if bytes_eq word (codes "nesting") then Some replies.Nesting
    else if bytes_eq word (codes "pinned") then Some replies.Pinned
    else if bytes_eq word (codes "woke") then Some replies.Woke
    else if bytes_eq word (codes "missed") then Some replies.Missed
    else if bytes_eq word (codes "done") then Some replies.Done
    else None

-- the number of a state that a task can be put into
abbrev pub state_in : List ℕ → Option ℕ
state_in word = if bytes_eq word (codes "R") then Some 0
    else if bytes_eq word (codes "S") then Some 1
    else if bytes_eq word (codes "D") then Some 2
    else None
