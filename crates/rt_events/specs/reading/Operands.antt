-- What the operands of each kind tell, their words from left to right.
use Rattle.std.specs.Prelude.{ℕ, zero, suc, List, [], ◌∷◌, Option, Some, None, bytes_eq, codes}
use Rattle.rt_base.specs.Script.{Script}
use Rattle.rt_base.specs.declared.id.LockId.{LockId}
use Rattle.rt_base.specs.declared.id.TaskId.{TaskId}
use Rattle.rt_base.specs.declared.limits.TheConstants.{MAX_PRIO, MAX_TASKS}
use Rattle.rt_model.specs.Path.{first_lock}
use Rattle.rt_model.specs.declared.event_kind.EventKind.{EventKind}
use Rattle.rt_model.specs.declared.event_kind.EventKind.TheVariants as kinds
use Rattle.rt_events.specs.declared.reading.operands.Operands.{Operands}
use Rattle.rt_events.specs.reading.Spelling.{task_or_dash_in, lock_in, state_in}
use Rattle.rt_script.specs.Names.{task_named}
use Rattle.rt_script.specs.Words.{◌>>=◌, only_if, number_upto}

-- nothing is told but a number
abbrev pub number_alone : ℕ → Operands
number_alone value = record { lock = None; other = None; woken = None; value = value; path = [] }

-- nothing is left
abbrev pub at_end : {A : Type 0} → A → List (List ℕ) → Option A
at_end a [] = Some a
at_end a (w ∷ ws) = None

-- a first word, and then the rest
abbrev pub first : {A B : Type 0} → (List ℕ → Option A) → (A → List (List ℕ) → Option B) → List (List ℕ) → Option B
first read rest [] = None
first read rest (w ∷ ws) = read w >>= λ a. rest a ws

-- `wakes` and a task, or nothing
abbrev pub wakes_in : Script → List (List ℕ) → Option (Option TaskId)
wakes_in script [] = Some None
wakes_in script (w ∷ ws) = only_if (bytes_eq w (codes "wakes")) (first (task_named script) (λ t. at_end (Some t)) ws)

-- `reader`, or nothing
abbrev pub reader_in : List (List ℕ) → Option ℕ
reader_in [] = Some 0
reader_in (w ∷ ws) = only_if (bytes_eq w (codes "reader")) (at_end 1 ws)

-- a lock, or nothing
abbrev pub lock_or_none_in : Script → List (List ℕ) → Option (Option LockId)
lock_or_none_in script [] = Some None
lock_or_none_in script (w ∷ ws) = first (lock_in script) (λ l. at_end (Some l)) (w ∷ ws)

-- up to so many links
abbrev pub links_in : Script → ℕ → List (List ℕ) → Option (List (ℕ × ℕ))
links_in script most [] = Some []
links_in script most (t ∷ []) = None
links_in script zero (t ∷ l ∷ ws) = None
links_in script (suc most) (t ∷ l ∷ ws) = do
  t ← task_named script t
  l ← lock_in script l
  links ← links_in script most ws
  Some ((t.0, l.0) ∷ links)

-- ---- what the operands tell, by their form, where the word of the kind tells this number

-- a lock
abbrev pub lock_operand : Script → ℕ → List (List ℕ) → Option Operands
lock_operand script value ws = first (lock_in script) (λ l. at_end (record (number_alone value) { lock = Some l })) ws

-- a lock, or nothing
abbrev pub maybe_lock_operand : Script → ℕ → List (List ℕ) → Option Operands
maybe_lock_operand script value ws = lock_or_none_in script ws >>= λ l. Some (record (number_alone value) { lock = l })

-- a lock, and whether a reader was at it
abbrev pub lock_and_reader : Script → List (List ℕ) → Option Operands
lock_and_reader script ws = first (lock_in script) (λ l rest. reader_in rest >>= λ reader. Some (record (number_alone reader) { lock = Some l })) ws

-- a lock, and whom it was handed to
abbrev pub lock_and_woken : Script → ℕ → List (List ℕ) → Option Operands
lock_and_woken script value ws = first (lock_in script) (λ l. first (task_or_dash_in script) (λ woken. at_end (record (number_alone value) { lock = Some l; woken = woken }))) ws

-- a task
abbrev pub task_operand : Script → ℕ → List (List ℕ) → Option Operands
task_operand script value ws = first (task_named script) (λ t. at_end (record (number_alone value) { other = Some t })) ws

-- a task and a priority
abbrev pub task_and_prio : Script → List (List ℕ) → Option Operands
task_and_prio script ws = first (task_named script) (λ t. first (number_upto MAX_PRIO) (λ prio. at_end (record (number_alone prio) { other = Some t }))) ws

-- a link: a task and a lock
abbrev pub link_operands : Script → ℕ → List (List ℕ) → Option Operands
link_operands script value ws = first (task_named script) (λ t. first (lock_in script) (λ l. at_end (record (number_alone value) { other = Some t; lock = Some l }))) ws

-- a link, and whom the walk woke
abbrev pub walk_operands : Script → ℕ → List (List ℕ) → Option Operands
walk_operands script value ws =
    first (task_named script) (λ t. first (lock_in script) (λ l rest. wakes_in script rest >>= λ woken. Some (record (number_alone value) { other = Some t; lock = Some l; woken = woken }))) ws

-- a path, which has a link
abbrev pub some_links : List (ℕ × ℕ) → Option Operands
some_links [] = None
some_links (link ∷ links) = Some (record (number_alone 0) { lock = first_lock (link ∷ links); path = link ∷ links })

abbrev pub path_operands : Script → List (List ℕ) → Option Operands
path_operands script ws = links_in script MAX_TASKS ws >>= some_links

-- ---- the operands of a kind, where its word tells this number

abbrev pub operands_in : EventKind → Script → ℕ → List (List ℕ) → Option Operands
operands_in kinds.Walk script value ws = walk_operands script value ws
operands_in kinds.WalkEnd script value ws = task_operand script value ws
operands_in kinds.Restart script value ws = link_operands script value ws
operands_in kinds.Cycle script value ws = path_operands script ws
operands_in kinds.Give script value ws = lock_and_woken script value ws
operands_in kinds.WWake script value ws = lock_and_woken script value ws
operands_in kinds.Busy script value ws = lock_and_reader script ws
operands_in kinds.WOpen script value ws = lock_and_reader script ws
operands_in kinds.State script value ws = first state_in (λ state. at_end (number_alone state)) ws
operands_in kinds.Sched script value ws = at_end (number_alone value) ws
operands_in kinds.Wake script value ws = task_operand script value ws
operands_in kinds.SetPrio script value ws = task_and_prio script ws
operands_in kinds.Own script value ws = maybe_lock_operand script value ws
operands_in _ script value ws = lock_operand script value ws
