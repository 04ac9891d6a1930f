-- The queue of a lock: who is its top waiter, who may take it, and rows that come and go.
use Rattle.std.specs.Prelude.{ℕ, Bool, true, false, ◌&&◌, ◌||◌, not, List, [], ◌∷◌, filter, find, Option, Some, None, option_map, unwrap_or, is_some, nat_eq, nat_lt, if◌then◌else◌}
use Rattle.rt_base.specs.Kind.{spins}
use Rattle.rt_base.specs.declared.limits.TheConstants.{MAX_REALTIME}
use Rattle.rt_base.specs.declared.id.TaskId.{TaskId}
use Rattle.rt_base.specs.declared.kind.Kind.{Kind}
use Rattle.rt_model.specs.declared.reason.Reason.{Reason}
use Rattle.rt_model.specs.declared.reason.Reason.TheVariants as reasons
use Rattle.rt_model.specs.declared.row.Row.{Row}
use Rattle.rt_model.specs.Parts.{OwnerPart, TaskPart, effective_of}

-- ---- the top waiter

-- a row goes before another: less key, or the same key and less ticket
abbrev pub goes_before : Row → Row → Bool
goes_before row other = nat_lt row.key other.key || nat_eq row.key other.key && nat_lt row.ticket other.ticket

-- the better of a row and another, where there is one
abbrev pub better_of : Row → Option Row → Row
better_of row None = row
better_of row (Some other) = if goes_before other row then other else row

-- the top waiter: the least of the rows, by key and then by ticket, in whatever order they stand
abbrev pub top_waiter : List Row → Option Row
top_waiter [] = None
top_waiter (row ∷ rows) = Some (better_of row (top_waiter rows))

-- the top waiter's key
abbrev pub top_key : List Row → Option ℕ
top_key rows = option_map (λ (row : Row). row.key) (top_waiter rows)

-- the task of a row
abbrev pub task_of : Row → TaskId
task_of row = record { 0 = row.who }

-- the top waiter's task
abbrev pub top_task : List Row → Option TaskId
top_task rows = option_map task_of (top_waiter rows)

-- somebody is queued
abbrev pub has_rows : List Row → Bool
has_rows rows = is_some (top_waiter rows)

-- two rows are one: they have the same key, ticket and task
abbrev pub same_row : Row → Row → Bool
same_row row other = nat_eq row.key other.key && nat_eq row.ticket other.ticket && nat_eq row.who other.who

abbrev pub same_top : Option Row → Option Row → Bool
same_top None None = true
same_top (Some row) (Some other) = same_row row other
same_top _ _ = false

-- the top waiter is another row than it was
abbrev pub top_changed : List Row → List Row → Bool
top_changed before after = not (same_top (top_waiter before) (top_waiter after))

-- ---- a task's row

-- the row is the task's
abbrev pub is_of : TaskId → Row → Bool
is_of t row = nat_eq row.who t.0

-- the row with which a task is queued
abbrev pub row_of : TaskId → List Row → Option Row
row_of t rows = find (is_of t) rows

-- the key with which a task is queued
abbrev pub queued_key : TaskId → List Row → Option ℕ
queued_key t rows = option_map (λ (row : Row). row.key) (row_of t rows)

-- the rows with one more, in order
abbrev pub insert_row : Row → List Row → List Row
insert_row row [] = row ∷ []
insert_row row (other ∷ rows) = if goes_before row other then row ∷ other ∷ rows else other ∷ insert_row row rows

-- the rows of all other tasks
abbrev pub without : TaskId → List Row → List Row
without t rows = filter (λ row. not (is_of t row)) rows

-- ---- who may take a lock

-- why a task with this key may take a lock that has no owner, before a top waiter: it is that one itself, it is better,
-- or it is as good, of a normal priority, and the lock's kind spins
abbrev pub reason_before : TaskId → ℕ → Kind → Row → Option Reason
reason_before t key kind top =
    if is_of t top then Some reasons.Top
    else if nat_lt key top.key then Some reasons.Better
    else if nat_eq key top.key && nat_lt MAX_REALTIME key && spins kind then Some reasons.Equal
    else None

-- why it may take one with this top waiter, or with nobody waiting
abbrev pub reason_among : TaskId → ℕ → Kind → Option Row → Option Reason
reason_among t key kind None = Some reasons.Free
reason_among t key kind (Some top) = reason_before t key kind top

-- why a task that asks with this key may take the lock, of this kind, where it may
abbrev pub may_take : TaskId → ℕ → Kind → OwnerPart → Option Reason
may_take t key kind lock = if is_some lock.owner then None else reason_among t key kind (top_waiter lock.rows)

-- the key with which a task asks for a lock: its row's where it is queued, else its effective priority
abbrev pub asked_key : TaskId → List Row → TaskPart → ℕ
asked_key t rows task = unwrap_or (queued_key t rows) (effective_of task)

-- the task may take the lock
abbrev pub can_take : TaskId → Kind → OwnerPart → TaskPart → Bool
can_take t kind lock task = is_some (may_take t (asked_key t lock.rows task) kind lock)
