-- The tasks after a link, where the cells of a task and of a lock's owner were written through two parts of their list.
use Rattle.std.proofs.Common.{◌≡◌, ◌∙◌, ℕ, ◌<◌, ◌≤◌, List, ◌++◌, length, take, drop, get_or, refl, sym, ap, subst, arith, All, Option, Some, None, IfSome, length-take-le}
use Rattle.std.specs.Prelude.{slice_set}
use Rattle.std.proofs.Math.ListN.{length-set}
use Rattle.std.proofs.lemmas.List.Elements.{All-get_or, All-set}
use Rattle.rt_base.specs.declared.id.LockId.{LockId}
use Rattle.rt_base.specs.declared.id.TaskId.{TaskId}
use Rattle.rt_base.specs.declared.limits.TheConstants.{MAX_LOCKS, MAX_TASKS}
use Rattle.rt_model.specs.declared.reader_cell.ReaderCell.{ReaderCell}
use Rattle.rt_model.specs.Parts.{OwnerPart, TaskPart}
use Rattle.rt_model.specs.State.{Shared, no_task, lock_in}
use Rattle.rt_model.specs.StateAfter.{update, at_task}
use Rattle.rt_model.specs.steps.Chain.{rekeyed, requeued_where_old, refreshed_where_changed}
use Rattle.rt_model.proofs.CellStepLemmas.{length-where_changed}
use Rattle.rt_model.proofs.Links.{requeued-owner}
use Rattle.rt_model.proofs.Lists.{update-index, length-update, length-at_task, All-update, All-at_task}
use Rattle.rt_locks.specs.OwnerCell.{OwnerCell}
use Rattle.rt_walk.specs.Link.{awaited}
use Rattle.rt_parts.specs.Links.{task_among, tasks_linked, linked}
use Rattle.rt_parts.specs.Shared.{parts_of, IsAmong, IsShared}
use Rattle.rt_parts.proofs.OwnerParts.{parts-set}
use Rattle.rt_parts.proofs.SharedSteps.{read-index, made_of, lock-at, lock-there}
use Rattle.rt_parts.proofs.TwoCells.{first-from, in-front, both-set, either-order}

-- an element of the front part, and the first one of the back part
pub front-cell : (tasks front : List TaskPart) (u : TaskId) (j : ℕ) (given : TaskPart) → front ≡ take j tasks → u.0 < j → j < length tasks → get_or front u.0 given ≡ task_among tasks u
front-cell tasks front u j given is lt there =
    let long : length (take j tasks) ≡ j = length-take-le j tasks (omega (arith, there)) in
    ap (λ (xs : List TaskPart). get_or xs u.0 given) is ∙ (sym (read-index (take j tasks) u.0 given no_task (subst (λ (n : ℕ). u.0 < n) (sym long) lt)) ∙ in-front tasks u.0 j no_task lt)

pub back-cell : (tasks back : List TaskPart) (u : TaskId) (given : TaskPart) → back ≡ drop u.0 tasks → 0 < length back → get_or back 0 given ≡ task_among tasks u
back-cell tasks back u given is there =
    sym (read-index back 0 given no_task there) ∙ (ap (λ (xs : List TaskPart). task_among xs (record { 0 = 0 })) is ∙ first-from tasks u.0 no_task)

module _ (tasks front back : List TaskPart) (u o : TaskId) (before after : OwnerPart) (task owner left_task left_owner : TaskPart) (named : before.owner ≡ Some o)
    (at_task_is : task ≡ task_among tasks u) (at_owner_is : owner ≡ task_among tasks o)
    (is_task : left_task ≡ rekeyed task) (is_owner : left_owner ≡ refreshed_where_changed (awaited task) before.rows after.rows owner) where
  abbrev adjusted : TaskPart → TaskPart
  adjusted = refreshed_where_changed (awaited (task_among tasks u)) before.rows after.rows

  same_task : left_task ≡ rekeyed (task_among tasks u)
  same_task = is_task ∙ ap rekeyed at_task_is

  same_owner : left_owner ≡ adjusted (task_among tasks o)
  same_owner = is_owner ∙ (λ i. refreshed_where_changed (awaited (at_task_is i)) before.rows after.rows (at_owner_is i))

  by_owner : update (update tasks o.0 adjusted) u.0 rekeyed ≡ tasks_linked u before after tasks
  by_owner = ap (λ (p : Option TaskId). update (at_task tasks p adjusted) u.0 rekeyed) (sym named)

  -- the task stands in front of the owner
  pub task-first : front ≡ take o.0 tasks → back ≡ drop o.0 tasks → u.0 < o.0 → o.0 < length tasks → slice_set front u.0 left_task ++ slice_set back 0 left_owner ≡ tasks_linked u before after tasks
  task-first is_front is_back lt there =
      (λ i. slice_set (is_front i) u.0 (same_task i) ++ slice_set (is_back i) 0 (same_owner i))
      ∙ (both-set tasks u.0 o.0 no_task rekeyed adjusted lt there ∙ by_owner)

  -- or behind it
  pub owner-first : front ≡ take u.0 tasks → back ≡ drop u.0 tasks → o.0 < u.0 → u.0 < length tasks → slice_set front o.0 left_owner ++ slice_set back 0 left_task ≡ tasks_linked u before after tasks
  owner-first is_front is_back lt there =
      (λ i. slice_set (is_front i) o.0 (same_owner i) ++ slice_set (is_back i) 0 (same_task i))
      ∙ (both-set tasks o.0 u.0 no_task adjusted rekeyed lt there
      ∙ (either-order tasks o.0 u.0 adjusted rekeyed (λ is. omega (arith, lt, is)) ∙ by_owner))

-- a lock that nobody owns
pub none-linked : (tasks : List TaskPart) (u : TaskId) (before after : OwnerPart) (given left : TaskPart) → before.owner ≡ None → u.0 < length tasks → left ≡ rekeyed (get_or tasks u.0 given)
    → slice_set tasks u.0 left ≡ tasks_linked u before after tasks
none-linked tasks u before after given left none there is =
    (ap (slice_set tasks u.0) is ∙ sym (update-index tasks u.0 given rekeyed there))
    ∙ ap (λ (p : Option TaskId). update (at_task tasks p (refreshed_where_changed (awaited (task_among tasks u)) before.rows after.rows)) u.0 rekeyed) (sym none)

-- ---- the tasks after a link

module _ (u : TaskId) (before after : OwnerPart) (tasks : List TaskPart) where
  -- they are as many
  pub linked-many : length (tasks_linked u before after tasks) ≡ length tasks
  linked-many = length-update _ u.0 rekeyed ∙ length-at_task tasks before.owner _

  -- and keep tops of as many locks
  pub linked-kept : (n : ℕ) → All (λ (task : TaskPart). length task.kept ≡ n) tasks → All (λ (task : TaskPart). length task.kept ≡ n) (tasks_linked u before after tasks)
  linked-kept n kept =
      All-update (λ (task : TaskPart). length task.kept ≡ n) _ u.0 rekeyed (λ task is. is)
      (All-at_task (λ (task : TaskPart). length task.kept ≡ n) tasks before.owner _ (λ task is. length-where_changed (awaited (task_among tasks u)) before.rows after.rows task ∙ is) kept)

-- ---- the parts after a link

-- as a cell is left
abbrev pub cell_linked : TaskId → TaskPart → OwnerCell → OwnerCell
cell_linked u task cell = record cell { part = requeued_where_old (Some u) task cell.part }

pub shared-linked : (cells : List OwnerCell) (readers : List ReaderCell) (tasks left_tasks : List TaskPart) (now : Shared) (u : TaskId) (l : LockId) (cell left : OwnerCell) → made_of cells readers tasks ≡ now
    → l.0 < length now.locks → cell ≡ get_or cells l.0 cell → left ≡ cell_linked u (task_among tasks u) cell → left_tasks ≡ tasks_linked u cell.part left.part tasks
    → made_of (slice_set cells l.0 left) readers left_tasks ≡ linked u l now
shared-linked cells readers tasks left_tasks now u l cell left is there at is_left is_tasks =
    let f : OwnerPart → OwnerPart = requeued_where_old (Some u) (task_among tasks u) in
    let sh = made_of cells readers tasks in
    let part : left.part ≡ f cell.part = ap (λ (c : OwnerCell). c.part) is_left in
    let here : l.0 < length (parts_of cells) = subst (λ (x : Shared). l.0 < length x.locks) (sym is) there in
    let same : cell.part ≡ lock_in sh l = lock-at cells readers tasks sh refl l cell here at in
    let locks = parts-set cells l.0 cell left f (lock-there cells readers tasks sh refl l.0 here) at part in
    let all = is_tasks ∙ ((λ i. tasks_linked u cell.part (part i) tasks) ∙ ap (λ (lock : OwnerPart). tasks_linked u lock (f lock) tasks) same) in
    (λ i. record { locks = locks i; readers = readers; tasks = all i }) ∙ ap (linked u l) is

-- they are shared parts
pub linked-fits : (cells : List OwnerCell) (readers : List ReaderCell) (tasks left_tasks : List TaskPart) (u : TaskId) (l : LockId) (cell left : OwnerCell) → IsShared cells readers tasks
    → l.0 < length cells → cell ≡ get_or cells l.0 cell → left ≡ cell_linked u (task_among tasks u) cell → left_tasks ≡ tasks_linked u cell.part left.part tasks
    → IsShared (slice_set cells l.0 left) readers left_tasks
linked-fits cells readers tasks left_tasks u l cell left fits there at is_left is_tasks =
    let many : length left_tasks ≡ length tasks = ap length is_tasks ∙ linked-many u cell.part left.part tasks in
    let locks : length (slice_set cells l.0 left) ≡ length cells = length-set cells l.0 left in
    let among : IsAmong (length tasks) cell = subst (IsAmong (length tasks)) (sym at) (All-get_or (IsAmong (length tasks)) cells l.0 cell there fits.locks) in
    let left_among : IsAmong (length tasks) left = subst (IsAmong (length tasks)) (sym is_left) (record {
      room = among.room;
      owner = subst (λ (o : Option TaskId). IfSome o (λ t. t.0 < length tasks)) (sym (requeued-owner (Some u) (task_among tasks u) cell.part)) among.owner;
    }) in
    record {
      few_locks = subst (λ (n : ℕ). n ≤ MAX_LOCKS) (sym locks) fits.few_locks;
      few_tasks = subst (λ (n : ℕ). n ≤ MAX_TASKS) (sym many) fits.few_tasks;
      locks = subst (λ (n : ℕ). All (IsAmong n) (slice_set cells l.0 left)) (sym many) (All-set (IsAmong (length tasks)) cells l.0 left left_among fits.locks);
      readers = fits.readers ∙ sym locks;
      kept = subst (λ (xs : List TaskPart). All (λ (task : TaskPart). length task.kept ≡ length (slice_set cells l.0 left)) xs) (sym is_tasks)
          (subst (λ (n : ℕ). All (λ (task : TaskPart). length task.kept ≡ n) (tasks_linked u cell.part left.part tasks)) (sym locks) (linked-kept u cell.part left.part tasks (length cells) fits.kept));
    }
