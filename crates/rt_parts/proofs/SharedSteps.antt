-- One cell of the shared parts written anew, as an update of the parts.
use Rattle.std.proofs.Common.{◌≡◌, ◌∙◌, ℕ, zero, suc, ◌<◌, List, [], ◌∷◌, length, length-set, get_or, refl, sym, ap, subst, arith, Option, Some, unwrap_or}
use Rattle.std.specs.Prelude.{slice_set, slice_get}
use Rattle.std.proofs.lemmas.List.{get_or-set_same}
use Rattle.rt_base.specs.declared.id.LockId.{LockId}
use Rattle.rt_base.specs.declared.id.TaskId.{TaskId}
use Rattle.rt_model.specs.declared.reader_cell.ReaderCell.{ReaderCell}
use Rattle.rt_model.specs.Parts.{OwnerPart, TaskPart}
use Rattle.rt_model.specs.State.{Shared, lock_in, readers_in, task_in}
use Rattle.rt_model.specs.StateAfter.{update, at_task}
use Rattle.rt_model.proofs.Lists.{update-index}
use Rattle.rt_locks.specs.OwnerCell.{OwnerCell}
use Rattle.rt_parts.specs.Shared.{parts_of}
use Rattle.rt_parts.proofs.OwnerParts.{length-parts, parts-at, parts-set}

-- the element at a place, whatever stands for one that is missing
pub read-index : {X : Type 0} (xs : List X) (i : ℕ) (x d : X) → i < length xs → unwrap_or (slice_get xs i) d ≡ get_or xs i x
read-index [] i x d lt = absurd (omega arith)
read-index (y ∷ xs) zero x d lt = refl
read-index (y ∷ xs) (suc i) x d lt = read-index xs i x d (omega arith)

-- the shared parts that these cells make
abbrev pub made_of : List OwnerCell → List ReaderCell → List TaskPart → Shared
made_of cells readers tasks = record { locks = parts_of cells; readers = readers; tasks = tasks }

module _ (cells : List OwnerCell) (readers : List ReaderCell) (tasks : List TaskPart) (now : Shared) (is : made_of cells readers tasks ≡ now) where
  -- a lock and a task that are there have cells
  pub lock-there : (i : ℕ) → i < length now.locks → i < length cells
  lock-there i lt = subst (λ (n : ℕ). i < n) (sym (ap (λ (sh : Shared). length sh.locks) is) ∙ length-parts cells) lt

  pub task-there : (i : ℕ) → i < length now.tasks → i < length tasks
  task-there i lt = subst (λ (n : ℕ). i < n) (sym (ap (λ (sh : Shared). length sh.tasks) is)) lt

  -- the part of a lock's cell
  pub lock-at : (l : LockId) (cell : OwnerCell) → l.0 < length now.locks → cell ≡ get_or cells l.0 cell → cell.part ≡ lock_in now l
  lock-at l cell lt at = ap (λ (c : OwnerCell). c.part) at ∙ (sym (parts-at cells l.0 cell _ (lock-there l.0 lt)) ∙ ap (λ (sh : Shared). lock_in sh l) is)

  -- a lock's cell with another part
  pub lock-set : (i : ℕ) (cell left : OwnerCell) (f : OwnerPart → OwnerPart) → i < length now.locks → cell ≡ get_or cells i cell → left.part ≡ f cell.part
      → made_of (slice_set cells i left) readers tasks ≡ record now { locks = update now.locks i f }
  lock-set i cell left f lt at changed =
      subst (λ (sh : Shared). made_of (slice_set cells i left) readers tasks ≡ record sh { locks = update sh.locks i f }) is
      (ap (λ (locks : List OwnerPart). record { locks = locks; readers = readers; tasks = tasks }) (parts-set cells i cell left f (lock-there i lt) at changed))

  -- the reader part of a lock that is there, and the same with another in its place
  pub reader-there : length readers ≡ length cells → (i : ℕ) → i < length now.locks → i < length readers
  reader-there long i lt = subst (λ (n : ℕ). i < n) (sym long) (lock-there i lt)

  pub reader-at : (l : LockId) (cell : ReaderCell) → length readers ≡ length cells → l.0 < length now.locks → cell ≡ get_or readers l.0 cell → cell ≡ readers_in now l
  reader-at l cell long lt at = at ∙ (sym (read-index readers l.0 cell _ (reader-there long l.0 lt)) ∙ ap (λ (sh : Shared). readers_in sh l) is)

  pub reader-set : (i : ℕ) (cell left : ReaderCell) (f : ReaderCell → ReaderCell) → length readers ≡ length cells → i < length now.locks → cell ≡ get_or readers i cell → left ≡ f cell
      → made_of cells (slice_set readers i left) tasks ≡ record now { readers = update now.readers i f }
  reader-set i cell left f long lt at changed =
      let set : slice_set readers i left ≡ update readers i f = ap (slice_set readers i) (changed ∙ ap f at) ∙ sym (update-index readers i cell f (reader-there long i lt)) in
      subst (λ (sh : Shared). made_of cells (slice_set readers i left) tasks ≡ record sh { readers = update sh.readers i f }) is
      (ap (λ (all : List ReaderCell). record { locks = parts_of cells; readers = all; tasks = tasks }) set)

  -- which is read there then
  pub reader-read : (l : LockId) (left : ReaderCell) → length readers ≡ length cells → l.0 < length now.locks → readers_in (made_of cells (slice_set readers l.0 left) tasks) l ≡ left
  reader-read l left long lt = read-index (slice_set readers l.0 left) l.0 left _ (subst (λ (n : ℕ). l.0 < n) (sym (length-set readers l.0 left)) (reader-there long l.0 lt)) ∙ get_or-set_same readers l.0 left left (reader-there long l.0 lt)

  -- another task
  pub task-set : (i : ℕ) (task left : TaskPart) (f : TaskPart → TaskPart) → i < length now.tasks → task ≡ get_or tasks i task → left ≡ f task
      → made_of cells readers (slice_set tasks i left) ≡ record now { tasks = update now.tasks i f }
  task-set i task left f lt at changed =
      let set : slice_set tasks i left ≡ update tasks i f = ap (slice_set tasks i) (changed ∙ ap f at) ∙ sym (update-index tasks i task f (task-there i lt)) in
      subst (λ (sh : Shared). made_of cells readers (slice_set tasks i left) ≡ record sh { tasks = update sh.tasks i f }) is
      (ap (λ (all : List TaskPart). record { locks = parts_of cells; readers = readers; tasks = all }) set)

  -- another task that is named
  pub named-set : (o : Option TaskId) (t : TaskId) (task left : TaskPart) (f : TaskPart → TaskPart) → o ≡ Some t → t.0 < length now.tasks → task ≡ get_or tasks t.0 task → left ≡ f task
      → made_of cells readers (slice_set tasks t.0 left) ≡ record now { tasks = at_task now.tasks o f }
  named-set o t task left f named lt at changed = task-set t.0 task left f lt at changed ∙ ap (λ (p : Option TaskId). record now { tasks = at_task now.tasks p f }) (sym named)

  -- the part of a task's cell
  pub task-at : (t : TaskId) (task : TaskPart) → t.0 < length now.tasks → task ≡ get_or tasks t.0 task → task ≡ task_in now t
  task-at t task lt at = at ∙ (sym (read-index tasks t.0 task _ (task-there t.0 lt)) ∙ ap (λ (sh : Shared). task_in sh t) is)
