-- How a walk goes on, by what it is told and by the parts of a state.
use Rattle.std.proofs.Common.{◌≡◌, ℕ, ◌≤◌, Bool, true, false, not, ◌&&◌, if◌then◌else◌, List, length, refl, ap, subst, Option, Some, None, is_some, is_none, nat_eq}
use Rattle.rt_base.specs.declared.id.LockId.{LockId}
use Rattle.rt_base.specs.declared.id.TaskId.{TaskId}
use Rattle.rt_model.specs.declared.phase.Phase.TheVariants as phases
use Rattle.rt_model.specs.declared.phase.Route.TheVariants.{Full}
use Rattle.rt_model.specs.Parts.{TaskPart}
use Rattle.rt_model.specs.steps.Chain.{has_old_key, is_on_path, path_before, goes_on}
use Rattle.rt_walk.specs.declared.next.Next.TheVariants.{End, Confirm, To}
use Rattle.rt_walk.specs.Next.{next_after, found, phase_of}
use Rattle.rt_walk.proofs.Paths.{first_links, few_before}

-- a full walk that goes on to a task has the links before the task's own
to : (t : TaskId) (path : List (ℕ × ℕ)) → phase_of (Full path) (To t (length (path_before t path))) ≡ Some (phases.Walk t (Full (path_before t path)))
to t path = ap (λ (links : List (ℕ × ℕ)). Some (phases.Walk t (Full links))) (first_links t path)

-- by whether the task is blocked, is the walker, has an old key, and is on the path
chosen : (t : TaskId) (path : List (ℕ × ℕ)) (at : Option (LockId × ℕ)) (own on old : Bool)
    → phase_of (Full path) (if not (is_some at) then End else if own then Confirm else if on && not old then End else To t (length (path_before t path)))
    ≡ (if is_none at then None else if own then Some (phases.Confirm path) else if on && not old then None else Some (phases.Walk t (Full (path_before t path))))
chosen t path None own on old = refl
chosen t path (Some at) true on old = refl
chosen t path (Some at) false true true = to t path
chosen t path (Some at) false true false = refl
chosen t path (Some at) false false old = to t path

pub told_full : (walker : TaskId) (path : List (ℕ × ℕ)) (owner : Option TaskId) (task : TaskPart) → phase_of (Full path) (next_after walker true path (found owner task)) ≡ goes_on walker (Full path) owner task
told_full walker path None task = refl
told_full walker path (Some o) task = chosen o path task.blocked (nat_eq o.0 walker.0) (is_on_path o path) (has_old_key task)

-- a full walk's path is cut to no more links than it has
pub cut_within : (walker : TaskId) (path : List (ℕ × ℕ)) (at : Option (TaskId × Bool × Bool)) (t : TaskId) (keep : ℕ) → next_after walker true path at ≡ To t keep → keep ≤ length path
cut_within walker path None t keep is = cc
cut_within walker path (Some (o, blocked, right)) t keep is = by_tests blocked (nat_eq o.0 walker.0) (is_on_path o path && right) is
  where
    by_tests : (blocked own ends : Bool) → (if not blocked then End else if own then Confirm else if ends then End else To o (length (path_before o path))) ≡ To t keep → keep ≤ length path
    by_tests false own ends is = cc
    by_tests true true ends is = cc
    by_tests true false true is = cc
    by_tests true false false is = let same : length (path_before o path) ≡ keep = cc in subst (λ (n : ℕ). n ≤ length path) same (few_before o path)
