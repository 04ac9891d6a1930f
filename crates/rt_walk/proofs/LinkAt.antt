-- A link of a path by its number: the pair that is there, and the task to which that leads.
use Rattle.std.proofs.Common.{◌≡◌, ℕ, zero, suc, ◌+◌, List, [], ◌∷◌, length, drop, refl, ap, sym, ◌∙◌, Option, Some, None, add-one, arith}
use Rattle.std.specs.Prelude.{Bool, true, false, slice_get, unwrap_or, option_map, is_some, nat_eq, ◌&&◌, if◌then◌else◌}
use Rattle.std.specs.Option.{option_eq}
use Rattle.rt_base.specs.declared.id.LockId.{LockId}
use Rattle.rt_base.specs.declared.id.TaskId.{TaskId}
use Rattle.rt_model.specs.State.{Shared, task_in}
use Rattle.rt_model.specs.Path.{Link, first_task, links_to, is_blocked_on, keeps_top, stands}
use Rattle.rt_model.specs.laws.Rows.{key_at}
use Rattle.rt_walk.specs.Link.{awaited, link_at}

-- a link from a pair to a task
abbrev pub link_to : TaskId → ℕ × ℕ → Link
link_to to pair = record { from = record { 0 = pair.0 }; lock = record { 0 = pair.1 }; to = to }

-- the pair at a place leads to the task of the next one, or to the end
links_to-at : (end : TaskId) (path : List (ℕ × ℕ)) (i : ℕ) (pair : ℕ × ℕ) → slice_get path i ≡ Some pair
    → slice_get (links_to end path) i ≡ Some (link_to (first_task end (drop (suc i) path)) pair)
links_to-at end [] i pair is = cc
links_to-at end (first ∷ path) zero pair is = let same : first ≡ pair = cc in ap (λ (p : ℕ × ℕ). Some (link_to (first_task end path) p)) same
links_to-at end (first ∷ path) (suc i) pair is = links_to-at end path i pair is

-- so each link is the pair at its place, and the end is the first pair's task
pub link_at-pair : (path : List (ℕ × ℕ)) (i : ℕ) (first pair : ℕ × ℕ) → slice_get path 0 ≡ Some first → slice_get path i ≡ Some pair
    → link_at path i ≡ link_to (first_task (record { 0 = first.0 }) (drop (suc i) path)) pair
link_at-pair [] i first pair starts is = cc
link_at-pair (front ∷ path) i first pair starts is =
    let same : front ≡ first = cc in
    ap (λ (o : Option Link). unwrap_or o (record { from = record { 0 = 0 }; lock = record { 0 = 0 }; to = record { 0 = 0 } })) (links_to-at (record { 0 = front.0 }) (front ∷ path) i pair is)
    ∙ ap (λ (p : ℕ × ℕ). link_to (first_task (record { 0 = p.0 }) (drop i path)) pair) same

-- there is a first pair where there is any
starts : (path : List (ℕ × ℕ)) (i : ℕ) (pair : ℕ × ℕ) → slice_get path i ≡ Some pair → (first : ℕ × ℕ) × (slice_get path 0 ≡ Some first)
starts [] i pair is = cc
starts (first ∷ path) i pair is = (first, refl)

-- its task and its lock
pub lock-at : (path : List (ℕ × ℕ)) (i : ℕ) (pair : ℕ × ℕ) → slice_get path i ≡ Some pair → (link_at path i).lock ≡ record { 0 = pair.1 }
lock-at path i pair is = let first = starts path i pair is in ap (λ (link : Link). link.lock) (link_at-pair path i first.0 pair first.1 is)

pub from-at : (path : List (ℕ × ℕ)) (i : ℕ) (pair : ℕ × ℕ) → slice_get path i ≡ Some pair → (link_at path i).from ≡ record { 0 = pair.0 }
from-at path i pair is = let first = starts path i pair is in ap (λ (link : Link). link.from) (link_at-pair path i first.0 pair first.1 is)

-- where a rest of a path begins
first-drop : (end : TaskId) (path : List (ℕ × ℕ)) (i : ℕ) (pair : ℕ × ℕ) → slice_get path i ≡ Some pair → first_task end (drop i path) ≡ record { 0 = pair.0 }
first-drop end [] i pair is = cc
first-drop end (first ∷ path) zero pair is = let same : first ≡ pair = cc in ap (λ (p : ℕ × ℕ). record { 0 = p.0 }) same
first-drop end (first ∷ path) (suc i) pair is = first-drop end path i pair is

drop-whole : (path : List (ℕ × ℕ)) (i : ℕ) → i ≡ length path → drop i path ≡ []
drop-whole [] i is = rw is refl
drop-whole (first ∷ path) zero is = cc
drop-whole (first ∷ path) (suc i) is = drop-whole path i (omega (arith, is))

-- a link leads to the task of the next pair, and the last one to that of the first
pub to-next : (path : List (ℕ × ℕ)) (i : ℕ) (pair next : ℕ × ℕ) → slice_get path i ≡ Some pair → slice_get path (i + 1) ≡ Some next → (link_at path i).to ≡ record { 0 = next.0 }
to-next path i pair next is follows =
    let first = starts path i pair is in
    let there : slice_get path (suc i) ≡ Some next = ap (slice_get path) (sym (add-one i)) ∙ follows in
    ap (λ (link : Link). link.to) (link_at-pair path i first.0 pair first.1 is) ∙ first-drop (record { 0 = first.0.0 }) path (suc i) next there

pub to-first : (path : List (ℕ × ℕ)) (i : ℕ) (first pair : ℕ × ℕ) → slice_get path 0 ≡ Some first → slice_get path i ≡ Some pair → i + 1 ≡ length path → (link_at path i).to ≡ record { 0 = first.0 }
to-first path i first pair begins is last =
    let none : drop (suc i) path ≡ [] = drop-whole path (suc i) (sym (add-one i) ∙ last) in
    ap (λ (link : Link). link.to) (link_at-pair path i first pair begins is) ∙ ap (first_task (record { 0 = first.0 })) none

-- ---- whether a link stands

abbrev pub same_lock : LockId → LockId → Bool
same_lock a b = nat_eq a.0 b.0

-- by the lock on which its task is blocked
is_on-awaited : (l : LockId) (at : Option (LockId × ℕ)) → option_eq same_lock (option_map (λ (at : LockId × ℕ). at.0) at) (Some l) ≡ is_some (key_at at l)
is_on-awaited l None = refl
is_on-awaited l (Some at) = by_test (nat_eq at.0.0 l.0)
  where
    by_test : (same : Bool) → same ≡ is_some (if same then Some at.1 else None)
    by_test true = refl
    by_test false = refl

-- where a top of its lock is kept
pub stands-kept : (sh : Shared) (link : Link) (blocked : Option LockId) (l : LockId) → link.lock ≡ l → blocked ≡ awaited (task_in sh link.from) → keeps_top link.lock (task_in sh link.to) ≡ true
    → option_eq same_lock blocked (Some l) ≡ stands sh link
stands-kept sh link blocked l lock is kept =
    let named : option_eq same_lock blocked (Some l) ≡ option_eq same_lock (awaited (task_in sh link.from)) (Some link.lock) = rw (is, lock) refl in
    rw kept (and_true (is_blocked_on link.lock (task_in sh link.from)) (named ∙ is_on-awaited link.lock (task_in sh link.from).blocked))
  where
    and_true : {a : Bool} (b : Bool) → a ≡ b → a ≡ b && true
    and_true true is = is
    and_true false is = is
