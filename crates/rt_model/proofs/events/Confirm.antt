-- A walk that came back to its own task: what its choice reads.
use Rattle.std.proofs.Common.{◌≡◌, ℕ, Bool, true, false, if◌then◌else◌, not, ◌||◌, ◌&&◌, List, [], ◌∷◌, refl, ap, ◌∙◌, Option, Some, None}
use Rattle.std.specs.Prelude.{find, nat_eq}
use Rattle.rt_base.specs.declared.id.TaskId.{TaskId}
use Rattle.rt_model.specs.declared.event.Event.{Event}
use Rattle.rt_model.specs.State.{Shared, lock_at, task_in, task_at}
use Rattle.rt_model.specs.steps.Chain.{is_on_path}
use Rattle.rt_model.specs.Path.{Link, first_task, links_to, first_lock, first_owner, is_blocked_on, keeps_top, stands, first_broken}
use Rattle.rt_model.specs.events.Walk.{restart_event, cycle_event, confirmed_event}
use Rattle.rt_model.proofs.Numbers.{number_itself}
use Rattle.rt_model.proofs.Touching.{touches-lock, touches-owner, touches-path}
use Rattle.rt_model.proofs.Alike.{Alike, same-lock_at, same-task_at}

-- ---- the tasks of a path

on-first : (pair : ℕ × ℕ) (path : List (ℕ × ℕ)) → is_on_path (record { 0 = pair.0 }) (pair ∷ path) ≡ true
on-first pair path = let itself = number_itself pair.0 in rw itself refl

on-later : (u : TaskId) (pair : ℕ × ℕ) (path : List (ℕ × ℕ)) → is_on_path u path ≡ true → is_on_path u (pair ∷ path) ≡ true
on-later u pair path on = either (nat_eq pair.0 u.0)
  where
    either : (b : Bool) → (b || is_on_path u path) ≡ true
    either true = refl
    either false = on

-- two states share the tasks of a path
abbrev AlikeAlong : List (ℕ × ℕ) → Shared → Shared → Type 0
AlikeAlong path a b = (u : TaskId) → is_on_path u path ≡ true → task_in b u ≡ task_in a u

alike-later : (a b : Shared) (pair : ℕ × ℕ) (path : List (ℕ × ℕ)) → AlikeAlong (pair ∷ path) a b → AlikeAlong path a b
alike-later a b pair path same u on = same u (on-later u pair path on)

-- ---- the links of a path

same-first : (a b : Shared) (end : TaskId) (path : List (ℕ × ℕ))
    → task_in b end ≡ task_in a end → AlikeAlong path a b → task_in b (first_task end path) ≡ task_in a (first_task end path)
same-first a b end [] last same = last
same-first a b end (pair ∷ path) last same = same (record { 0 = pair.0 }) (on-first pair path)

same-stands : (a b : Shared) (link : Link) → task_in b link.from ≡ task_in a link.from → task_in b link.to ≡ task_in a link.to → stands b link ≡ stands a link
same-stands a b link from to = λ i. is_blocked_on link.lock (from i) && keeps_top link.lock (to i)

same-find : (a b : Shared) (end : TaskId) (path : List (ℕ × ℕ)) → task_in b end ≡ task_in a end → AlikeAlong path a b
    → find (λ link. not (stands b link)) (links_to end path) ≡ find (λ link. not (stands a link)) (links_to end path)
same-find a b end [] last same = refl
same-find a b end (pair ∷ path) last same =
    let link : Link = record { from = record { 0 = pair.0 }; lock = record { 0 = pair.1 }; to = first_task end path } in
    let stands = same-stands a b link (same link.from (on-first pair path)) (same-first a b end path last (alike-later a b pair path same)) in
    let rest = same-find a b end path last (alike-later a b pair path same) in
    λ i. if not (stands i) then Some link else rest i

same-broken : (a b : Shared) (path : List (ℕ × ℕ)) → AlikeAlong path a b → first_broken b path ≡ first_broken a path
same-broken a b [] same = refl
same-broken a b (pair ∷ path) same = same-find a b (record { 0 = pair.0 }) (pair ∷ path) (same (record { 0 = pair.0 }) (on-first pair path)) same

-- ---- the choice

-- it reads the tasks of the path, and where each link stands the first lock, with the task to which that leads
pub same-confirmed : (a b : Shared) (t : TaskId) (path : List (ℕ × ℕ)) → Alike (confirmed_event a t path (first_broken a path)) a b
    → confirmed_event b t path (first_broken b path) ≡ confirmed_event a t path (first_broken a path)
same-confirmed a b t path = by_broken (first_broken a path) refl
  where
    by_broken : (broken : Option Link) → first_broken a path ≡ broken → Alike (confirmed_event a t path broken) a b
        → confirmed_event b t path (first_broken b path) ≡ confirmed_event a t path broken
    by_broken (Some link) is alike =
        ap (confirmed_event b t path) (same-broken a b path (λ u on. alike.task u (touches-path (restart_event t path link) u on)) ∙ is)
    by_broken None is alike =
        let e : Event = cycle_event t path (lock_at a (first_lock path)) (task_at a (first_owner path)) in
        let lock = same-lock_at a b (first_lock path) (λ l named. alike.lock l (touches-lock e l named)) in
        let owner = same-task_at a b (first_owner path) (λ u named. alike.task u (touches-owner e u named)) in
        ap (confirmed_event b t path) (same-broken a b path (λ u on. alike.task u (touches-path e u on)) ∙ is) ∙ (λ i. cycle_event t path (lock i) (owner i))
