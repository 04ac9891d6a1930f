-- Which changes keep the law of the responsible walker. From a state s to the one that an event leaves:
--
--    kept-edges-go   no task is blocked on another lock than it was, no lock has an owner that it hadn't, but one that isn't blocked
--                    after it, and each task has the phase that it had, or had no full walk, or isn't blocked after it
--    kept-same       the same, where each task is blocked and each lock has its owner as before
--    kept-wait       one task is blocked on a lock, and walks as it does after a wait; no lock has another owner, and all other
--                    tasks are blocked and have phases as before
--    kept-walk       one task's full walk has gone through the lock of its cursor; all else as before
--    kept-walkend    one task's full walk stood at a task that isn't blocked, and has ended; all else as before
--    kept-restart    one task's path was to be confirmed, and has a link that is no edge; all else as before
--
-- "Blocked as before" is on the same lock, with whatever key.
use Rattle.std.proofs.Common.{◌≡◌, ◌≢◌, ◌⊎◌, inl, inr, ℕ, Bool, true, false, List, [], ◌∷◌, ◌++◌, refl, sym, ap, ◌∙◌, subst, arith, All, Option, Some, None, ap₂}
use Rattle.std.specs.Prelude.{is_some, is_none, nat_eq, option_map}
use Rattle.std.proofs.lemmas.List.Elements.{All-head, All-append}
use Rattle.rt_base.specs.declared.id.LockId.{LockId}
use Rattle.rt_base.specs.declared.id.TaskId.{TaskId}
use Rattle.rt_model.specs.declared.phase.Phase.{Phase}
use Rattle.rt_model.specs.declared.phase.Phase.TheVariants.{Walk, Confirm}
use Rattle.rt_model.specs.declared.phase.Route.TheVariants.{Full, Short}
use Rattle.rt_model.specs.Parts.{TaskPart}
use Rattle.rt_model.specs.State.{State, shared, task_at, owner_part, task_part, thread_part}
use Rattle.rt_model.specs.Path.{Link, first_task, links_of, Edge, IsCycle}
use Rattle.rt_model.specs.events.Wait.{phase_after_wait}
use Rattle.rt_model.specs.laws.Responsible.{IsTurned, IsAlong, IsResponsible, ResponsibleLaw}
use Rattle.rt_model.specs.steps.Chain.{goes_on, phase_of_walk}
use Rattle.rt_model.proofs.Lists.{All-both}
use Rattle.rt_model.proofs.Numbers.{same_task, other_number}
use Rattle.rt_model.proofs.Paths.{Differ}
use Rattle.rt_model.proofs.Queues.{AllPairs-head}
use Rattle.rt_model.proofs.graph.Turned.{task_of_pair, All-front, All-back, links-first, links-from, IsOn, on-or-off, turned-cycle}
use Rattle.rt_model.proofs.graph.Standing.{blocked_lock, lock-blocked, blocked-lock}
use Rattle.rt_model.proofs.graph.Along.{other-test, cycle-blocked, cycle-some, walk-at, walk-along, confirm-whole}

-- ---- what becomes of a task's walk

-- a full walk, also where it is to be confirmed
abbrev pub is_full : Phase → Bool
is_full (Walk cursor (Full path)) = true
is_full (Confirm path) = true
is_full _ = false

full-along : (cycle : List (ℕ × ℕ)) (phase : Phase) → IsAlong cycle phase → is_full phase ≡ true
full-along cycle (Walk cursor (Full path)) along = refl
full-along cycle (Walk cursor (Short answer)) along = absurd along
full-along cycle (Confirm path) along = refl
full-along cycle _ along = absurd along

-- it has the phase that it had, or had no full walk, or isn't blocked any more
pub data KeepsWalk (before after : Phase) (task : TaskPart) : Type 0 where
  same_phase : after ≡ before → KeepsWalk before after task
  no_walk : is_full before ≡ false → KeepsWalk before after task
  unblocked : task.blocked ≡ None → KeepsWalk before after task

-- ---- blocked tasks

blocked_none : (at : Option (LockId × ℕ)) → is_none at ≡ false → at ≡ None → ⊥
blocked_none at some none = let is = subst (λ (o : Option (LockId × ℕ)). is_none o ≡ false) none some in cc

lock_some : (at : Option (LockId × ℕ)) (l : LockId) → option_map (λ (a : LockId × ℕ). a.0) at ≡ Some l → at ≡ None → ⊥
lock_some at l some none = let is = subst (λ (o : Option (LockId × ℕ)). option_map (λ (a : LockId × ℕ). a.0) o ≡ Some l) none some in cc

some_alike : (a b : Option (LockId × ℕ)) → option_map (λ (at : LockId × ℕ). at.0) a ≡ option_map (λ (at : LockId × ℕ). at.0) b → is_none a ≡ false → is_some b ≡ true
some_alike None b same is = absurd cc
some_alike (Some a) None same is = absurd cc
some_alike (Some a) (Some b) same is = refl

-- ---- a cycle without a task

off_turned : (t : TaskId) (cycle turned : List (ℕ × ℕ)) → IsTurned cycle turned → All (λ (pair : ℕ × ℕ). nat_eq t.0 pair.0 ≡ false) cycle → All (λ (pair : ℕ × ℕ). nat_eq t.0 pair.0 ≡ false) turned
off_turned t cycle turned is off =
    let Off : ℕ × ℕ → Type 0 = λ pair. nat_eq t.0 pair.0 ≡ false in
    let parts : All Off (is.front ++ is.back) = subst (All Off) is.before off in
    subst (All Off) (sym is.after) (All-append Off is.back is.front (All-back Off is.front is.back parts) (All-front Off is.front is.back parts))

off_first : (t : TaskId) (path : List (ℕ × ℕ)) → All (λ (pair : ℕ × ℕ). nat_eq t.0 pair.0 ≡ false) path → path ≢ [] → first_task t path ≡ t → ⊥
off_first t [] off some first = some refl
off_first t (pair ∷ path) off some first =
    other_number t.0 pair.0 (All-head (λ (other : ℕ × ℕ). nat_eq t.0 other.0 ≡ false) pair path off) (ap (λ (u : TaskId). u.0) (sym first))

responsible_some : (s : State) (path : List (ℕ × ℕ)) → IsResponsible s path → path ≢ []
responsible_some s [] responsible none = responsible
responsible_some s (pair ∷ path) responsible none = cc

-- each task is blocked on the lock on which it was, and each lock has the owner that it had
pub record SameEdges (s next : State) : Type 0 where
  pub blocked : (u : TaskId) → blocked_lock (task_part next u) ≡ blocked_lock (task_part s u)
  pub owners : (l : LockId) → (owner_part next l).owner ≡ (owner_part s l).owner

-- where no task is blocked there is no cycle
pub responsible-unblocked : (s : State) → ((t : TaskId) → (task_part s t).blocked ≡ None) → ResponsibleLaw s
responsible-unblocked s none [] stands = absurd (cycle-some s [] stands refl)
responsible-unblocked s none (pair ∷ path) stands =
    let t : TaskId = task_of_pair pair in
    let edge = links-first (Edge s) pair path stands.edges in
    absurd (lock_some (task_part s t).blocked (record { 0 = pair.1 }) (lock-blocked (task_part s t).blocked (record { 0 = pair.1 }) edge.blocked) (none t))

module _ (s next : State) where
  -- every cycle was one, and who was responsible for it is so
  keeps : ((cycle : List (ℕ × ℕ)) → IsCycle next cycle → IsCycle s cycle) → ((cycle : List (ℕ × ℕ)) → IsCycle next cycle → IsCycle s cycle → IsResponsible s cycle → IsResponsible next cycle)
      → ResponsibleLaw s → ResponsibleLaw next
  keeps old stay law cycle stands =
      let was = law cycle (old cycle stands) in
      (was.0, was.1, stay was.0 (turned-cycle next cycle was.0 was.1 stands) (turned-cycle s cycle was.0 was.1 (old cycle stands)) was.2)

  -- ---- edges go, or lead to tasks that aren't blocked

  module _ (blocked : (u : TaskId) (l : LockId) → blocked_lock (task_part next u) ≡ Some l → blocked_lock (task_part s u) ≡ Some l)
      (owners : (l : LockId) (o : TaskId) → (owner_part next l).owner ≡ Some o → ((owner_part s l).owner ≡ Some o) ⊎ ((task_part next o).blocked ≡ None)) where
    old_edge : (link : Link) → Edge next link → is_none (task_part next link.to).blocked ≡ false → Edge s link
    old_edge link edge waits = record {
      blocked = blocked-lock (task_part s link.from).blocked link.lock (blocked link.from link.lock (lock-blocked (task_part next link.from).blocked link.lock edge.blocked));
      owned = by_owner (owners link.lock link.to edge.owned);
    }
      where
        by_owner : ((owner_part s link.lock).owner ≡ Some link.to) ⊎ ((task_part next link.to).blocked ≡ None) → (owner_part s link.lock).owner ≡ Some link.to
        by_owner (inl was) = was
        by_owner (inr none) = absurd (blocked_none (task_part next link.to).blocked waits none)

    old_cycle : (cycle : List (ℕ × ℕ)) → IsCycle next cycle → IsCycle s cycle
    old_cycle cycle stands = record {
      many = stands.many;
      differ = stands.differ;
      edges = All-both (Edge next) (λ (link : Link). is_none (task_part next link.to).blocked ≡ false) (Edge s) old_edge (links_of cycle) stands.edges (cycle-blocked next cycle stands);
    }

    walk_stays : (cycle : List (ℕ × ℕ)) (before after : Phase) (task : TaskPart) → KeepsWalk before after task → (task.blocked ≡ None → ⊥) → IsAlong cycle before → IsAlong cycle after
    walk_stays cycle before after task (same_phase same) waits along = subst (IsAlong cycle) (sym same) along
    walk_stays cycle before after task (no_walk none) waits along = let full = full-along cycle before along in absurd cc
    walk_stays cycle before after task (unblocked none) waits along = absurd (waits none)

    pub kept-edges-go : ((u : TaskId) → KeepsWalk (thread_part s u).phase (thread_part next u).phase (task_part next u)) → ResponsibleLaw s → ResponsibleLaw next
    kept-edges-go phases = keeps old_cycle stay
      where
        stay : (cycle : List (ℕ × ℕ)) → IsCycle next cycle → IsCycle s cycle → IsResponsible s cycle → IsResponsible next cycle
        stay [] stands was responsible = absurd responsible
        stay (pair ∷ path) stands was responsible =
            let t : TaskId = task_of_pair pair in
            let edge = links-first (Edge next) pair path stands.edges in
            walk_stays (pair ∷ path) (thread_part s t).phase (thread_part next t).phase (task_part next t) (phases t)
            (lock_some (task_part next t).blocked (record { 0 = pair.1 }) (lock-blocked (task_part next t).blocked (record { 0 = pair.1 }) edge.blocked)) responsible

  -- where no edge changes at all
  pub kept-same : SameEdges s next → ((u : TaskId) → KeepsWalk (thread_part s u).phase (thread_part next u).phase (task_part next u)) → ResponsibleLaw s → ResponsibleLaw next
  kept-same same phases = kept-edges-go (λ u l is. sym (same.blocked u) ∙ is) (λ l o is. inl (sym (same.owners l) ∙ is)) phases

  -- ---- one task's walk

  -- who is responsible for a cycle is so still, where its phase is the same
  pub responsible-other : (w : TaskId) → ((u : TaskId) → nat_eq w.0 u.0 ≡ false → (thread_part next u).phase ≡ (thread_part s u).phase)
      → (cycle : List (ℕ × ℕ)) → (first_task w cycle ≡ w → IsResponsible s cycle → IsResponsible next cycle) → IsResponsible s cycle → IsResponsible next cycle
  responsible-other w others [] itself responsible = absurd responsible
  responsible-other w others (pair ∷ path) itself responsible = by_test (nat_eq w.0 pair.0) refl
    where
      by_test : (b : Bool) → nat_eq w.0 pair.0 ≡ b → IsResponsible next (pair ∷ path)
      by_test true is = itself (sym (same_task w (task_of_pair pair) is)) responsible
      by_test false is = subst (IsAlong (pair ∷ path)) (sym (others (task_of_pair pair) is)) responsible

  module _ (same : SameEdges s next) (w : TaskId) (others : (u : TaskId) → nat_eq w.0 u.0 ≡ false → (thread_part next u).phase ≡ (thread_part s u).phase) where
    -- where w's own walk goes along each cycle for which w is responsible
    kept_walker : ((cycle : List (ℕ × ℕ)) → IsCycle s cycle → IsResponsible s cycle → first_task w cycle ≡ w → IsResponsible next cycle) → ResponsibleLaw s → ResponsibleLaw next
    kept_walker own =
        keeps (old_cycle (λ u l is. sym (same.blocked u) ∙ is) (λ l o is. inl (sym (same.owners l) ∙ is)))
        (λ cycle stands was. responsible-other w others cycle (λ first responsible. own cycle was responsible first))

    pub kept-walk : (u : TaskId) (l : LockId) (path : List (ℕ × ℕ)) (task : TaskPart) → (thread_part s w).phase ≡ Walk u (Full path) → blocked_lock (task_part s u) ≡ Some l
        → blocked_lock task ≡ blocked_lock (task_at (shared s) (owner_part s l).owner)
        → (thread_part next w).phase ≡ phase_of_walk (goes_on w (Full (path ++ (u.0, l.0) ∷ [])) (owner_part s l).owner task) → ResponsibleLaw s → ResponsibleLaw next
    kept-walk u l path task phase at owner now =
        kept_walker (λ cycle stands responsible first. walk-along s cycle w stands responsible first u path phase next l task at owner now)

    pub kept-walkend : (u : TaskId) (path : List (ℕ × ℕ)) → (thread_part s w).phase ≡ Walk u (Full path) → (task_part s u).blocked ≡ None → ResponsibleLaw s → ResponsibleLaw next
    kept-walkend u path phase none =
        kept_walker (λ cycle stands responsible first. let at = walk-at s cycle w stands responsible first u path phase in absurd (lock_some (task_part s u).blocked _ at.blocked none))

    pub kept-restart : (path : List (ℕ × ℕ)) → (thread_part s w).phase ≡ Confirm path → (All (Edge s) (links_of path) → ⊥) → ResponsibleLaw s → ResponsibleLaw next
    kept-restart path phase broken =
        kept_walker (λ cycle stands responsible first.
        absurd (broken (subst (λ (p : List (ℕ × ℕ)). All (Edge s) (links_of p)) (sym (confirm-whole s cycle w stands responsible first path phase)) stands.edges)))

  -- ---- a task that has been queued

  module _ (t : TaskId) (l : LockId) (at : blocked_lock (task_part next t) ≡ Some l) (owners : (m : LockId) → (owner_part next m).owner ≡ (owner_part s m).owner)
      (blocked : (u : TaskId) → nat_eq t.0 u.0 ≡ false → blocked_lock (task_part next u) ≡ blocked_lock (task_part s u))
      (others : (u : TaskId) → nat_eq t.0 u.0 ≡ false → (thread_part next u).phase ≡ (thread_part s u).phase)
      (now : (thread_part next t).phase ≡ phase_after_wait t (Some l) (owner_part s l).owner (is_some (task_at (shared s) (owner_part s l).owner).blocked)) where
    -- where the owner is blocked its walk stands there
    begins_at : (o : TaskId) → (owner_part s l).owner ≡ Some o → is_some (task_part s o).blocked ≡ true → (thread_part next t).phase ≡ Walk o (Full ((t.0, l.0) ∷ []))
    begins_at o owned waits =
        now ∙ (ap (λ (p : Option TaskId). phase_after_wait t (Some l) p (is_some (task_at (shared s) p).blocked)) owned ∙ ap (λ (b : Bool). phase_after_wait t (Some l) (Some o) b) waits)

    -- a cycle without the task was one
    without_cycle : (cycle : List (ℕ × ℕ)) → IsCycle next cycle → All (λ (pair : ℕ × ℕ). nat_eq t.0 pair.0 ≡ false) cycle → IsCycle s cycle
    without_cycle cycle stands off = record {
      many = stands.many;
      differ = stands.differ;
      edges = All-both (Edge next) (λ (link : Link). nat_eq t.0 link.from.0 ≡ false) (Edge s)
          (λ link edge other. record {
            blocked = blocked-lock (task_part s link.from).blocked link.lock (sym (blocked link.from other) ∙ lock-blocked (task_part next link.from).blocked link.lock edge.blocked);
            owned = sym (owners link.lock) ∙ edge.owned;
          }) (links_of cycle) stands.edges (links-from (λ u. nat_eq t.0 u.0 ≡ false) cycle off);
    }

    -- for one that begins with the task it is responsible
    begun : (pair : ℕ × ℕ) (path : List (ℕ × ℕ)) → IsCycle next (pair ∷ path) → task_of_pair pair ≡ t → IsAlong (pair ∷ path) (thread_part next t).phase
    begun pair [] stands same = absurd (omega (arith, stands.many))
    begun pair (second ∷ path) stands same =
        let o : TaskId = task_of_pair second in
        let edge = links-first (Edge next) pair (second ∷ path) stands.edges in
        let there : blocked_lock (task_part next t) ≡ Some (record { 0 = pair.1 }) =
        ap (λ (u : TaskId). blocked_lock (task_part next u)) (sym same) ∙ lock-blocked (task_part next (task_of_pair pair)).blocked (record { 0 = pair.1 }) edge.blocked in
        let lock : record { 0 = pair.1 } ≡ l = cc in
        let owned : (owner_part s l).owner ≡ Some o = ap (λ (m : LockId). (owner_part s m).owner) (sym lock) ∙ (sym (owners (record { 0 = pair.1 })) ∙ edge.owned) in
        let apart : nat_eq t.0 o.0 ≡ false =
        other-test t.0 o.0 (λ is. All-head (λ (other : ℕ × ℕ). pair.0 ≢ other.0) second path (AllPairs-head Differ pair (second ∷ path) stands.differ)
        (ap (λ (u : TaskId). u.0) same ∙ is)) in
        let leads = links-first (λ (link : Link). is_none (task_part next link.to).blocked ≡ false) pair (second ∷ path) (cycle-blocked next (pair ∷ second ∷ path) stands) in
        subst (IsAlong (pair ∷ second ∷ path)) (sym (begins_at o owned (some_alike (task_part next o).blocked (task_part s o).blocked (blocked o apart) leads)))
        (record { some = λ none. cc; next = second; rest = path; along = ap₂ (λ (i j : ℕ). (i, j) ∷ second ∷ path) (ap (λ (u : TaskId). u.0) same) (ap (λ (m : LockId). m.0) lock); stands = refl })

    pub kept-wait : ResponsibleLaw s → ResponsibleLaw next
    kept-wait law cycle stands = by_place (on-or-off t cycle)
      where
        by_place : IsOn t cycle ⊎ All (λ (pair : ℕ × ℕ). nat_eq t.0 pair.0 ≡ false) cycle → (turned : List (ℕ × ℕ)) × IsTurned cycle turned × IsResponsible next turned
        by_place (inl on) =
            let turned : List (ℕ × ℕ) = (on.pair ∷ on.back) ++ on.front in
            let is : IsTurned cycle turned = record { front = on.front; back = on.pair ∷ on.back; before = on.along; after = refl } in
            (turned, is, subst (λ (u : TaskId). IsAlong turned (thread_part next u).phase) (sym on.same) (begun on.pair (on.back ++ on.front) (turned-cycle next cycle turned is stands) on.same))
        by_place (inr off) =
            let was = law cycle (without_cycle cycle stands off) in
            (was.0, was.1, responsible-other t others was.0 (λ first. absurd (off_first t was.0 (off_turned t cycle was.0 was.1 off) (responsible_some s was.0 was.2) first)) was.2)
