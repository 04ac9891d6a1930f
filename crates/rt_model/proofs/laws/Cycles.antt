-- A run passes over no cycle.
use Rattle.std.proofs.Common.{◌≡◌, ◌≢◌, ◌⊎◌, inl, inr, ℕ, ◌+◌, List, ◌∷◌, length, true, refl, sym, ap, ◌∙◌, subst, Some, None}
use Rattle.rt_base.specs.declared.id.LockId.{LockId}
use Rattle.rt_base.specs.declared.id.TaskId.{TaskId}
use Rattle.rt_base.specs.declared.reply.Reply.TheVariants.{Deadlock}
use Rattle.rt_model.specs.declared.event.Event.{Event}
use Rattle.rt_model.specs.declared.event_kind.EventKind.TheVariants as kinds
use Rattle.rt_model.specs.declared.phase.Phase.{Phase}
use Rattle.rt_model.specs.declared.phase.Phase.TheVariants as phases
use Rattle.rt_model.specs.declared.phase.Route.{Route}
use Rattle.rt_model.specs.declared.phase.Route.TheVariants.{Full, Short}
use Rattle.rt_model.specs.Parts.{ThreadPart}
use Rattle.rt_model.specs.State.{State, task_part, thread_part}
use Rattle.rt_model.specs.StateAfter.{state_after}
use Rattle.rt_model.specs.Run.{after, IsRun}
use Rattle.rt_model.specs.Path.{first_task, links_of, IsCycle}
use Rattle.rt_model.specs.laws.Lawful.{IsLawful}
use Rattle.rt_model.specs.laws.Responsible.{IsAlong, IsResponsible}
use Rattle.rt_model.specs.laws.Cycles.{IsPast, IsWalkAlong, TellsCycle, BreaksCycle, NamesBroken, CyclesLaw}
use Rattle.rt_model.proofs.Calm.{wakeup-at}
use Rattle.rt_model.proofs.Idle.{IsIdle, asks-idle, acquires-idle, returns-idle}
use Rattle.rt_model.proofs.NextEvents.{IsNext, by_own, by_acquire, by_wait, by_release, by_reading, by_walk, by_confirm, by_wakeup, by_setprio, task-IsNext}
use Rattle.rt_model.proofs.Sorts.{Sort, unsorted, begins, breaks, heeds, is_sorted, sort}
use Rattle.rt_model.proofs.Reading.{is_idle, reading-was_idle}
use Rattle.rt_model.proofs.PartsAfter.{thread-other}
use Rattle.rt_model.proofs.Waiters.{blocking}
use Rattle.rt_model.proofs.events.Acquire.{TakesIn, from_slow, from_wait, from_trying, is_fast, is_mark, is_take, is_busy}
use Rattle.rt_model.proofs.events.Release.{is_free, is_give}
use Rattle.rt_model.proofs.events.Wait.{is_wait, is_again, is_leave}
use Rattle.rt_model.proofs.events.Walk.{WalksIn, by_full, by_short, IsWalk, is_walk, IsWalkEnd, is_walkend, is_restart, is_cycle}
use Rattle.rt_model.proofs.graph.Standing.{blocked_lock, broken-named, confirm-cycle, confirm-begins}
use Rattle.rt_model.proofs.graph.Along.{phase-along, walk-at, walk-past, walk-along, confirm-whole, confirm-unbroken}
use Rattle.rt_model.proofs.graph.Kept.{responsible-other}
use Rattle.rt_model.proofs.laws.Causes.{ended_cycle, ends-out, ends-unblocked, ends-others}
use Rattle.rt_model.proofs.laws.Responsible.{full-link}
use Rattle.rt_model.proofs.Prefixes.{lawful-there, next-there}

-- ---- a task that is responsible for a cycle that stands

module _ (s : State) (made : ℕ) (t : TaskId) (e : Event) (cycle : List (ℕ × ℕ)) (lawful : IsLawful s made) (next : IsNext s t e)
    (stands : IsCycle s cycle) (responsible : IsResponsible s cycle) (first : first_task t cycle ≡ t) where
  -- its event goes along the cycle, or tells of it
  abbrev Follows : Type 0
  Follows = IsWalkAlong s cycle e ⊎ TellsCycle cycle e

  at_phase : (phase : Phase) → (thread_part s t).phase ≡ phase → IsAlong cycle phase
  at_phase phase is = subst (IsAlong cycle) is (phase-along s cycle t first responsible)

  linked : (route : Route) (u : TaskId) (l : LockId) (key : ℕ) → IsWalk s t route u l key e → Follows
  linked route u l key is = by_route is.how
    where
      by_route : WalksIn s t route u → Follows
      by_route (by_short call answer short at to_come) = absurd (at_phase (phases.Walk u (Short answer)) (at.phased ∙ ap (phases.Walk u) short))
      by_route (by_full path m full asks) =
          let phase : (thread_part s t).phase ≡ phases.Walk u (Full path) = asks.at.phased ∙ ap (phases.Walk u) full in
          let at = walk-at s cycle t stands responsible first u path phase in
          let there : blocked_lock (task_part s u) ≡ Some l = ap blocking is.blocked in
          let onward = full-link s made t route u l key e path lawful full is in
          inl (record {
            front = path;
            pair = at.pair;
            back = at.back;
            along = at.along;
            stood = ap (λ (v : TaskId). (thread_part s v).phase) (task-IsNext s t e next) ∙ (phase ∙ ap (λ (v : TaskId). phases.Walk v (Full path)) at.cursor);
            kind = ap (λ (x : Event). x.kind) is.event;
            cursor = ap (λ (x : Event). x.other) is.event ∙ ap Some at.cursor;
            lock = ap (λ (x : Event). x.lock) is.event ∙ (sym there ∙ at.blocked);
            past = subst (λ (v : TaskId). IsPast path at.pair at.back (thread_part (state_after s e) v).phase) (sym (task-IsNext s t e next))
                (walk-past s cycle t stands responsible first u path phase (state_after s e) l onward.0 there onward.1 onward.2);
            still = walk-along s cycle t stands responsible first u path phase (state_after s e) l onward.0 there onward.1 onward.2;
          })

  ended : (route : Route) (u : TaskId) → IsWalkEnd s t route u e → Follows
  ended route u is = by_route is.how
    where
      by_route : WalksIn s t route u → Follows
      by_route (by_short call answer short at to_come) = absurd (at_phase (phases.Walk u (Short answer)) (at.phased ∙ ap (phases.Walk u) short))
      by_route (by_full path m full asks) =
          let at = walk-at s cycle t stands responsible first u path (asks.at.phased ∙ ap (phases.Walk u) full) in
          let none : blocked_lock (task_part s u) ≡ None = ap blocking is.blocked in
          let some = at.blocked in cc

  taken : (l : LockId) → TakesIn s t l → ⊥
  taken l (from_slow asks) = at_phase phases.Slow asks.at.phased
  taken l (from_wait asks awake) = at_phase phases.Wait asks.at.phased
  taken l (from_trying at) = at_phase phases.Start at.at.phased

  -- an idle one walks along none
  idle : IsIdle s t → ⊥
  idle is = by_phase (thread_part s t).phase is (phase-along s cycle t first responsible)
    where
      by_phase : (phase : Phase) → is_idle phase ≡ true → IsAlong cycle phase → ⊥
      by_phase (phases.Walk cursor route) is along = cc
      by_phase (phases.Confirm path) is along = cc
      by_phase _ is along = along

  pub follows : Follows
  follows = by_family next
    where
      by_family : IsNext s t e → Follows
      by_family (by_own call answer is) = absurd (at_phase phases.Start is.at.phased)
      by_family (by_acquire l (is_fast is)) = absurd (idle (acquires-idle s t l is.how))
      by_family (by_acquire l (is_mark is)) = absurd (idle (asks-idle s t l is.how))
      by_family (by_acquire l (is_take is)) = absurd (taken l is.how)
      by_family (by_acquire l (is_busy is)) = absurd (at_phase phases.Start is.at.at.phased)
      by_family (by_wait l (is_wait is)) = absurd (at_phase phases.Slow is.at.at.phased)
      by_family (by_wait l (is_again is)) = absurd (at_phase phases.Wait is.at.at.phased)
      by_family (by_wait l (is_leave is)) = absurd (at_phase phases.Wait is.at.phased)
      by_family (by_release l (is_free is)) = absurd (idle (returns-idle s t l is.at))
      by_family (by_release l (is_give is)) = absurd (idle (returns-idle s t l is.at))
      by_family (by_reading l is) = absurd (idle (reading-was_idle s t l e is))
      by_family (by_walk route u (is_walk l key is)) = linked route u l key is
      by_family (by_walk route u (is_walkend is)) = ended route u is
      by_family (by_confirm l path (is_restart link is)) =
          let none = confirm-unbroken s cycle t stands responsible first made path lawful.kept lawful.rows is.at.at.phased in
          let some = is.broken in cc
      by_family (by_confirm l path (is_cycle is)) =
          inr (record { kind = ap (λ (x : Event). x.kind) is.event; path = ap (λ (x : Event). x.path) is.event ∙ confirm-whole s cycle t stands responsible first path is.at.at.phased })
      by_family (by_wakeup is) = absurd (at_phase phases.Start (wakeup-at s t e is).1.phased)
      by_family (by_setprio u prio is) = absurd (at_phase phases.Start is.at.phased)

-- another task's event leaves it responsible
stays-responsible : (s : State) (e : Event) (cycle : List (ℕ × ℕ)) → IsResponsible s cycle → first_task e.task cycle ≢ e.task → IsResponsible (state_after s e) cycle
stays-responsible s e cycle responsible other =
    responsible-other s (state_after s e) e.task (λ u ne. ap (λ (th : ThreadPart). th.phase) (thread-other s e u ne)) cycle (λ first was. absurd (other first)) responsible

-- ---- a walk that has come round

module _ (s : State) (made : ℕ) (e : Event) (lawful : IsLawful s made) (next : IsNext s e.task e) where
  -- it begins anew
  pub names-broken : e.kind ≡ kinds.Restart → NamesBroken s e
  names-broken kind = by_sort (sort s e.task e next)
    where
      by_sort : Sort s e.task e → NamesBroken s e
      by_sort (unsorted isnt) = let is = ap is_sorted kind in absurd (cc)
      by_sort (breaks l path is) = let its = ap (λ (x : Event). x.kind) is.event in absurd (cc)
      by_sort (heeds l is) = let its = ap (λ (x : Event). x.kind) is.event in absurd (cc)
      by_sort (begins l path link is) =
          let first = broken-named s made lawful.kept lawful.rows path link is.broken in
          record {
            whole = is.at.at.phased ∙ ap phases.Confirm (sym (ap (λ (x : Event). x.path) is.event));
            front = first.front;
            link = link;
            back = first.back;
            along = ap (λ (x : Event). links_of x.path) is.event ∙ first.along;
            stand = first.stand;
            broken = first.broken;
            task = ap (λ (x : Event). x.other) is.event;
            lock = ap (λ (x : Event). x.lock) is.event;
          }

  -- it ends in a deadlock
  pub breaks-cycle : e.kind ≡ kinds.Cycle → BreaksCycle s e
  breaks-cycle kind = by_sort (sort s e.task e next)
    where
      by_sort : Sort s e.task e → BreaksCycle s e
      by_sort (unsorted isnt) = let is = ap is_sorted kind in absurd (cc)
      by_sort (begins l path link is) = let its = ap (λ (x : Event). x.kind) is.event in absurd (cc)
      by_sort (heeds l is) = let its = ap (λ (x : Event). x.kind) is.event in absurd (cc)
      by_sort (breaks l path is) =
          let same : path ≡ e.path = sym (ap (λ (x : Event). x.path) is.event) in
          let ended = ended_cycle l path refl is in
          record {
            whole = is.at.at.phased ∙ ap phases.Confirm same;
            cycle = subst (IsCycle s) same (confirm-cycle s e.task path lawful.walks is.at.at.phased made lawful.kept lawful.rows is.stand);
            begins = subst (λ (p : List (ℕ × ℕ)). first_task e.task p ≡ e.task) same (confirm-begins s e.task path lawful.walks is.at.at.phased);
            unblocked = ends-unblocked s made e.task e Deadlock lawful ended;
            out = ends-out s made e.task e Deadlock lawful next ended;
            others = ends-others s made e.task e Deadlock lawful ended;
          }

-- ---- over a run

pub cycles-law : (s : State) (made : ℕ) (events : List Event) → IsLawful s made → IsRun s events → CyclesLaw s events
cycles-law s made events lawful run =
    let there = lawful-there s made events lawful run in
    let next = next-there s made events lawful run in
    record {
      watched = λ prefix rest is. (there prefix rest is).responsible;
      along = λ prefix rest e cycle is stands responsible first.
          follows (after s prefix) (made + length prefix) e.task e cycle (there prefix (e ∷ rest) is) (next prefix rest e is) stands responsible first;
      stays = λ prefix rest e cycle is responsible other. stays-responsible (after s prefix) e cycle responsible other;
      breaks = λ prefix rest e is kind. breaks-cycle (after s prefix) (made + length prefix) e (there prefix (e ∷ rest) is) (next prefix rest e is) kind;
      restarts = λ prefix rest e is kind. names-broken (after s prefix) (made + length prefix) e (there prefix (e ∷ rest) is) (next prefix rest e is) kind;
    }
