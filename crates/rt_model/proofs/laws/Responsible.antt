-- The responsible-walker law is kept.
use Rattle.std.proofs.Common.{◌≡◌, ◌⊎◌, inl, inr, ℕ, ◌<◌, false, List, [], ◌∷◌, ◌++◌, length, refl, sym, ap, ◌∙◌, subst, Option, Some, None}
use Rattle.std.specs.Prelude.{nat_eq}
use Rattle.rt_base.specs.declared.call.Call.{Call}
use Rattle.rt_base.specs.declared.call.Call.TheVariants as calls
use Rattle.rt_base.specs.declared.id.LockId.{LockId}
use Rattle.rt_base.specs.declared.id.TaskId.{TaskId}
use Rattle.rt_base.specs.declared.reply.Reply.{Reply}
use Rattle.rt_model.specs.declared.event.Event.{Event}
use Rattle.rt_model.specs.declared.phase.Phase.{Phase}
use Rattle.rt_model.specs.declared.phase.Phase.TheVariants as phases
use Rattle.rt_model.specs.declared.phase.Route.{Route}
use Rattle.rt_model.specs.declared.phase.Route.TheVariants.{Full, Short}
use Rattle.rt_model.specs.Parts.{OwnerPart, TaskPart, ThreadPart}
use Rattle.rt_model.specs.State.{State, shared, task_at, owner_part, task_part, thread_part}
use Rattle.rt_model.specs.Rules.{touched}
use Rattle.rt_model.specs.StateAfter.{effect_in, state_after}
use Rattle.rt_model.specs.steps.Chain.{followed, goes_on, phase_of_walk}
use Rattle.rt_model.specs.laws.Lawful.{IsLawful}
use Rattle.rt_model.specs.laws.Responsible.{ResponsibleLaw}
use Rattle.rt_model.proofs.Blocked.{changes_own, blocking-other, blocking-kept, take-blocked, wait-blocked}
use Rattle.rt_model.proofs.Calling.{IsIn}
use Rattle.rt_model.proofs.Calm.{wakeup-kind, wakeup-at}
use Rattle.rt_model.proofs.CellStepLemmas.{where_changed-blocked}
use Rattle.rt_model.proofs.Idle.{IsIdle, asks-idle, acquires-idle, returns-idle, idle-unblocked}
use Rattle.rt_model.proofs.Leaves.{IsLeft, leave-left, cycle-left, left-own_blocked, left-locks}
use Rattle.rt_model.proofs.Links.{link_lock, link_owner, link_next, link-thread, walked_thread}
use Rattle.rt_model.proofs.NextEvents.{IsNext, by_own, by_acquire, by_wait, by_release, by_reading, by_walk, by_confirm, by_wakeup, by_setprio, task-IsNext}
use Rattle.rt_model.proofs.Numbers.{at_each_task}
use Rattle.rt_model.proofs.Owned.{changes_owner, owners-kept}
use Rattle.rt_model.proofs.PartsAfter.{lock-made, thread-own, thread-other}
use Rattle.rt_model.proofs.Reading.{reading-kind, reading-was_idle}
use Rattle.rt_model.proofs.Routes.{full-phase}
use Rattle.rt_model.proofs.Waiters.{blocking, not_blocking, start-blocked, awaited}
use Rattle.rt_model.proofs.events.Acquire.{IsAcquire, is_fast, is_mark, is_take, is_busy}
use Rattle.rt_model.proofs.events.Release.{IsRelease, is_free, is_give}
use Rattle.rt_model.proofs.events.Wait.{IsWait, is_wait, is_again, is_leave}
use Rattle.rt_model.proofs.events.Walk.{WalksIn, by_full, by_short, IsWalk, is_walk, IsWalkEnd, is_walkend, is_restart, is_cycle}
use Rattle.rt_model.proofs.graph.Standing.{blocked_lock, not-edges}
use Rattle.rt_model.proofs.graph.Kept.{is_full, KeepsWalk, same_phase, no_walk, unblocked, SameEdges, kept-edges-go, kept-same, kept-wait, kept-walk, kept-walkend, kept-restart}

-- how a full walk goes on after a link: at the lock's owner, which is blocked on the lock on which it was
pub full-link : (s : State) (made : ℕ) (t : TaskId) (route : Route) (u : TaskId) (l : LockId) (key : ℕ) (e : Event) (path : List (ℕ × ℕ)) → IsLawful s made → route ≡ Full path → IsWalk s t route u l key e
    → (task : TaskPart) × (blocked_lock task ≡ blocked_lock (task_at (shared s) (owner_part s l).owner))
    × ((thread_part (state_after s e) t).phase ≡ phase_of_walk (goes_on t (Full (path ++ (u.0, l.0) ∷ [])) (owner_part s l).owner task))
full-link s made t route u l key e path lawful full is =
    let next : Option Phase = link_next s made t route u l key e lawful is in
    let owner : TaskPart = task_at (shared s) (owner_part s l).owner in
    let task : TaskPart = link_owner s made t route u l key e lawful is owner in (
      task,
      ap blocking (where_changed-blocked (Some l) (owner_part s l).rows (link_lock s made t route u l key e lawful is).rows owner),
      ap (λ (th : ThreadPart). th.phase) (thread-own s e _ is.event is.task ∙ link-thread s made t route u l key e lawful is)
          ∙ (ap (λ (r : Route). (walked_thread (thread_part s t) r next).phase) full ∙ (full-phase (thread_part s t) path next ∙ ap (λ (r : Route). phase_of_walk (goes_on t (followed u l r) (owner_part s l).owner task)) full)),
    )

module _ (s : State) (made : ℕ) (t : TaskId) (e : Event) (lawful : IsLawful s made) (next : IsNext s t e) where
  -- ---- other tasks

  apart : (u : TaskId) → nat_eq t.0 u.0 ≡ false → nat_eq e.task.0 u.0 ≡ false
  apart u ne = ap (λ (v : TaskId). nat_eq v.0 u.0) (task-IsNext s t e next) ∙ ne

  other-phase : (u : TaskId) → nat_eq t.0 u.0 ≡ false → (thread_part (state_after s e) u).phase ≡ (thread_part s u).phase
  other-phase u ne = ap (λ (th : ThreadPart). th.phase) (thread-other s e u (apart u ne))

  other-blocked : (u : TaskId) → nat_eq t.0 u.0 ≡ false → blocked_lock (task_part (state_after s e) u) ≡ blocked_lock (task_part s u)
  other-blocked u ne = blocking-other s e u (apart u ne)

  -- ---- where its own task isn't blocked after the event

  abbrev Keeps : TaskId → Type 0
  Keeps u = KeepsWalk (thread_part s u).phase (thread_part (state_after s e) u).phase (task_part (state_after s e) u)

  keeps : Keeps t → (u : TaskId) → Keeps u
  keeps own u = at_each_task Keeps t u own (λ ne. same_phase (other-phase u ne))

  -- and is the only one that may have become an owner
  goes : (task_part (state_after s e) t).blocked ≡ None
      → ((l : LockId) (o : TaskId) → (owner_part (state_after s e) l).owner ≡ Some o → ((owner_part s l).owner ≡ Some o) ⊎ (o ≡ t)) → ResponsibleLaw (state_after s e)
  goes free owners = kept-edges-go s (state_after s e) blocked new_owner (keeps (unblocked free)) lawful.responsible
    where
      blocked : (u : TaskId) (l : LockId) → blocked_lock (task_part (state_after s e) u) ≡ Some l → blocked_lock (task_part s u) ≡ Some l
      blocked u l =
          at_each_task (λ v. blocked_lock (task_part (state_after s e) v) ≡ Some l → blocked_lock (task_part s v) ≡ Some l) t u
          (λ is. let none : blocked_lock (task_part (state_after s e) t) ≡ None = ap blocking free in absurd cc) (λ ne is. sym (other-blocked u ne) ∙ is)

      by_owner : (l : LockId) (o : TaskId) → ((owner_part s l).owner ≡ Some o) ⊎ (o ≡ t) → ((owner_part s l).owner ≡ Some o) ⊎ ((task_part (state_after s e) o).blocked ≡ None)
      by_owner l o (inl was) = inl was
      by_owner l o (inr own) = inr (ap (λ (v : TaskId). (task_part (state_after s e) v).blocked) own ∙ free)

      new_owner : (l : LockId) (o : TaskId) → (owner_part (state_after s e) l).owner ≡ Some o → ((owner_part s l).owner ≡ Some o) ⊎ ((task_part (state_after s e) o).blocked ≡ None)
      new_owner l o is = by_owner l o (owners l o is)

  -- an event of a task that isn't blocked, which comes about as x; so is each of an idle one
  unblocked_idle : IsIdle s t → (task_part s t).blocked ≡ None
  unblocked_idle = idle-unblocked s made t lawful

  free : (x : Event) → e ≡ x → changes_own x.kind ≡ false → (task_part s t).blocked ≡ None → (task_part (state_after s e) t).blocked ≡ None
  free x is unmoved none = not_blocking (task_part (state_after s e) t).blocked (blocking-kept s e x t is unmoved ∙ ap blocking none)

  stays : (x : Event) → e ≡ x → changes_own x.kind ≡ false → changes_owner x.kind ≡ false → (task_part s t).blocked ≡ None → ResponsibleLaw (state_after s e)
  stays x is unmoved kept none = goes (free x is unmoved none) (λ l o owned. inl (sym (owners-kept s e x l is kept) ∙ owned))

  -- one that changes the owner of lock l, to its own task or to none
  owned : (x : Event) (l : LockId) (owner : Option TaskId) → e ≡ x → (touched x.kind x).lock ≡ Some l → l.0 < length s.locks
      → ((effect_in (shared s) (thread_part s x.task) x).lock (owner_part s l)).owner ≡ owner
      → ((o : TaskId) → owner ≡ Some o → o ≡ t) → (m : LockId) (o : TaskId) → (owner_part (state_after s e) m).owner ≡ Some o → ((owner_part s m).owner ≡ Some o) ⊎ (o ≡ t)
  owned x l owner is named lt here own m o =
      lock-made (λ (k : LockId) (lock : OwnerPart). lock.owner ≡ Some o → ((owner_part s k).owner ≡ Some o) ⊎ (o ≡ t)) s e x l m is named lt (λ some. inr (own o (sym here ∙ some))) (λ ne some. inl some)

  same-edges : (x : Event) → e ≡ x → changes_own x.kind ≡ false → changes_owner x.kind ≡ false → SameEdges s (state_after s e)
  same-edges x is unmoved kept = record { blocked = λ u. blocking-kept s e x u is unmoved; owners = λ l. owners-kept s e x l is kept }

  -- a task that walks a short walk isn't blocked
  short-blocked : (u : TaskId) (answer : Reply) (call : Call) → IsIn s t (phases.Walk u (Short answer)) call → (task_part s t).blocked ≡ None
  short-blocked u answer call at = not_blocking (task_part s t).blocked (awaited s made t lawful (phases.Walk u (Short answer)) call at)

  -- ---- family by family

  of_owner : (x : Event) (l : LockId) (owner : Option TaskId) → e ≡ x → IsIdle s t → changes_own x.kind ≡ false → (touched x.kind x).lock ≡ Some l → l.0 < length s.locks
      → ((effect_in (shared s) (thread_part s x.task) x).lock (owner_part s l)).owner ≡ owner → ((o : TaskId) → owner ≡ Some o → o ≡ t) → ResponsibleLaw (state_after s e)
  of_owner x l owner is idle unmoved named lt here own = goes (free x is unmoved (unblocked_idle idle)) (owned x l owner is named lt here own)

  of_acquire : (l : LockId) → IsAcquire s t l e → ResponsibleLaw (state_after s e)
  of_acquire l (is_fast is) = of_owner _ l (Some t) is.event (acquires-idle s t l is.how) refl refl is.lock refl (λ o some. cc)
  of_acquire l (is_mark is) = stays _ is.event refl refl (unblocked_idle (asks-idle s t l is.how))
  of_acquire l (is_take is) = goes (take-blocked s t e l lawful.shape is) (owned _ l (Some t) is.event refl is.lock refl (λ o some. cc))
  of_acquire l (is_busy is) = stays _ is.event refl refl (start-blocked s made t lawful is.at.call is.at.at)

  of_release : (l : LockId) → IsRelease s t l e → ResponsibleLaw (state_after s e)
  of_release l (is_free is) = of_owner _ l None is.event (returns-idle s t l is.at) refl refl is.at.lock refl (λ o some. cc)
  of_release l (is_give is) = of_owner _ l None is.event (returns-idle s t l is.at) refl refl is.at.lock refl (λ o some. cc)

  -- a task that is queued
  of_wait : (l : LockId) → IsWait s t l e → ResponsibleLaw (state_after s e)
  of_wait l is =
      kept-wait s (state_after s e) t l (ap blocking (wait-blocked s t e l lawful.shape is)) (λ m. owners-kept s e _ m is.event refl) other-blocked other-phase
      (ap (λ (th : ThreadPart). th.phase) (thread-own s e _ is.event is.at.at.task)) lawful.responsible

  -- one that leaves the queue
  of_left : (l : LockId) → IsLeft s t l e → ResponsibleLaw (state_after s e)
  of_left l is =
      goes (left-own_blocked s made t l e lawful is)
      (λ m o owned. inl (left-locks s made t l e lawful is (λ (k : LockId) (lock : OwnerPart). lock.owner ≡ Some o → (owner_part s k).owner ≡ Some o) m (λ some. some) (λ ne some. some) owned))

  -- a link of a walk, and its end
  of_link : (route : Route) (u : TaskId) (l : LockId) (key : ℕ) → IsWalk s t route u l key e → ResponsibleLaw (state_after s e)
  of_link route u l key is = by_route is.how
    where
      by_route : WalksIn s t route u → ResponsibleLaw (state_after s e)
      by_route (by_full path m full asks) =
          let onward = full-link s made t route u l key e path lawful full is in
          let phase = asks.at.phased ∙ ap (phases.Walk u) full in
          kept-walk s (state_after s e) (same-edges _ is.event refl refl) t other-phase u l path onward.0 phase (ap blocking is.blocked) onward.1 onward.2 lawful.responsible
      by_route (by_short call answer short at to_come) = stays _ is.event refl refl (short-blocked u answer call (subst (λ (r : Route). IsIn s t (phases.Walk u r) call) short at))

  of_end : (route : Route) (u : TaskId) → IsWalkEnd s t route u e → ResponsibleLaw (state_after s e)
  of_end route u is = by_route is.how
    where
      by_route : WalksIn s t route u → ResponsibleLaw (state_after s e)
      by_route (by_full path m full asks) =
          kept-walkend s (state_after s e) (same-edges _ is.event refl refl) t other-phase u path (asks.at.phased ∙ ap (phases.Walk u) full) is.blocked lawful.responsible
      by_route (by_short call answer short at to_come) = stays _ is.event refl refl (short-blocked u answer call (subst (λ (r : Route). IsIn s t (phases.Walk u r) call) short at))

  -- ---- each of them

  pub ResponsibleLaw-next : ResponsibleLaw (state_after s e)
  ResponsibleLaw-next = by_family next
    where
      by_family : IsNext s t e → ResponsibleLaw (state_after s e)
      by_family (by_own call answer is) = stays _ is.event refl refl (start-blocked s made t lawful call is.at)
      by_family (by_acquire l is) = of_acquire l is
      by_family (by_wait l (is_wait is)) = of_wait l is
      by_family (by_wait l (is_again is)) =
          kept-same s (state_after s e) (same-edges _ is.event refl refl) (keeps (no_walk (ap is_full is.at.at.phased))) lawful.responsible
      by_family (by_wait l (is_leave is)) = of_left l (leave-left s t l e is)
      by_family (by_release l is) = of_release l is
      by_family (by_reading l is) =
          stays e refl (reading-kind (λ kind. changes_own kind ≡ false) s t l e is (record { rin = refl; busy = refl; rout = refl; wwake = refl; unbias = refl; wtake = refl; wsleep = refl; wopen = refl }))
          (reading-kind (λ kind. changes_owner kind ≡ false) s t l e is (record { rin = refl; busy = refl; rout = refl; wwake = refl; unbias = refl; wtake = refl; wsleep = refl; wopen = refl }))
          (unblocked_idle (reading-was_idle s t l e is))
      by_family (by_walk route u (is_walk l key is)) = of_link route u l key is
      by_family (by_walk route u (is_walkend is)) = of_end route u is
      by_family (by_confirm l path (is_restart link is)) =
          kept-restart s (state_after s e) (same-edges _ is.event refl refl) t other-phase path is.at.at.phased (not-edges s made lawful.kept lawful.rows path link is.broken) lawful.responsible
      by_family (by_confirm l path (is_cycle is)) = of_left l (cycle-left s made t l path e lawful is)
      by_family (by_wakeup is) =
          let at = wakeup-at s t e is in
          stays e refl (wakeup-kind (λ kind. changes_own kind ≡ false) s t e is refl refl refl)
          (wakeup-kind (λ kind. changes_owner kind ≡ false) s t e is refl refl refl) (start-blocked s made t lawful at.0 at.1)
      by_family (by_setprio u prio is) = stays _ is.event refl refl (start-blocked s made t lawful (calls.SetPrio u prio) is.at)
