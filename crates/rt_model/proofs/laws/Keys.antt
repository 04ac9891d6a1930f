-- A next event keeps the keys law.
use Rattle.std.proofs.Common.{◌≡◌, ◌⊎◌, inl, inr, ℕ, Bool, true, false, cond, not, ◌&&◌, is_none, List, [], ◌∷◌, refl, sym, ap, ◌∙◌, subst, Option, Some, None, IfSome}
use Rattle.std.specs.Prelude.{nat_eq, is_some, option_map}
use Rattle.std.proofs.lemmas.Bool.{cond_both, not-true, and_parts}
use Rattle.rt_base.specs.Kind.{spins}
use Rattle.rt_base.specs.declared.call.Call.{Call}
use Rattle.rt_base.specs.declared.id.LockId.{LockId}
use Rattle.rt_base.specs.declared.id.TaskId.{TaskId}
use Rattle.rt_base.specs.declared.kind.Kind.{Kind}
use Rattle.rt_base.specs.declared.reply.Reply.TheVariants.{Done}
use Rattle.rt_model.specs.declared.event.Event.{Event}
use Rattle.rt_model.specs.declared.event_kind.EventKind.{EventKind}
use Rattle.rt_model.specs.declared.event_kind.EventKind.TheVariants as kinds
use Rattle.rt_model.specs.declared.phase.Phase.{Phase}
use Rattle.rt_model.specs.declared.phase.Phase.TheVariants as phases
use Rattle.rt_model.specs.declared.phase.Route.{Route}
use Rattle.rt_model.specs.declared.phase.Route.TheVariants.{Full, Short}
use Rattle.rt_model.specs.Parts.{OwnerPart, TaskPart, ThreadPart, call_of, effective_of, kind_of, kind_named}
use Rattle.rt_model.specs.Rows.{top_key}
use Rattle.rt_model.specs.Path.{Link}
use Rattle.rt_model.specs.State.{State, shared, task_at, owner_part, task_part, thread_part}
use Rattle.rt_model.specs.events.Wait.{phase_after_wait}
use Rattle.rt_model.specs.steps.Chain.{has_old_key, rekeyed, followed, is_on_path, path_before, goes_on}
use Rattle.rt_model.specs.steps.Lock.{left_by}
use Rattle.rt_model.specs.steps.Task.{with_top, with_own, refreshed, rest_of, blocked_on, leave_queue, lock_woken}
use Rattle.rt_model.specs.Effect.{Around}
use Rattle.rt_model.specs.Rules.{effect}
use Rattle.rt_model.specs.StateAfter.{state_after}
use Rattle.rt_model.specs.laws.Keys.{StandsAt, IsConfirming, IsNamed, KeysLaw}
use Rattle.rt_model.specs.laws.Lawful.{IsLawful}
use Rattle.rt_model.specs.laws.Owners.{owned_by}
use Rattle.rt_model.proofs.Blocked.{restored-blocked, writer_rests-blocked, blocked-other}
use Rattle.rt_model.proofs.CellStepLemmas.{IsWoken, effective-like, leave_queue-blocked, with_top-blocked, woken_by-like, lock_woken-like, blocked_on-like, restored-like, writer_rests-like, right_key}
use Rattle.rt_model.proofs.Calling.{asks-lock}
use Rattle.rt_model.proofs.Calm.{wakeup-kind, wakeup-task, wakeup-at}
use Rattle.rt_model.proofs.Idle.{IsIdle, asks-idle, acquires-idle, returns-idle, idle-unblocked}
use Rattle.rt_model.proofs.Leaves.{IsLeft, by_leave, by_cycle, leave-left, cycle-left, left-is, left_answer, left_phase, left-asks, left-own_blocked, left-others, left-thread_own}
use Rattle.rt_model.proofs.Links.{walked_thread, link_owner, link_woken, link-task, link-thread, end-task, setprio-task, setprio-thread}
use Rattle.rt_model.proofs.Lists.{if_some, if_found}
use Rattle.rt_model.proofs.NextEvents.{IsNext, by_own, by_acquire, by_wait, by_release, by_reading, by_walk, by_confirm, by_wakeup, by_setprio}
use Rattle.rt_model.proofs.events.Acquire.{TakesIn, from_slow, from_wait, from_trying, is_fast, is_mark, is_take, is_busy}
use Rattle.rt_model.proofs.events.Wait.{IsWait, is_wait, is_again, is_leave}
use Rattle.rt_model.proofs.events.Release.{IsGive, is_free, is_give}
use Rattle.rt_model.proofs.events.Walk.{WalksIn, IsWalk, IsWalkEnd, is_walk, is_walkend, IsRestart, is_restart, is_cycle}
use Rattle.rt_model.proofs.events.Readers.{reading-task}
use Rattle.rt_model.proofs.events.Wakeups.{IsSetPrio}
use Rattle.rt_model.proofs.Numbers.{at_each_task, same_task, other_number, owner-is}
use Rattle.rt_model.proofs.PartsAfter.{OthersKeep, task-keeps, own-made, owner-made, thread-own, thread-other}
use Rattle.rt_model.proofs.Reading.{is_idle, reading-kind, reading-was_idle}
use Rattle.rt_model.proofs.Routes.{walked-on}
use Rattle.rt_model.proofs.Waiters.{slow-unowned, walk-phase}
use Rattle.rt_model.proofs.Within.{task_room, owner_room}

-- ---- who is named

-- a walk of this task, in this phase, names u
abbrev Names : TaskId → TaskId → Phase → Type 0
Names t u (phases.Walk cursor route) = cursor ≡ u
Names t u (phases.Confirm path) = t ≡ u
Names t u _ = ⊥

stands-names : (t u : TaskId) (phase : Phase) → StandsAt u phase → Names t u phase
stands-names t u (phases.Walk cursor route) stands = stands
stands-names t u (phases.Confirm path) stands = absurd stands
stands-names t u _ stands = stands

confirms-names : (t : TaskId) (phase : Phase) → IsConfirming phase → Names t t phase
confirms-names t (phases.Walk cursor route) confirms = absurd confirms
confirms-names t (phases.Confirm path) confirms = refl
confirms-names t _ confirms = confirms

names-either : (t u : TaskId) (phase : Phase) → Names t u phase → StandsAt u phase ⊎ ((t ≡ u) × IsConfirming phase)
names-either t u (phases.Walk cursor route) names = inl names
names-either t u (phases.Confirm path) names = inr (names, tt)
names-either t u _ names = absurd names

-- who is named, and that who is named by some walk is
naming : (s : State) (u : TaskId) → IsNamed s u → (w : TaskId) × Names w u (thread_part s w).phase
naming s u (inl (w, stands)) = (w, stands-names w u (thread_part s w).phase stands)
naming s u (inr confirms) = (u, confirms-names u (thread_part s u).phase confirms)

named_by : (s : State) (w u : TaskId) → Names w u (thread_part s w).phase → IsNamed s u
named_by s w u names = either (names-either w u (thread_part s w).phase names)
  where
    either : StandsAt u (thread_part s w).phase ⊎ ((w ≡ u) × IsConfirming (thread_part s w).phase) → IsNamed s u
    either (inl stands) = inl (w, stands)
    either (inr confirms) = inr (subst (λ (v : TaskId). IsConfirming (thread_part s v).phase) confirms.0 confirms.1)

-- a walk that isn't the event's own task's names whom it named
still_named : (s : State) (e : Event) (u : TaskId) → (Names e.task u (thread_part s e.task).phase → ⊥) → (IsNamed (state_after s e) u → ⊥) → IsNamed s u → ⊥
still_named s e u elsewhere unnamed was =
    let found = naming s u was in
    at_each_task (λ v. Names v u (thread_part s v).phase → ⊥) e.task found.0 elsewhere
    (λ other here. unnamed (named_by (state_after s e) found.0 u (subst (λ (th : ThreadPart). Names found.0 u th.phase) (sym (thread-other s e found.0 other)) here))) found.1

-- ---- a task

-- a blocked task has its effective priority as its key
abbrev HasKey : TaskPart → Type 0
HasKey task = IfSome task.blocked (λ at. at.1 ≡ effective_of task)

unblocked-key : (task : TaskPart) → task.blocked ≡ None → HasKey task
unblocked-key task none = subst (λ (b : Option (LockId × ℕ)). IfSome b (λ at. at.1 ≡ effective_of task)) (sym none) tt

woken-key : {task other : TaskPart} → IsWoken task other → HasKey task → HasKey other
woken-key {task} {other} is was =
    subst (λ (b : Option (LockId × ℕ)). IfSome b (λ at. at.1 ≡ effective_of other)) (sym is.blocked)
    (if_some task.blocked (λ at. at.1 ≡ effective_of task) (λ at. at.1 ≡ effective_of other) (λ at some same. same ∙ sym (effective-like is.like)) was)

blocked-key : (l : Option LockId) (kind : Kind) (call : Option Call) (task : TaskPart) → HasKey (blocked_on l (rest_of kind call) task)
blocked-key None kind call task = tt
blocked-key (Some l) kind call task = sym (effective-like (blocked_on-like (Some l) (rest_of kind call) task))

-- a task with its effective priority as its key
rekeyed-key : (task : TaskPart) → HasKey (rekeyed task)
rekeyed-key task = by_blocked task.blocked
  where
    by_blocked : (blocked : Option (LockId × ℕ)) → IfSome {T = LockId × ℕ} (option_map (λ (at : LockId × ℕ). (at.0, effective_of task)) blocked) (λ at. at.1 ≡ effective_of task)
    by_blocked None = tt
    by_blocked (Some at) = refl

-- one whose key isn't old, and so one to which a walk doesn't go on
right-key : (task : TaskPart) → has_old_key task ≡ false → HasKey task
right-key task right = if_found task.blocked (λ at. at.1 ≡ effective_of task) (λ at some. right_key task at.0 at.1 some right)

not_blocked : (blocked : Option (LockId × ℕ)) → is_none blocked ≡ true → blocked ≡ None
not_blocked None is = refl
not_blocked (Some at) is = cc

-- so also one at which a walk ends, which neither stands there nor is to be confirmed
abbrev Passed : TaskId → TaskId → TaskPart → Option Phase → Type 0
Passed t u task next = ((phase : Phase) → next ≡ Some phase → Names t u phase → ⊥) → HasKey task

passed-key : (t u : TaskId) (route : Route) (task : TaskPart) → Passed t u task (goes_on t route (Some u) task)
passed-key t u (Short answer) task unless =
    cond_both (has_old_key task) (Some stands) None (Passed t u task) (λ old passed. absurd (passed stands refl refl)) (λ right passed. right-key task right) unless
  where
    stands : Phase
    stands = phases.Walk u (Short answer)
passed-key t u (Full path) task unless =
    cond_both (is_none task.blocked) None own (Passed t u task) (λ free passed. unblocked-key task (not_blocked task.blocked free))
    (λ blocked. cond_both (nat_eq u.0 t.0) (Some (phases.Confirm path)) other (Passed t u task) (λ same passed. absurd (passed (phases.Confirm path) refl (sym (same_task u t same))))
    (λ apart. cond_both (is_on_path u path && not (has_old_key task)) None (Some stands) (Passed t u task)
    (λ right passed. right-key task (not-true (has_old_key task) (and_parts (is_on_path u path) (not (has_old_key task)) right).1))
    (λ goes passed. absurd (passed stands refl refl)))) unless
  where
    stands : Phase
    stands = phases.Walk u (Full (path_before u path))

    other : Option Phase
    other = cond (is_on_path u path && not (has_old_key task)) None (Some stands)

    own : Option Phase
    own = cond (nat_eq u.0 t.0) (Some (phases.Confirm path)) other

-- a task to which a walk was to go on, where none names it
goes-key : (s : State) (t u : TaskId) (thread : ThreadPart) (route onward : Route) (task : TaskPart)
    → thread_part s t ≡ walked_thread thread route (goes_on t onward (Some u) task) → (IsNamed s u → ⊥) → HasKey task
goes-key s t u thread route onward task left unnamed =
    passed-key t u onward task
    (λ phase goes names. unnamed (named_by s t u (subst (Names t u)
    (sym (ap (λ (th : ThreadPart). th.phase) left ∙ walked-on thread route (goes_on t onward (Some u) task) phase goes)) names)))

-- an event of this kind keeps every key right
abbrev keeps_keys : EventKind → Bool
keeps_keys kinds.Wait = false
keeps_keys kinds.Leave = false
keeps_keys kinds.Cycle = false
keeps_keys kinds.Give = false
keeps_keys kinds.Walk = false
keeps_keys kinds.SetPrio = false
keeps_keys _ = true

key-own : (kind : EventKind) (e : Event) (th : ThreadPart) → keeps_keys kind ≡ true → (found : Around) (lock : OwnerPart) (task : TaskPart) → HasKey task → HasKey ((effect kind e th found).own lock task)
key-own kinds.Wait e th is found lock task was = cc
key-own kinds.Leave e th is found lock task was = cc
key-own kinds.Cycle e th is found lock task was = cc
key-own kinds.Give e th is found lock task was = cc
key-own kinds.Take e th is found lock task was =
    let left : TaskPart = leave_queue (spins (kind_named th e.lock)) task in
    unblocked-key (with_top e.lock (top_key lock.rows) left) (with_top-blocked e.lock (top_key lock.rows) left ∙ leave_queue-blocked (spins (kind_named th e.lock)) task)
key-own kinds.WTake e th is found lock task was =
    let spinning = spins (kind_named th e.lock) in
    woken-key (record { like = restored-like spinning task; blocked = restored-blocked spinning task }) was
key-own kinds.WSleep e th is found lock task was =
    let rest = rest_of (kind_named th e.lock) (call_of th) in
    woken-key (record { like = writer_rests-like th.phase rest task; blocked = writer_rests-blocked th.phase rest task }) was
key-own _ e th is found lock task was = was

key-others : (kind : EventKind) (e : Event) (th : ThreadPart) → keeps_keys kind ≡ true → (found : Around) (lock : OwnerPart) → OthersKeep HasKey (effect kind e th found) lock
key-others kinds.Wait e th is found lock = cc
key-others kinds.Leave e th is found lock = cc
key-others kinds.Cycle e th is found lock = cc
key-others kinds.Give e th is found lock = cc
key-others kinds.Walk e th is found lock = cc
key-others kinds.SetPrio e th is found lock = cc
key-others kinds.Wake e th is found lock = record { owner = λ task was. was; other = λ task was. woken-key (woken_by-like e.value task) was; woken = λ task was. was }
key-others kinds.WWake e th is found lock = record { owner = λ task was. was; other = λ task was. was; woken = λ task was. woken-key (lock_woken-like (spins (kind_named th e.lock)) task) was }
key-others _ e th is found lock = record { owner = λ task was. was; other = λ task was. was; woken = λ task was. was }

-- ---- the law

-- the task's walk doesn't name u in this phase
at_phase : (s : State) (t u : TaskId) (phase : Phase) → (thread_part s t).phase ≡ phase → (Names t u phase → ⊥) → Names t u (thread_part s t).phase → ⊥
at_phase s t u phase is never names = never (subst (Names t u) is names)

at_walk : (s : State) (t u v : TaskId) (route : Route) → WalksIn s t route v → nat_eq v.0 u.0 ≡ false → Names t u (thread_part s t).phase → ⊥
at_walk s t u v route how other = at_phase s t u (phases.Walk v route) (walk-phase s t route v how) (λ same. other_number v.0 u.0 other (ap (λ (w : TaskId). w.0) same))

idle_names : (t u : TaskId) (phase : Phase) → is_idle phase ≡ true → Names t u phase → ⊥
idle_names t u (phases.Walk cursor route) idle names = cc
idle_names t u (phases.Confirm path) idle names = cc
idle_names t u _ idle names = names

at_idle : (s : State) (t u : TaskId) → IsIdle s t → Names t u (thread_part s t).phase → ⊥
at_idle s t u idle = idle_names t u (thread_part s t).phase idle

takes_at : (s : State) (t u : TaskId) (l : LockId) → TakesIn s t l → Names t u (thread_part s t).phase → ⊥
takes_at s t u l (from_slow is) = at_phase s t u phases.Slow is.at.phased (λ never. never)
takes_at s t u l (from_wait is awake) = at_phase s t u phases.Wait is.at.phased (λ never. never)
takes_at s t u l (from_trying at) = at_phase s t u phases.Start at.at.phased (λ never. never)

module _ (s : State) (made : ℕ) (t : TaskId) (e : Event) (u : TaskId) (lawful : IsLawful s made) (unnamed : IsNamed (state_after s e) u → ⊥) where
  -- where the task's walk didn't name u, no other did
  key : e.task ≡ t → (Names t u (thread_part s t).phase → ⊥) → HasKey (task_part s u)
  key own elsewhere = lawful.keys u (still_named s e u (λ names. elsewhere (subst (λ (v : TaskId). Names v u (thread_part s v).phase) own names)) unnamed)

  -- an event that keeps keys
  kept-key : (x : Event) → e ≡ x → x.task ≡ t → (Names t u (thread_part s t).phase → ⊥) → keeps_keys x.kind ≡ true → HasKey (task_part (state_after s e) u)
  kept-key x is own elsewhere keeps =
      let kind : keeps_keys e.kind ≡ true = ap (λ (y : Event). keeps_keys y.kind) is ∙ keeps in
      task-keeps HasKey s e u (key (ap (λ (y : Event). y.task) is ∙ own) elsewhere) (key-own e.kind e (thread_part s e.task) kind) (key-others e.kind e (thread_part s e.task) kind)

  -- the waiter's key is its priority; a walk names the owner, whose priority may change, where that is blocked
  wait-key : (l : LockId) → IsWait s t l e → HasKey (task_part (state_after s e) u)
  wait-key l is = by_owner (owned_by (owner_part s l).owner u) refl
    where
      own : e.task ≡ t
      own = ap (λ (x : Event). x.task) is.event

      -- where the walk stands that begins at a blocked owner
      named : (at : LockId × ℕ) → owned_by (owner_part s l).owner u ≡ true → (task_part s u).blocked ≡ Some at → ⊥
      named at owns some =
          let phase : (thread_part (state_after s e) t).phase ≡ phases.Walk u (Full ((t.0, l.0) ∷ [])) =
          ap (λ (th : ThreadPart). th.phase) (thread-own s e _ is.event is.at.at.task)
          ∙ (ap (λ (o : Option TaskId). phase_after_wait t (Some l) o (is_some (task_at (shared s) o).blocked)) (owner-is (owner_part s l).owner u owns)
          ∙ ap (λ (b : Option (LockId × ℕ)). phase_after_wait t (Some l) (Some u) (is_some b)) some) in
          unnamed (named_by (state_after s e) t u (subst (Names t u) (sym phase) refl))

      not_blocked_owner : owned_by (owner_part s l).owner u ≡ true → (task_part s u).blocked ≡ None
      not_blocked_owner owns = by_blocked (task_part s u).blocked refl
        where
          by_blocked : (b : Option (LockId × ℕ)) → (task_part s u).blocked ≡ b → b ≡ None
          by_blocked None none = refl
          by_blocked (Some at) some = absurd (named at owns some)

      by_owner : (b : Bool) → owned_by (owner_part s l).owner u ≡ b → HasKey (task_part (state_after s e) u)
      by_owner true owns =
          let other : nat_eq t.0 u.0 ≡ false = at_each_task (λ v. owned_by (owner_part s l).owner v ≡ true → nat_eq t.0 v.0 ≡ false) t u (λ its. let not_its = slow-unowned s made t lawful l is.at in absurd cc) (λ others its. others) owns in
          unblocked-key (task_part (state_after s e) u) (blocked-other s e _ u is.event refl (ap (λ (v : TaskId). nat_eq v.0 u.0) own ∙ other) ∙ not_blocked_owner owns)
      by_owner false not_its =
          owner-made HasKey HasKey s e _ u is.event (owner_room s l lawful.shape (asks-lock s t phases.Slow l is.at)) (key own (at_phase s t u phases.Slow is.at.at.phased (λ never. never)))
          (λ task was. blocked-key (Some l) (kind_of (thread_part s t) l) (call_of (thread_part s t)) task) (λ task was owns. absurd cc) (λ task was others. was) (λ task was. was) (λ task was. was)

  -- who gives a lock up isn't blocked
  give-key : (l : LockId) → IsGive s t l e → HasKey (task_part (state_after s e) u)
  give-key l is =
      own-made (λ v. HasKey) s e _ t u is.event refl (task_room s t lawful.shape is.at.task)
      (record { owner = λ task was. was; other = λ task was. was; woken = λ task was. woken-key (lock_woken-like (spins (kind_of (thread_part s t) l)) task) was })
      (unblocked-key (with_top (Some l) None (task_part s t)) (idle-unblocked s made t lawful (returns-idle s t l is.at)))
      (λ others. key (ap (λ (x : Event). x.task) is.event) (at_idle s t u (returns-idle s t l is.at)))

  -- a link queues its cursor with its priority, and goes on to the owner, whose priority may change, where its key is old
  link-key : (route : Route) (v : TaskId) (l : LockId) (old : ℕ) → IsWalk s t route v l old e → HasKey (task_part (state_after s e) u)
  link-key route v l old is =
      subst HasKey (sym (link-task s made t route v l old e lawful is u))
      (cond_both (owned_by (link_woken s made t route v l old e lawful is) u) (lock_woken spinning cursor) cursor HasKey (λ its. woken-key (lock_woken-like spinning cursor) cursor-key) (λ its. cursor-key))
    where
      spinning : Bool
      spinning = spins (kind_of (thread_part s t) l)

      refreshed_owner : TaskPart → TaskPart
      refreshed_owner task = link_owner s made t route v l old e lawful is task

      owner : TaskPart
      owner = cond (owned_by (owner_part s l).owner u) (refreshed_owner (task_part s u)) (task_part s u)

      cursor : TaskPart
      cursor = cond (nat_eq v.0 u.0) (rekeyed owner) owner

      left : owned_by (owner_part s l).owner u ≡ true
          → thread_part (state_after s e) t ≡ walked_thread (thread_part s t) route (goes_on t (followed v l route) (Some u) (refreshed_owner (task_part s u)))
      left owns =
          thread-own s e _ is.event is.task ∙ (link-thread s made t route v l old e lawful is
          ∙ ap (λ (o : Option TaskId). walked_thread (thread_part s t) route (goes_on t (followed v l route) o (refreshed_owner (task_at (shared s) o)))) (owner-is (owner_part s l).owner u owns))

      owner-key : nat_eq v.0 u.0 ≡ false → HasKey owner
      owner-key other =
          cond_both (owned_by (owner_part s l).owner u) (refreshed_owner (task_part s u)) (task_part s u) HasKey
          (λ owns. goes-key (state_after s e) t u (thread_part s t) route (followed v l route) (refreshed_owner (task_part s u)) (left owns) unnamed)
          (λ not_its. key (ap (λ (x : Event). x.task) is.event) (at_walk s t u v route is.how other))

      cursor-key : HasKey cursor
      cursor-key = cond_both (nat_eq v.0 u.0) (rekeyed owner) owner HasKey (λ same. rekeyed-key owner) owner-key

  -- who leaves a queue isn't blocked any more; the lock's owner, whose priority may change, is where a walk begins, where its key is old
  left-key : (l : LockId) → IsLeft s t l e → HasKey (task_part (state_after s e) u)
  left-key l is =
      at_each_task (λ v. HasKey (task_part (state_after s e) v)) t u (unblocked-key (task_part (state_after s e) t) (left-own_blocked s made t l e lawful is)) others
    where
      route : Route
      route = Short (left_answer is)

      after_owner : TaskPart → TaskPart
      after_owner task = refreshed (Some l) (left_by t (owner_part s l)).rows task

      left : owned_by (owner_part s l).owner u ≡ true → thread_part (state_after s e) t ≡ walked_thread (thread_part s t) route (goes_on t route (Some u) (after_owner (task_part s u)))
      left owns =
          left-thread_own s made t l e lawful is
          ∙ ap (λ (o : Option TaskId). walked_thread (thread_part s t) route (goes_on t route o (after_owner (task_at (shared s) o)))) (owner-is (owner_part s l).owner u owns)

      elsewhere : (i : IsLeft s t l e) → nat_eq t.0 u.0 ≡ false → Names t u (left_phase i) → ⊥
      elsewhere (by_leave leaves) other names = names
      elsewhere (by_cycle path o m rest tells round owned) other names = other_number t.0 u.0 other (ap (λ (v : TaskId). v.0) names)

      others : nat_eq t.0 u.0 ≡ false → HasKey (task_part (state_after s e) u)
      others other =
          subst HasKey (sym (left-others s made t l e lawful is u other))
          (cond_both (owned_by (owner_part s l).owner u) (after_owner (task_part s u)) (task_part s u) HasKey
          (λ owns. goes-key (state_after s e) t u (thread_part s t) route route (after_owner (task_part s u)) (left owns) unnamed)
          (λ not_its. key (ap (λ (x : Event). x.task) (left-is s t l e is)) (at_phase s t u (left_phase is) (left-asks s made t l e lawful is).at.phased (elsewhere is other))))

  -- a walk that begins anew stands at its own task, which was named before
  restart-key : (l : LockId) (path : List (ℕ × ℕ)) (link : Link) → IsRestart s t l path link e → HasKey (task_part (state_after s e) u)
  restart-key l path link is =
      let phase : (thread_part (state_after s e) t).phase ≡ phases.Walk t (Full []) = ap (λ (th : ThreadPart). th.phase) (thread-own s e _ is.event is.at.at.task) in
      kept-key _ is.event refl (at_phase s t u (phases.Confirm path) is.at.at.phased (λ same. unnamed (named_by (state_after s e) t u (subst (Names t u) (sym phase) same)))) refl

  -- a walk that ends at its cursor isn't blocked there
  end-key : (route : Route) (v : TaskId) → IsWalkEnd s t route v e → HasKey (task_part (state_after s e) u)
  end-key route v is =
      subst HasKey (sym (end-task s t route v e is u))
      (by_cursor (nat_eq v.0 u.0) refl)
    where
      by_cursor : (b : Bool) → nat_eq v.0 u.0 ≡ b → HasKey (task_part s u)
      by_cursor true same = unblocked-key (task_part s u) (ap (λ (w : TaskId). (task_part s w).blocked) (sym (same_task v u same)) ∙ is.blocked)
      by_cursor false other = key (ap (λ (x : Event). x.task) is.event) (at_walk s t u v route is.how other)

  -- a target whose key isn't right then is where a walk begins
  set-key : (v : TaskId) (prio : ℕ) → IsSetPrio s t v prio e → HasKey (task_part (state_after s e) u)
  set-key v prio is =
      subst HasKey (sym (setprio-task s made t v prio e lawful is u))
      (cond_both (nat_eq v.0 u.0) (with_own prio (task_part s u)) (task_part s u) HasKey
      (λ same. goes-key (state_after s e) t u (thread_part s t) (Short Done) (Short Done) (with_own prio (task_part s u)) (left (same_task v u same)) unnamed)
      (λ other. key (ap (λ (x : Event). x.task) is.event) (at_phase s t u phases.Start is.at.phased (λ never. never))))
    where
      left : v ≡ u → thread_part (state_after s e) t ≡ walked_thread (thread_part s t) (Short Done) (goes_on t (Short Done) (Some u) (with_own prio (task_part s u)))
      left same =
          thread-own s e _ is.event is.at.task ∙ (setprio-thread s made t v prio e lawful is
          ∙ ap (λ (w : TaskId). walked_thread (thread_part s t) (Short Done) (goes_on t (Short Done) (Some w) (with_own prio (task_part s w)))) same)

pub KeysLaw-next : (s : State) (made : ℕ) (t : TaskId) (e : Event) → IsLawful s made → IsNext s t e → KeysLaw (state_after s e)
KeysLaw-next s made t e lawful next u unnamed = by_kind next
  where
    by_kind : IsNext s t e → HasKey (task_part (state_after s e) u)
    by_kind (by_own call answer is) = kept-key s made t e u lawful unnamed _ is.event refl (at_phase s t u phases.Start is.at.phased (λ never. never)) refl
    by_kind (by_acquire l (is_fast is)) = kept-key s made t e u lawful unnamed _ is.event refl (at_idle s t u (acquires-idle s t l is.how)) refl
    by_kind (by_acquire l (is_mark is)) = kept-key s made t e u lawful unnamed _ is.event refl (at_idle s t u (asks-idle s t l is.how)) refl
    by_kind (by_acquire l (is_take is)) = kept-key s made t e u lawful unnamed _ is.event refl (takes_at s t u l is.how) refl
    by_kind (by_acquire l (is_busy is)) = kept-key s made t e u lawful unnamed _ is.event refl (at_phase s t u phases.Start is.at.at.phased (λ never. never)) refl
    by_kind (by_wait l (is_wait is)) = wait-key s made t e u lawful unnamed l is
    by_kind (by_wait l (is_again is)) = kept-key s made t e u lawful unnamed _ is.event refl (at_phase s t u phases.Wait is.at.at.phased (λ never. never)) refl
    by_kind (by_release l (is_free is)) = kept-key s made t e u lawful unnamed _ is.event refl (at_idle s t u (returns-idle s t l is.at)) refl
    by_kind (by_release l (is_give is)) = give-key s made t e u lawful unnamed l is
    by_kind (by_reading l is) =
        kept-key s made t e u lawful unnamed e refl (reading-task s t l e is) (at_idle s t u (reading-was_idle s t l e is))
        (reading-kind (λ kind. keeps_keys kind ≡ true) s t l e is (record { rin = refl; busy = refl; rout = refl; wwake = refl; unbias = refl; wtake = refl; wsleep = refl; wopen = refl }))
    by_kind (by_walk route v (is_walk l old is)) = link-key s made t e u lawful unnamed route v l old is
    by_kind (by_walk route v (is_walkend is)) = end-key s made t e u lawful unnamed route v is
    by_kind (by_wait l (is_leave is)) = left-key s made t e u lawful unnamed l (leave-left s t l e is)
    by_kind (by_confirm l path (is_cycle is)) = left-key s made t e u lawful unnamed l (cycle-left s made t l path e lawful is)
    by_kind (by_confirm l path (is_restart link is)) = restart-key s made t e u lawful unnamed l path link is
    by_kind (by_wakeup is) =
        kept-key s made t e u lawful unnamed e refl (wakeup-task s t e is) (at_phase s t u phases.Start (wakeup-at s t e is).1.phased (λ never. never))
        (wakeup-kind (λ kind. keeps_keys kind ≡ true) s t e is refl refl refl)
    by_kind (by_setprio v prio is) = set-key s made t e u lawful unnamed v prio is
