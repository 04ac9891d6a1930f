-- A next event keeps the walks law.
use Rattle.std.proofs.Common.{◌≡◌, ◌≢◌, inl, ℕ, ◌<◌, Bool, true, false, List, [], ◌∷◌, ◌++◌, length, refl, sym, ap, ◌∙◌, subst, arith, Option, Some, None, IfSome}
use Rattle.std.specs.Prelude.{nat_eq}
use Rattle.std.proofs.lemmas.List.Elements.{All-nil}
use Rattle.std.proofs.lemmas.Bool.{cond-false}
use Rattle.rt_base.specs.declared.call.Call.{Call}
use Rattle.rt_base.specs.declared.call.Call.TheVariants as calls
use Rattle.rt_base.specs.declared.id.LockId.{LockId}
use Rattle.rt_base.specs.declared.id.TaskId.{TaskId}
use Rattle.rt_base.specs.declared.limits.TheConstants.{MAX_LINKS}
use Rattle.rt_base.specs.declared.reply.Reply.{Reply}
use Rattle.rt_base.specs.declared.reply.Reply.TheVariants.{Done}
use Rattle.rt_model.specs.declared.event.Event.{Event}
use Rattle.rt_model.specs.declared.phase.Phase.{Phase}
use Rattle.rt_model.specs.declared.phase.Phase.TheVariants as phases
use Rattle.rt_model.specs.declared.phase.Route.{Route}
use Rattle.rt_model.specs.declared.phase.Route.TheVariants.{Full, Short}
use Rattle.rt_model.specs.Parts.{TaskPart, ThreadPart, call_of}
use Rattle.rt_model.specs.Choice.{present_lock}
use Rattle.rt_model.specs.State.{State, shared, owner_part, task_part, thread_part}
use Rattle.rt_model.specs.Rules.{touched}
use Rattle.rt_model.specs.StateAfter.{effect_in, thread_after, state_after}
use Rattle.rt_model.specs.events.Wait.{phase_after_wait}
use Rattle.rt_model.specs.steps.Chain.{followed, goes_on}
use Rattle.rt_model.specs.steps.Task.{with_own}
use Rattle.rt_model.specs.steps.Thread.{phase_after_got, got_answer, answered_with}
use Rattle.rt_model.specs.laws.Lawful.{IsLawful}
use Rattle.rt_model.specs.laws.Owners.{owned_by}
use Rattle.rt_model.specs.laws.Queued.{awaited_in}
use Rattle.rt_model.specs.laws.Walks.{IsFullWalk, IsWalkOf, WalksLaw}
use Rattle.rt_model.proofs.Calling.{asks-present, asks-lock}
use Rattle.rt_model.proofs.Calm.{wakeup-threads}
use Rattle.rt_model.proofs.Leaves.{IsLeft, left_answer, left_made, left-is, left-there, left-lock_there, left-thread, leave-left, cycle-left}
use Rattle.rt_model.proofs.Links.{walked_thread, link-thread, end-thread, setprio-thread}
use Rattle.rt_model.proofs.Lists.{length-update, length-at_lock}
use Rattle.rt_model.proofs.NextEvents.{IsNext, by_own, by_acquire, by_wait, by_release, by_reading, by_walk, by_confirm, by_wakeup, by_setprio}
use Rattle.rt_model.proofs.Numbers.{other_way}
use Rattle.rt_model.proofs.PartsAfter.{thread-made}
use Rattle.rt_model.proofs.Paths.{full-goes, full-confirms, full-room}
use Rattle.rt_model.proofs.Reading.{is_idle, reading-threads}
use Rattle.rt_model.proofs.Routes.{full-holds, short-holds}
use Rattle.rt_model.proofs.Waiters.{blocking, slow-unowned, walk-phase, walk-link}
use Rattle.rt_model.proofs.Within.{owner_within}
use Rattle.rt_model.proofs.events.Acquire.{is_fast, is_mark, is_take, is_busy}
use Rattle.rt_model.proofs.events.Release.{is_free, is_give}
use Rattle.rt_model.proofs.events.Wait.{is_wait, is_again, is_leave}
use Rattle.rt_model.proofs.events.Walk.{IsWalk, is_walk, is_walkend, is_restart, is_cycle}

-- the thread is so of task t, among n tasks and m locks
abbrev Walking : ℕ → ℕ → TaskId → ThreadPart → Type 0
Walking n m t thread = IsWalkOf n m t (present_lock thread) thread.phase

-- ---- a thread that doesn't walk

idle_walks : (n m : ℕ) (t : TaskId) (lock : Option LockId) (phase : Phase) → is_idle phase ≡ true → IsWalkOf n m t lock phase
idle_walks n m t lock (phases.Walk cursor route) idle = cc
idle_walks n m t lock (phases.Confirm path) idle = cc
idle_walks n m t lock _ idle = tt

-- one that has acquired an owner part
got_walks : (n m : ℕ) (t : TaskId) (thread : ThreadPart) (call : Option Call) → Walking n m t (answered_with (record thread { phase = phase_after_got call thread.phase }) (got_answer call))
got_walks n m t thread (Some (calls.Read l)) = tt
got_walks n m t thread (Some (calls.Write l)) = tt
got_walks n m t thread (Some (calls.TryWrite l)) = tt
got_walks n m t thread _ = tt

-- ---- a walk begins

-- the empty path is one of a full walk at its own task
empty_walk : (n m : ℕ) (t : TaskId) (lock : Option LockId) → IsFullWalk n m t lock t []
empty_walk n m t lock = record {
  begins = inl (refl, refl);
  there = All-nil (λ (link : ℕ × ℕ). (link.0 < n) × (link.1 < m));
  differ = λ i j d below inside. absurd (omega (arith, inside));
  ahead = All-nil (λ (link : ℕ × ℕ). link.0 ≢ t.0);
}

-- a path of the walker's own link is one of a full walk at another task
fresh_walk : (n m : ℕ) (t o : TaskId) (l : LockId) (lock : Option LockId) → t.0 < n → l.0 < m → lock ≡ Some l → nat_eq o.0 t.0 ≡ false → IsFullWalk n m t lock o ((t.0, l.0) ∷ [])
fresh_walk n m t o l lock lt within on other =
    subst (IsFullWalk n m t lock o) (cond-false (nat_eq t.0 o.0) [] ((t.0, l.0) ∷ []) (other_way t o other)) (full-goes n m t t o l lock [] lt within (empty_walk n m t lock) (λ same. on))

-- so that of a task that has been queued
wait_walks : (n m : ℕ) (thread : ThreadPart) (t : TaskId) (l : LockId) (owner : Option TaskId) (blocked : Bool) → t.0 < n → l.0 < m → present_lock thread ≡ Some l
    → owned_by owner t ≡ false → IfSome owner (λ o. o.0 < n) → Walking n m t (record thread { phase = phase_after_wait t (Some l) owner blocked })
wait_walks n m thread t l (Some o) true lt within on other there = (there, fresh_walk n m t o l (present_lock thread) lt within on other)
wait_walks n m thread t l (Some o) false lt within on other there = tt
wait_walks n m thread t l None blocked lt within on other there = tt

-- ---- a walk goes on

-- a short one at the owner of the lock that it left, or not at all; so does one that begins, with an answer to come
short_walks : (n m : ℕ) (thread : ThreadPart) (t : TaskId) (answer : Reply) (owner : Option TaskId) (task : TaskPart) → IfSome owner (λ o. o.0 < n)
    → Walking n m t (walked_thread thread (Short answer) (goes_on t (Short answer) owner task))
short_walks n m thread t answer owner task there =
    short-holds (λ next. Walking n m t (walked_thread thread (Short answer) next)) t answer owner task tt (λ o some old. subst (λ (p : Option TaskId). IfSome p (λ v. v.0 < n)) some there)

-- and a full one, too, or it is to be confirmed; its cursor doesn't own that lock, and where it is the walker, that is the walker's
link_walks : (n m : ℕ) (thread : ThreadPart) (t u : TaskId) (l : LockId) (route : Route) (owner : Option TaskId) (task : TaskPart) → IsWalkOf n m t (present_lock thread) (phases.Walk u route)
    → l.0 < m → IfSome owner (λ o. o.0 < n) → owned_by owner u ≡ false → (u ≡ t → awaited_in (phases.Walk u route) (present_lock thread) ≡ Some l)
    → Walking n m t (walked_thread thread route (goes_on t (followed u l route) owner task))
link_walks n m thread t u l (Full path) owner task walks within there unowned own =
    full-holds (λ next. Walking n m t (walked_thread thread (Full path) next)) t (path ++ (u.0, l.0) ∷ []) owner task tt
    (λ back blocked. full-confirms n m t u l (present_lock thread) path walks.0 within walks.1 (sym (ap (λ (p : Option TaskId). owned_by p u) back) ∙ unowned))
    (λ o some stands. (subst (λ (p : Option TaskId). IfSome p (λ v. v.0 < n)) some there, full-goes n m t u o l (present_lock thread) path walks.0 within walks.1 own))
link_walks n m thread t u l (Short answer) owner task walks within there unowned own = short_walks n m thread t answer owner task there

-- one that ends is none any more
end_walks : (n m : ℕ) (thread : ThreadPart) (t : TaskId) (route : Route) → Walking n m t (walked_thread thread route None)
end_walks n m thread t (Full path) = tt
end_walks n m thread t (Short answer) = tt

-- what the law says of a walk
walks_at : (s : State) (t : TaskId) (route : Route) (u : TaskId) → WalksLaw s → (thread_part s t).phase ≡ phases.Walk u route
    → IsWalkOf (length s.threads) (length s.locks) t (present_lock (thread_part s t)) (phases.Walk u route)
walks_at s t route u law phase = subst (IsWalkOf (length s.threads) (length s.locks) t (present_lock (thread_part s t))) phase (law t)

-- ---- the law

pub WalksLaw-next : (s : State) (made : ℕ) (t : TaskId) (e : Event) → IsLawful s made → IsNext s t e → WalksLaw (state_after s e)
WalksLaw-next s made t e lawful next v =
    subst (λ (k : ℕ). Walking k (length (state_after s e).locks) v (thread_part (state_after s e) v)) (sym long)
    (subst (λ (k : ℕ). Walking n k v (thread_part (state_after s e) v)) (sym wide) (by_kind next))
  where
    n : ℕ
    n = length s.threads

    m : ℕ
    m = length s.locks

    long : length (state_after s e).threads ≡ n
    long = length-update s.threads e.task.0 (λ old. thread_after (shared s) (thread_part s e.task) e)

    wide : length (state_after s e).locks ≡ m
    wide = length-at_lock s.locks (touched e.kind e).lock (effect_in (shared s) (thread_part s e.task) e).lock

    -- the thread of an event that comes about as x
    own : (x : Event) → e ≡ x → x.task.0 < n → Walking n m x.task (thread_after (shared s) (thread_part s x.task) x) → Walking n m v (thread_part (state_after s e) v)
    own x is lt walks = thread-made (Walking n m) s e x v is lt walks (λ others. lawful.walks v)

    -- where its cursor is its own task, the lock is the one on which that waits
    its_lock : (route : Route) (u : TaskId) (l : LockId) (key : ℕ) → IsWalk s t route u l key e → u ≡ t → awaited_in (phases.Walk u route) (present_lock (thread_part s t)) ≡ Some l
    its_lock route u l key is same =
        ap (λ (p : Phase). awaited_in p (present_lock (thread_part s t))) (sym (walk-phase s t route u is.how))
        ∙ (sym (lawful.queued.blocked t) ∙ (ap (λ (w : TaskId). blocking (task_part s w).blocked) (sym same) ∙ ap blocking is.blocked))

    -- a wait that ends without the lock
    left : (l : LockId) (is : IsLeft s t l e) → Walking n m v (thread_part (state_after s e) v)
    left l is =
        own (left_made s t l e is) (left-is s t l e is) (left-there s made t l e lawful is)
        (subst (Walking n m t) (sym (left-thread s made t l e lawful is))
        (short_walks n m (thread_part s t) t (left_answer is) (owner_part s l).owner _ (owner_within s l lawful.shape (left-lock_there s made t l e lawful is))))

    by_kind : IsNext s t e → Walking n m v (thread_part (state_after s e) v)
    by_kind (by_own call answer is) = own _ is.event is.at.task tt
    by_kind (by_acquire l (is_fast is)) = own _ is.event is.task (got_walks n m t (thread_part s t) (call_of (thread_part s t)))
    by_kind (by_acquire l (is_mark is)) = own _ is.event is.task tt
    by_kind (by_acquire l (is_take is)) = own _ is.event is.task (got_walks n m t (thread_part s t) (call_of (thread_part s t)))
    by_kind (by_acquire l (is_busy is)) = own _ is.event is.at.at.task tt
    by_kind (by_wait l (is_wait is)) =
        let lock = asks-lock s t phases.Slow l is.at in
        own _ is.event is.at.at.task
        (wait_walks n m (thread_part s t) t l (owner_part s l).owner _ is.at.at.task lock (asks-present s t phases.Slow l is.at) (slow-unowned s made t lawful l is.at) (owner_within s l lawful.shape lock))
    by_kind (by_wait l (is_again is)) = own _ is.event is.at.at.task (lawful.walks t)
    by_kind (by_wait l (is_leave is)) = left l (leave-left s t l e is)
    by_kind (by_release l (is_free is)) = own _ is.event is.at.task tt
    by_kind (by_release l (is_give is)) = own _ is.event is.at.task tt
    by_kind (by_reading l is) = reading-threads s t l e is (Walking n m) v (λ thread idle. idle_walks n m t (present_lock thread) thread.phase idle) (lawful.walks v)
    by_kind (by_walk route u (is_walk l key is)) =
        let link = walk-link s made t route u l key e lawful is in
        own _ is.event is.task
        (subst (Walking n m t) (sym (link-thread s made t route u l key e lawful is))
        (link_walks n m (thread_part s t) t u l route (owner_part s l).owner _ (walks_at s t route u lawful.walks (walk-phase s t route u is.how)) link.lock
        (owner_within s l lawful.shape link.lock) link.unowned (its_lock route u l key is)))
    by_kind (by_walk route u (is_walkend is)) = own _ is.event is.task (subst (Walking n m t) (sym (end-thread s t route u e is)) (end_walks n m (thread_part s t) t route))
    by_kind (by_confirm l path (is_restart link is)) = own _ is.event is.at.at.task (is.at.at.task, empty_walk n m t (present_lock (thread_part s t)))
    by_kind (by_confirm l path (is_cycle is)) = left l (cycle-left s made t l path e lawful is)
    by_kind (by_wakeup is) =
        wakeup-threads s t e is (Walking n m) v (λ thread start. subst (IsWalkOf n m t (present_lock thread)) (sym start) tt) (lawful.walks v)
    by_kind (by_setprio u prio is) =
        own _ is.event is.at.task
        (subst (Walking n m t) (sym (setprio-thread s made t u prio e lawful is)) (short_walks n m (thread_part s t) t Done (Some u) (with_own prio (task_part s u)) is.at.served.0))

-- ---- a push has room

pub walk-room : (s : State) (made : ℕ) (t u : TaskId) (path : List (ℕ × ℕ)) → IsLawful s made → (thread_part s t).phase ≡ phases.Walk u (Full path) → length path < MAX_LINKS
walk-room s made t u path lawful phase =
    let walks = walks_at s t (Full path) u lawful.walks phase in
    let room : length path < length s.threads = full-room (length s.threads) (length s.locks) t u (present_lock (thread_part s t)) path walks.0 walks.1 in
    omega (arith, room, lawful.shape.few_tasks)
