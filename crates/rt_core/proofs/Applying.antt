-- What an event that comes next finds in the parts of a core, and that a core is left.
use Rattle.std.proofs.Common.{◌≡◌, ◌∙◌, ℕ, suc, ◌+◌, ◌<◌, ◌^◌, List, length, get_or, refl, sym, ap, subst, arith, Option, Some, None, IfSome, IsSome}
use Rattle.std.specs.Prelude.{option_map, slice_set}
use Rattle.std.proofs.Math.ListN.{length-set}
use Rattle.rt_base.specs.declared.id.LockId.{LockId}
use Rattle.rt_base.specs.declared.id.TaskId.{TaskId}
use Rattle.rt_model.specs.declared.event.Event.{Event}
use Rattle.rt_model.specs.declared.phase.Phase.{Phase}
use Rattle.rt_model.specs.declared.phase.Phase.TheVariants as phases
use Rattle.rt_model.specs.declared.phase.Route.TheVariants.{Full, Short}
use Rattle.rt_model.specs.declared.row.Row.{Row}
use Rattle.rt_model.specs.Parts.{ThreadPart}
use Rattle.rt_model.specs.Rows.{row_of}
use Rattle.rt_model.specs.State.{State, Shared, shared, lock_at, readers_at, task_at, owner_part, reader_part, thread_part}
use Rattle.rt_model.specs.Path.{first_lock, first_owner}
use Rattle.rt_model.specs.events.Walk.{cycle_event}
use Rattle.rt_model.specs.NextEvent.{next_event}
use Rattle.rt_model.specs.Rules.{touched}
use Rattle.rt_model.specs.steps.Readers.{CanStep}
use Rattle.rt_model.specs.StateAfter.{shared_after, thread_after, state_after}
use Rattle.rt_model.specs.laws.Lawful.{IsLawful}
use Rattle.rt_model.proofs.Calling.{thread_part-index}
use Rattle.rt_model.proofs.events.Acquire.{is_fast, is_mark, is_take, is_busy}
use Rattle.rt_model.proofs.events.Wait.{is_wait, is_again, is_leave}
use Rattle.rt_model.proofs.events.Walk.{is_walk, is_walkend, is_restart, is_cycle}
use Rattle.rt_model.proofs.events.Release.{is_free, is_give}
use Rattle.rt_model.proofs.events.Readers.{reading-holds}
use Rattle.rt_model.proofs.NextEvents.{IsNext, by_own, by_acquire, by_wait, by_reading, by_walk, by_confirm, by_wakeup, by_setprio, by_release, choice}
use Rattle.rt_model.proofs.Named.{within}
use Rattle.rt_model.proofs.ReaderSteps.{reader-step}
use Rattle.rt_model.proofs.Waiters.{slow-unqueued, round-begins, walk-link}
use Rattle.rt_model.proofs.laws.Rows.{blocked-queued}
use Rattle.rt_model.proofs.laws.Walks.{walk-room}
use Rattle.rt_model.proofs.Lists.{All-default, update-index}
use Rattle.rt_base.specs.Script.{Script, IsScript}
use Rattle.rt_model.specs.laws.Shape.{IsOf}
use Rattle.rt_model.specs.laws.Cells.{CellsLaw}
use Rattle.rt_model.proofs.Lawful.{IsLawful-next}
use Rattle.rt_model.proofs.laws.Cells.{CellsLaw-next}
use Rattle.rt_model.specs.CanMove.{IsUninvolved}
use Rattle.rt_model.specs.laws.Shape.{IsWithin}
use Rattle.rt_model.proofs.Uninvolved.{uninvolved-enabled, uninvolved-walking}
use Rattle.rt_core.specs.Core.{Made, with_threads}
use Rattle.rt_core.specs.Enabled.{IsKeptAt, AreKept}
use Rattle.rt_core.specs.declared.enabled.Enabled.{Enabled}
use Rattle.rt_parts.specs.Links.{HasRoom}
use Rattle.rt_core.specs.Fits.{NamesLock, CanQueue, CanLink, NamesOwner, CanSet, Fits}
use Rattle.rt_core.proofs.Choosing.{cursor-within}
use Rattle.rt_core.proofs.Counting.{law-counted, answer-calling, answer-call, answer-can}
use Rattle.rt_model.proofs.Calm.{wakeup-holds}

-- ---- what an event finds

unkeyed : (row : Option Row) → option_map (λ (r : Row). r.key) row ≡ None → row ≡ None
unkeyed None is = refl
unkeyed (Some row) is = cc

keyed : (row : Option Row) (key : ℕ) → option_map (λ (r : Row). r.key) row ≡ Some key → IsSome row
keyed None key is = cc
keyed (Some row) key is = refl

-- what an event of its kind needs
record IsReady (s : State) (t : TaskId) (e : Event) : Type 0 where
  named : NamesLock e.kind e
  queue : CanQueue e.kind e (lock_at (shared s) e.lock)
  link : CanLink e.kind e (shared s) (thread_part s t)
  first : NamesOwner e.kind e (shared s)
  set : CanSet e.kind e
  step : CanStep e.kind e.value (readers_at (shared s) (touched e.kind e).readers)

module _ (s : State) (made : ℕ) (t : TaskId) (lawful : IsLawful s made) (few : made < 2 ^ 62) where
  -- the path of a walk has room
  room : HasRoom (thread_part s t).phase
  room = by_phase (thread_part s t).phase refl
    where
      by_phase : (phase : Phase) → (thread_part s t).phase ≡ phase → HasRoom phase
      by_phase (phases.Walk u (Full path)) is =
          let most = lawful.shape.few_tasks in
          let there = cursor-within s made t lawful u (Full path) is in
          (omega (arith, there, most), walk-room s made t u path lawful is)
      by_phase (phases.Walk u (Short answer)) is = tt
      by_phase _ is = tt

  ready : (e : Event) → IsNext s t e → IsReady s t e
  ready e (by_own call answer is) = subst (IsReady s t) (sym is.event) (record { named = tt; queue = tt; link = tt; first = tt; set = tt; step = tt })
  ready e (by_acquire l (is_fast is)) = subst (IsReady s t) (sym is.event) (record { named = refl; queue = tt; link = tt; first = tt; set = tt; step = tt })
  ready e (by_acquire l (is_mark is)) = subst (IsReady s t) (sym is.event) (record { named = refl; queue = tt; link = tt; first = tt; set = tt; step = tt })
  ready e (by_acquire l (is_take is)) = subst (IsReady s t) (sym is.event) (record { named = refl; queue = tt; link = tt; first = tt; set = tt; step = tt })
  ready e (by_acquire l (is_busy is)) = subst (IsReady s t) (sym is.event) (record { named = refl; queue = tt; link = tt; first = tt; set = tt; step = tt })
  ready e (by_wait l (is_wait is)) =
      let none = unkeyed (row_of t (owner_part s l).rows) (slow-unqueued s made t lawful l is.at.call is.at.at) in
      let least = lawful.rows.tickets l in
      subst (IsReady s t) (sym is.event) (record { named = refl; queue = (none, omega (arith, least, few)); link = tt; first = tt; set = tt; step = tt })
  ready e (by_wait l (is_again is)) = subst (IsReady s t) (sym is.event) (record { named = refl; queue = tt; link = tt; first = tt; set = tt; step = tt })
  ready e (by_wait l (is_leave is)) = subst (IsReady s t) (sym is.event) (record { named = refl; queue = tt; link = tt; first = tt; set = tt; step = tt })
  ready e (by_walk route u (is_walk l key is)) =
      let least = lawful.rows.tickets l in
      let at = walk-link s made t route u l key e lawful is in
      let queued = keyed (row_of u (owner_part s l).rows) key (blocked-queued s made u l key lawful.rows is.blocked) in
      let blocked = subst (λ (b : Option (LockId × ℕ)). IsSome b) (sym is.blocked) refl in
      subst (IsReady s t) (sym is.event) (record {
        named = refl;
        queue = tt;
        link = record {
          cursor = refl;
          blocked = ap (λ (b : Option (LockId × ℕ)). option_map (λ (at : LockId × ℕ). at.0) b) is.blocked;
          queued = record { blocked = blocked; queued = queued; tickets = omega (arith, least, few); unowned = at.unowned };
          owner = refl;
          room = room;
        };
        first = tt;
        set = tt;
        step = tt;
      })
  ready e (by_walk route u (is_walkend is)) = subst (IsReady s t) (sym is.event) (record { named = tt; queue = tt; link = tt; first = tt; set = tt; step = tt })
  ready e (by_confirm l path (is_restart link is)) = subst (IsReady s t) (sym is.event) (record { named = tt; queue = tt; link = tt; first = tt; set = tt; step = tt })
  ready e (by_confirm l path (is_cycle is)) =
      let round = round-begins s made t path l lawful is.at in
      let cycle : List (ℕ × ℕ) → Event = λ xs. cycle_event t xs (lock_at (shared s) (first_lock xs)) (task_at (shared s) (first_owner xs)) in
      let there = subst (λ (n : ℕ). round.owner.0 < n) (sym lawful.shape.tasks) round.there in
      subst (IsReady s t) (sym (is.event ∙ ap cycle round.is)) (record { named = refl; queue = tt; link = tt; first = there; set = tt; step = tt })
  ready e (by_wakeup is) =
      wakeup-holds (IsReady s t) s t e is
      (λ state. record { named = tt; queue = tt; link = tt; first = tt; set = tt; step = tt }) (record { named = tt; queue = tt; link = tt; first = tt; set = tt; step = tt })
      (λ u. record { named = tt; queue = tt; link = tt; first = tt; set = tt; step = tt }) (λ u. record { named = tt; queue = tt; link = tt; first = tt; set = tt; step = tt })
  ready e (by_setprio u prio is) = subst (IsReady s t) (sym is.event) (record { named = tt; queue = tt; link = tt; first = tt; set = record { target = refl; value = is.at.served.1 }; step = tt })
  ready e (by_release l (is_free is)) = subst (IsReady s t) (sym is.event) (record { named = refl; queue = tt; link = tt; first = tt; set = tt; step = tt })
  ready e (by_release l (is_give is)) = subst (IsReady s t) (sym is.event) (record { named = refl; queue = tt; link = tt; first = tt; set = tt; step = tt })
  ready e (by_reading l is) =
      reading-holds (λ phase x. IfSome (touched x.kind x).readers (λ m. CanStep x.kind x.value (reader_part s m)) → IsReady s t x) s t l e is (record {
        read = λ step. record { named = refl; queue = tt; link = tt; first = tt; set = tt; step = step };
        let_in = λ step. record { named = refl; queue = tt; link = tt; first = tt; set = tt; step = step };
        shut = λ step. record { named = refl; queue = tt; link = tt; first = tt; set = tt; step = step };
        tryshut = λ step. record { named = refl; queue = tt; link = tt; first = tt; set = tt; step = step };
        out = λ step. record { named = refl; queue = tt; link = tt; first = tt; set = tt; step = step };
        wwake = λ step. record { named = refl; queue = tt; link = tt; first = tt; set = tt; step = tt };
        unbias = λ step. record { named = refl; queue = tt; link = tt; first = tt; set = tt; step = step };
        written = λ step. record { named = refl; queue = tt; link = tt; first = tt; set = tt; step = step };
        late = λ step. record { named = refl; queue = tt; link = tt; first = tt; set = tt; step = step };
        sleep = λ step. record { named = refl; queue = tt; link = tt; first = tt; set = tt; step = step };
        again = λ step. record { named = refl; queue = tt; link = tt; first = tt; set = tt; step = step };
        given_up = λ step. record { named = refl; queue = tt; link = tt; first = tt; set = tt; step = step };
        opened = λ step. record { named = refl; queue = tt; link = tt; first = tt; set = tt; step = step };
        downgraded = λ step. record { named = refl; queue = tt; link = tt; first = tt; set = tt; step = step };
      }) (reader-step s made t e lawful (by_reading l is))

-- what comes next
next : (s : State) (made : ℕ) (e : Event) → IsLawful s made → next_event s e.task ≡ Some e → IsNext s e.task e
next s made e lawful is = choice s e.task e lawful.calls lawful.phases is

-- which fits the parts of its state
fits : (s : State) (made : ℕ) (e : Event) → IsLawful s made → made < 2 ^ 62 → next_event s e.task ≡ Some e → Fits e (shared s) (thread_part s e.task)
fits s made e lawful few is =
    let chosen = next s made e lawful is in
    let names = within s made e.task e lawful chosen in
    let ready = ready s made e.task lawful few e chosen in
    let same = lawful.shape.tasks in
    let there = λ (o : Option TaskId) (is : IfSome o (λ t. t.0 < length s.threads)). subst (λ (n : ℕ). IfSome o (λ t. t.0 < n)) (sym same) is in
    record {
      task = subst (λ (n : ℕ). e.task.0 < n) (sym same) names.task;
      lock = names.lock;
      named = ready.named;
      other = there e.other names.other;
      owner = there e.owner names.owner;
      woken = there e.woken names.woken;
      kinds = All-default (λ (thread : ThreadPart). length thread.kinds ≡ length s.locks) s.threads e.task.0 _ lawful.shape.kinds names.task;
      calling = answer-calling s made e lawful chosen;
      counted = law-counted (thread_part s e.task) (lawful.migration e.task);
      call = answer-call s made e lawful chosen;
      can = answer-can s made e lawful chosen;
      queue = ready.queue;
      link = ready.link;
      first = ready.first;
      set = ready.set;
      step = ready.step;
    }

-- ---- the parts of a core, with the value that they make

module _ (sh : Shared) (threads : List ThreadPart) (made : ℕ) (now : Made) (e : Event) (lawful : IsLawful (with_threads sh threads) made) (is : record { state = with_threads sh threads; made = made } ≡ now)
    (chosen : next_event now.state e.task ≡ Some e) (few : now.made < 2 ^ 62) where
  chosen_there : next_event (with_threads sh threads) e.task ≡ Some e
  chosen_there = subst (λ (m : Made). next_event m.state e.task ≡ Some e) (sym is) chosen

  few_made : made < 2 ^ 62
  few_made = subst (λ (m : Made). m.made < 2 ^ 62) (sym is) few

  -- its task has a thread
  pub thread-there : e.task.0 < length threads
  thread-there = (within (with_threads sh threads) made e.task e lawful (next (with_threads sh threads) made e lawful chosen_there)).task

  own_thread : (thread : ThreadPart) → thread ≡ get_or threads e.task.0 thread → thread_part (with_threads sh threads) e.task ≡ thread
  own_thread thread at = thread_part-index (with_threads sh threads) e.task thread thread-there at

  -- which it fits
  pub fits_thread : (thread : ThreadPart) → thread ≡ get_or threads e.task.0 thread → Fits e sh thread
  fits_thread thread at = subst (Fits e sh) (own_thread thread at) (fits (with_threads sh threads) made e lawful few_made chosen_there)

  -- whoever it names has a thread, as the threads are left, too
  pub named-left : (moved : ThreadPart) (found : List ThreadPart) (o : Option TaskId) → found ≡ slice_set threads e.task.0 moved → IfSome o (λ t. t.0 < length threads) → IfSome o (λ t. t.0 < length found)
  named-left moved found o is_found there = subst (λ (n : ℕ). IfSome o (λ t. t.0 < n)) (sym (ap length is_found ∙ length-set threads e.task.0 moved)) there

  pub names-within : IsWithin (length threads) (length sh.locks) e
  names-within = within (with_threads sh threads) made e.task e lawful (next (with_threads sh threads) made e lawful chosen_there)

  -- the parts that it leaves make the state that it leaves
  left_here : (left : Shared) (thread moved : ThreadPart) → thread ≡ get_or threads e.task.0 thread → left ≡ shared_after sh thread e → moved ≡ thread_after sh thread e
      → with_threads left (slice_set threads e.task.0 moved) ≡ state_after (with_threads sh threads) e
  left_here left thread moved at is_left is_moved =
      let own = thread_part (with_threads sh threads) e.task in
      let all = is_left ∙ ap (λ (th : ThreadPart). shared_after sh th e) (sym (own_thread thread at)) in
      let one = is_moved ∙ ap (λ (th : ThreadPart). thread_after sh th e) (sym (own_thread thread at)) in
      (λ i. with_threads (all i) (slice_set threads e.task.0 (one i)))
      ∙ ap (with_threads (shared_after sh own e)) (sym (update-index threads e.task.0 own (λ old. thread_after sh own e) thread-there))

  pub state_left : (left : Shared) (thread moved : ThreadPart) → thread ≡ get_or threads e.task.0 thread → left ≡ shared_after sh thread e → moved ≡ thread_after sh thread e
      → with_threads left (slice_set threads e.task.0 moved) ≡ state_after now.state e
  state_left left thread moved at is_left is_moved = left_here left thread moved at is_left is_moved ∙ ap (λ (m : Made). state_after m.state e) is

  -- which is lawful again
  pub lawful_left : (left : Shared) (thread moved : ThreadPart) → thread ≡ get_or threads e.task.0 thread → left ≡ shared_after sh thread e → moved ≡ thread_after sh thread e
      → IsLawful (with_threads left (slice_set threads e.task.0 moved)) (made + 1)
  lawful_left left thread moved at is_left is_moved =
      let one_more : suc made ≡ made + 1 = omega arith in
      let kept = IsLawful-next (with_threads sh threads) made e.task e lawful (next (with_threads sh threads) made e lawful chosen_there) in
      subst (λ (n : ℕ). IsLawful (with_threads left (slice_set threads e.task.0 moved)) n) one_more (subst (λ (x : State). IsLawful x (suc made)) (sym (left_here left thread moved at is_left is_moved)) kept)

  -- with each task on the processor of the cells that it has
  pub cells_left : (script : Script) → IsScript script → IsOf script now.state → CellsLaw script now.state → CellsLaw script (state_after now.state e)
  cells_left script valid of law =
      let lawful_now = subst (λ (m : Made). IsLawful m.state m.made) is lawful in
      CellsLaw-next script valid now.state now.made e of lawful_now chosen law

  -- and whose kept sets are right where the involved tasks were looked at anew
  pub kept-left : (kept after : Enabled) (left : Shared) (thread moved : ThreadPart) → thread ≡ get_or threads e.task.0 thread → left ≡ shared_after sh thread e → moved ≡ thread_after sh thread e → AreKept (with_threads sh threads) kept
      → (found : List ThreadPart) → found ≡ slice_set threads e.task.0 moved → ((u : TaskId) → u.0 < 64 → (IsUninvolved u e → IsKeptAt (with_threads left found) kept u.0) → IsKeptAt (with_threads left found) after u.0)
      → AreKept (with_threads left (slice_set threads e.task.0 moved)) after
  kept-left kept after left thread moved at is_left is_moved was found same_found looks =
      let s = with_threads sh threads in
      let same = left_here left thread moved at is_left is_moved in
      let looked = subst (λ (all : List ThreadPart). (u : TaskId) → u.0 < 64 → (IsUninvolved u e → IsKeptAt (with_threads left all) kept u.0) → IsKeptAt (with_threads left all) after u.0) same_found looks in
      λ t lt. let u : TaskId = record { 0 = t } in looked u lt (λ none. subst (λ (x : State). IsKeptAt x kept t) (sym same) (record {
        enabled = (was t lt).enabled ∙ sym (uninvolved-enabled s e u none);
        walking = (was t lt).walking ∙ sym (uninvolved-walking s e u none);
      }))
