-- A next event keeps the cells law.
use Rattle.std.proofs.Common.{◌≡◌, ◌⊎◌, inl, inr, ℕ, ◌<◌, Bool, true, false, cond, List, [], ◌∷◌, ◌++◌, suc, length, refl, sym, ap, ◌∙◌, subst, arith, Option, Some, None, All, unwrap_or, IfSome, option_and_then}
use Rattle.std.specs.Prelude.{slice_get, slice_set, option_map, nat_eq, nat_lt}
use Rattle.std.proofs.lemmas.Bool.Decides.{nat_tests}
use Rattle.std.proofs.lemmas.List.Elements.{All-map}
use Rattle.std.proofs.lemmas.Option.{slice_get_cases, slice_get-map}
use Rattle.rt_base.specs.Script.{Script, TaskLine, LockLine, lock_line, IsLockOf, IsMutex, IsSpin, HasReaders, IsReaderLock, IsLocal, IsCellOf, IsCallOf, IsScript}
use Rattle.rt_base.specs.declared.call.Call.{Call}
use Rattle.rt_base.specs.declared.call.Call.TheVariants as calls
use Rattle.rt_base.specs.declared.id.Cpu.{Cpu}
use Rattle.rt_base.specs.declared.id.LockId.{LockId}
use Rattle.rt_base.specs.declared.id.TaskId.{TaskId}
use Rattle.rt_base.specs.declared.kind.Kind.{Kind}
use Rattle.rt_base.specs.declared.kind.Kind.TheVariants as kinds
use Rattle.rt_base.specs.declared.reply.Reply.{Reply}
use Rattle.rt_base.specs.declared.reply.Reply.TheVariants as replies
use Rattle.rt_model.specs.declared.event.Event.{Event}
use Rattle.rt_model.specs.declared.hold.Hold.{Hold}
use Rattle.rt_model.specs.Parts.{ThreadPart, cell, made_on, call_of, hold_of}
use Rattle.rt_model.specs.State.{State, shared, start, fresh_thread, kinds_in, thread_part, task_part}
use Rattle.rt_model.specs.Choice.{called_lock, present_lock}
use Rattle.rt_model.specs.StateAfter.{shared_after, state_after}
use Rattle.rt_model.specs.steps.Thread.{holds_after, cpu_after, answered_with}
use Rattle.rt_model.specs.laws.Cells.{IsCellOn, CellsLaw}
use Rattle.rt_model.specs.laws.Lawful.{IsLawful}
use Rattle.rt_model.specs.laws.Shape.{IsOf}
use Rattle.rt_model.specs.laws.Phases.{PhasesLaw}
use Rattle.rt_model.specs.NextEvent.{answered_or, event_in, event_of, next_event}
use Rattle.rt_model.specs.events.Own.{or_moved, own_event}
use Rattle.rt_model.specs.CallKinds.{IsPhaseOf, MovesWithin}
use Rattle.rt_model.specs.Run.{after, IsRun}
use Rattle.rt_model.specs.Effect.{around}
use Rattle.rt_model.specs.Rules.{touched}
use Rattle.rt_model.specs.declared.phase.Phase.{Phase}
use Rattle.rt_model.specs.declared.phase.Phase.TheVariants as phases
use Rattle.rt_model.specs.declared.phase.Route.TheVariants.{Full, Short}
use Rattle.rt_model.proofs.Starts.{moves_in, IsOf-start, IsLawful-start}
use Rattle.rt_model.specs.laws.Queued.{awaited_in}
use Rattle.rt_model.proofs.Lawful.{IsLawful-next}
use Rattle.rt_model.proofs.Cells.{cell-there}
use Rattle.rt_model.proofs.Calling.{at_call, made-of}
use Rattle.rt_model.proofs.NextEvents.{choice}
use Rattle.rt_model.proofs.Lists.{All-at, All-read, All-made, All-default, read-replicate}
use Rattle.rt_model.proofs.Numbers.{same_lock}
use Rattle.rt_model.proofs.PartsAfter.{read-set_other, thread-phase, thread-made}
use Rattle.rt_model.proofs.Prefixes.{run-lawful, next-task, run-prefix}
use Rattle.rt_model.proofs.laws.Calls.{calls-of}
use Rattle.rt_model.proofs.laws.Migration.{cell-counts, holds-long}
use Rattle.rt_model.proofs.laws.Shape.{GoesTo, stays, moves, thread-keeps, made-moves, IsOf-after, IsOf-threads}

-- ---- a hold that is new is of the call's lock

set-newly : (thread : ThreadPart) (m l : LockId) (hold : Hold) → (hold_of (record thread { holds = slice_set thread.holds m.0 hold }) l).owns ≡ true → ((hold_of thread l).owns ≡ true) ⊎ (m ≡ l)
set-newly thread m l hold owns = by_test (nat_eq m.0 l.0) refl
  where
    by_test : (b : Bool) → nat_eq m.0 l.0 ≡ b → ((hold_of thread l).owns ≡ true) ⊎ (m ≡ l)
    by_test true same = inr (same_lock m l same)
    by_test false other = inl (sym (ap (λ (h : Hold). h.owns) (read-set_other thread.holds m.0 l.0 hold (record { owns = false; reads = 0 }) other)) ∙ owns)

holds-newly : (thread : ThreadPart) (call : Call) (answer : Reply) (l : LockId) → (hold_of (record thread { holds = holds_after thread (Some call) answer }) l).owns ≡ true → ((hold_of thread l).owns ≡ true) ⊎ (called_lock call ≡ Some l)
holds-newly thread call answer l = by_call call answer
  where
    set : (m : LockId) (hold : Hold) → (hold_of (record thread { holds = slice_set thread.holds m.0 hold }) l).owns ≡ true → ((hold_of thread l).owns ≡ true) ⊎ (Some m ≡ Some l)
    set m hold owns = elim (set-newly thread m l hold owns) [ inl before ↦ inl before | inr same ↦ inr (ap Some same) ]

    by_call : (c : Call) (a : Reply) → (hold_of (record thread { holds = holds_after thread (Some c) a }) l).owns ≡ true → ((hold_of thread l).owns ≡ true) ⊎ (called_lock c ≡ Some l)
    by_call (calls.Lock m) replies.Got owns = set m _ owns
    by_call (calls.LockInt m) replies.Got owns = set m _ owns
    by_call (calls.TryLock m) replies.Got owns = set m _ owns
    by_call (calls.Unlock m) replies.Done owns = set m _ owns
    by_call (calls.Spin m) replies.Got owns = set m _ owns
    by_call (calls.TrySpin m) replies.Got owns = set m _ owns
    by_call (calls.Unspin m) replies.Done owns = set m _ owns
    by_call (calls.Read m) replies.Got owns = set m _ owns
    by_call (calls.TryRead m) replies.Got owns = set m _ owns
    by_call (calls.Unread m) replies.Done owns = set m _ owns
    by_call (calls.Write m) replies.Got owns = set m _ owns
    by_call (calls.TryWrite m) replies.Got owns = set m _ owns
    by_call (calls.Unwrite m) replies.Done owns = set m _ owns
    by_call (calls.Downgrade m) replies.Done owns = set m _ owns
    by_call (calls.Local m) replies.Got owns = set m _ owns
    by_call (calls.Unlocal m) replies.Done owns = set m _ owns
    by_call _ _ owns = inl owns

-- ---- the lock of a call is no cell but that of its processor

-- only a local lock has cells
cell-kind : (script : Script) → IsScript script → (l : LockId) (cpu : Cpu) → IsCellOn script l cpu → (line : LockLine) × (slice_get script.locks l.0 ≡ Some line) × (line.kind ≡ kinds.Local)
cell-kind script valid l cpu on = elim (slice_get_cases script.locks l.0).1 [
  | inl here ↦
      let cell : here.0.cell ≡ Some cpu = ap (λ (o : Option LockLine). (unwrap_or o no_line).cell) (sym here.2) ∙ on in
      (here.0, here.2, local here.0.kind (subst (λ (c : Option Cpu). IsCellOf script.cpus here.0.kind c) cell (All-at (λ (line : LockLine). IsCellOf script.cpus line.kind line.cell) script.locks l.0 here.0 (λ i d lt. (valid.each_lock i d lt).cell) here.2)))
  | inr past ↦ let none : no_line.cell ≡ Some cpu = ap (λ (o : Option LockLine). (unwrap_or o no_line).cell) (sym past.1) ∙ on in cc
]
  where
    no_line : LockLine
    no_line = record { name = []; kind = kinds.Mutex; cell = None }

    local : (kind : Kind) → IsCellOf script.cpus kind (Some cpu) → kind ≡ kinds.Local
    local kinds.Local is = refl
    local kinds.Mutex is = cc
    local kinds.Spin is = cc
    local kinds.RwLock is = cc
    local kinds.RwSem is = cc

-- so a lock of another kind has none
no_cell : (script : Script) → IsScript script → (fits : LockLine → Type 0) (m l : LockId) (cpu : Cpu) → IsLockOf script fits m → ((line : LockLine) → fits line → line.kind ≡ kinds.Local → ⊥) → Some m ≡ Some l → IsCellOn script l cpu → ⊥
no_cell script valid fits m l cpu is other same on =
    let one : m ≡ l = cc in
    let cell = cell-kind script valid m cpu (subst (λ (k : LockId). IsCellOn script k cpu) (sym one) on) in
    let line : fits cell.0 = rw cell.1 at is in
    other cell.0 line cell.2

readers-other : (line : LockLine) → IsReaderLock line → line.kind ≡ kinds.Local → ⊥
readers-other line is local = subst HasReaders local is

-- and a local lock's cell is that of the processor
own_cell : (script : Script) → IsScript script → (base l : LockId) (at cpu : Cpu) → IsLockOf script IsLocal base → at.0 < script.cpus → Some (cell base at) ≡ Some l → IsCellOn script l cpu → at ≡ cpu
own_cell script valid base l at cpu is lt same on =
    let one : cell base at ≡ l = cc in
    let there = cell-there script valid base at is lt in
    let named : (lock_line script (cell base at)).cell ≡ Some at = rw there.at there.cell in
    let both : Some at ≡ Some cpu = sym named ∙ subst (λ (k : LockId). IsCellOn script k cpu) (sym one) on in cc

call-cell : (script : Script) → IsScript script → (call : Call) → IsCallOf script call → (at : Cpu) → at.0 < script.cpus → (l : LockId) (cpu : Cpu) → called_lock (made_on at call) ≡ Some l → IsCellOn script l cpu → at ≡ cpu
call-cell script valid (calls.Lock m) is at lt l cpu called on = absurd (no_cell script valid IsMutex m l cpu is (λ line mutex local. cc) called on)
call-cell script valid (calls.LockInt m) is at lt l cpu called on = absurd (no_cell script valid IsMutex m l cpu is (λ line mutex local. cc) called on)
call-cell script valid (calls.TryLock m) is at lt l cpu called on = absurd (no_cell script valid IsMutex m l cpu is (λ line mutex local. cc) called on)
call-cell script valid (calls.Unlock m) is at lt l cpu called on = absurd (no_cell script valid IsMutex m l cpu is (λ line mutex local. cc) called on)
call-cell script valid (calls.Spin m) is at lt l cpu called on = absurd (no_cell script valid IsSpin m l cpu is (λ line spin local. cc) called on)
call-cell script valid (calls.TrySpin m) is at lt l cpu called on = absurd (no_cell script valid IsSpin m l cpu is (λ line spin local. cc) called on)
call-cell script valid (calls.Unspin m) is at lt l cpu called on = absurd (no_cell script valid IsSpin m l cpu is (λ line spin local. cc) called on)
call-cell script valid (calls.Read m) is at lt l cpu called on = absurd (no_cell script valid IsReaderLock m l cpu is readers-other called on)
call-cell script valid (calls.TryRead m) is at lt l cpu called on = absurd (no_cell script valid IsReaderLock m l cpu is readers-other called on)
call-cell script valid (calls.Unread m) is at lt l cpu called on = absurd (no_cell script valid IsReaderLock m l cpu is readers-other called on)
call-cell script valid (calls.Write m) is at lt l cpu called on = absurd (no_cell script valid IsReaderLock m l cpu is readers-other called on)
call-cell script valid (calls.TryWrite m) is at lt l cpu called on = absurd (no_cell script valid IsReaderLock m l cpu is readers-other called on)
call-cell script valid (calls.Unwrite m) is at lt l cpu called on = absurd (no_cell script valid IsReaderLock m l cpu is readers-other called on)
call-cell script valid (calls.Downgrade m) is at lt l cpu called on = absurd (no_cell script valid IsReaderLock m l cpu is readers-other called on)
call-cell script valid (calls.Local base) is at lt l cpu called on = own_cell script valid base l at cpu is lt called on
call-cell script valid (calls.Unlocal base) is at lt l cpu called on = own_cell script valid base l at cpu is lt called on
call-cell script valid (calls.State state) is at lt l cpu called on = cc
call-cell script valid calls.Schedule is at lt l cpu called on = cc
call-cell script valid (calls.Wake u) is at lt l cpu called on = cc
call-cell script valid (calls.Signal u) is at lt l cpu called on = cc
call-cell script valid (calls.SetPrio u prio) is at lt l cpu called on = cc
call-cell script valid (calls.Move to) is at lt l cpu called on = cc

-- ---- a `move` is done only where nothing is counted

moves-unpinned : (s : State) (t : TaskId) (e : Event) (to : Cpu) → PhasesLaw s → next_event s t ≡ Some e → call_of (thread_part s t) ≡ Some (calls.Move to) → e.reply ≡ Some replies.Done → (thread_part s t).migration ≡ 0
moves-unpinned s t e to phased is calling done =
    by_phase (thread_part s t).phase (subst (IsPhaseOf (thread_part s t).phase) calling (phased t)) (subst (λ (c : Option Call). event_of (shared s) t (thread_part s t) c ≡ Some e) calling is)
  where
    thread : ThreadPart
    thread = thread_part s t

    by_test : (b : Bool) → nat_lt 0 thread.migration ≡ b → answered_or None t None (or_moved (calls.Move to) (cond b (Some replies.Pinned) None)) ≡ Some e → thread.migration ≡ 0
    by_test true some is = let event : own_event t None replies.Pinned ≡ e = cc in let other : Some replies.Pinned ≡ Some replies.Done = ap (λ (x : Event). x.reply) event ∙ done in cc
    by_test false none is = grind (arith, nat_tests)

    by_phase : (p : Phase) → IsPhaseOf p (Some (calls.Move to)) → event_in p (shared s) t thread (calls.Move to) ≡ Some e → thread.migration ≡ 0
    by_phase phases.Start fits is = by_test (nat_lt 0 thread.migration) refl is
    by_phase (phases.Walk u (Full path)) fits is = cc
    by_phase (phases.Walk u (Short answer)) fits is = absurd fits
    by_phase phases.Inner fits is = cc
    by_phase phases.Slow fits is = cc
    by_phase phases.Wait fits is = cc
    by_phase (phases.Confirm path) fits is = cc
    by_phase phases.ReadIn fits is = cc
    by_phase phases.Unbias fits is = cc
    by_phase phases.WTry fits is = cc
    by_phase phases.WWait fits is = cc
    by_phase phases.Release fits is = cc
    by_phase phases.WakeWriter fits is = cc

-- any other answer leaves the processor
cpu-stays : (call : Call) (answer : Reply) (cpu : Cpu) → ((to : Cpu) → call ≡ calls.Move to → answer ≡ replies.Done → ⊥) → cpu_after (Some call) answer cpu ≡ cpu
cpu-stays (calls.Move to) replies.Done cpu other = absurd (other to refl refl)
cpu-stays _ _ cpu other = refl

-- ---- the law

-- a thread of a state of the script makes calls of the script
module _ (script : Script) (valid : IsScript script) (s : State) (of : IsOf script s) (t : TaskId) (lt : t.0 < length s.threads) where
  calls-fit : All (IsCallOf script) (thread_part s t).calls
  calls-fit =
      let there : t.0 < length script.tasks = subst (λ (n : ℕ). t.0 < n) (IsOf-threads script s of) lt in
      subst (All (IsCallOf script)) (sym (calls-of script s t of there lt))
      (All-default (λ (x : TaskLine). All (IsCallOf script) x.calls) script.tasks t.0 _ (λ i d less. (valid.each_task i d less).calls) there)

  called-cell : (thread_part s t).cpu.0 < script.cpus → (l : LockId) (call : Call) (cpu : Cpu) → call_of (thread_part s t) ≡ Some call → called_lock call ≡ Some l → IsCellOn script l cpu → (thread_part s t).cpu ≡ cpu
  called-cell on l call cpu calling called cell =
      let made = made-of (thread_part s t) call calling in
      call-cell script valid made.listed (All-at (IsCallOf script) (thread_part s t).calls (thread_part s t).answered made.listed calls-fit made.at) (thread_part s t).cpu on l cpu
      (subst (λ (c : Call). called_lock c ≡ Some l) made.made called) cell

  -- who is at a call for a cell is on its processor
  called-on : (thread_part s t).cpu.0 < script.cpus → (l : LockId) → call_of (thread_part s t) ≡ Some (calls.Local l) → IsCellOn script l (thread_part s t).cpu
  called-on on l calling =
      let made = made-of (thread_part s t) (calls.Local l) calling in
      by_listed made.listed (All-at (IsCallOf script) (thread_part s t).calls (thread_part s t).answered made.listed calls-fit made.at) made.made
    where
      by_listed : (c : Call) → IsCallOf script c → calls.Local l ≡ made_on (thread_part s t).cpu c → IsCellOn script l (thread_part s t).cpu
      by_listed (calls.Local base) is same =
          let one : l ≡ cell base (thread_part s t).cpu = cc in
          let there = cell-there script valid base (thread_part s t).cpu is on in
          subst (λ (k : LockId). IsCellOn script k (thread_part s t).cpu) (sym one) (rw there.at there.cell)
      by_listed (calls.Lock m) is same = cc
      by_listed (calls.LockInt m) is same = cc
      by_listed (calls.TryLock m) is same = cc
      by_listed (calls.Unlock m) is same = cc
      by_listed (calls.Spin m) is same = cc
      by_listed (calls.TrySpin m) is same = cc
      by_listed (calls.Unspin m) is same = cc
      by_listed (calls.Read m) is same = cc
      by_listed (calls.TryRead m) is same = cc
      by_listed (calls.Unread m) is same = cc
      by_listed (calls.Write m) is same = cc
      by_listed (calls.TryWrite m) is same = cc
      by_listed (calls.Unwrite m) is same = cc
      by_listed (calls.Downgrade m) is same = cc
      by_listed (calls.Unlocal m) is same = cc
      by_listed (calls.State state) is same = cc
      by_listed calls.Schedule is same = cc
      by_listed (calls.Wake u) is same = cc
      by_listed (calls.Signal u) is same = cc
      by_listed (calls.SetPrio u prio) is same = cc
      by_listed (calls.Move to) is same = cc

-- who is queued at a cell is at a call for it, and so on its processor
waits-on : (script : Script) → IsScript script → (s : State) (made : ℕ) → IsOf script s → IsLawful s made → ((t : TaskId) → t.0 < length s.threads → (thread_part s t).cpu.0 < script.cpus)
    → (t : TaskId) (cpu : Cpu) → IfSome (task_part s t).blocked (λ at. IsCellOn script at.0 cpu → (thread_part s t).cpu ≡ cpu)
waits-on script valid s made of lawful on t cpu = by_blocked (task_part s t).blocked (lawful.queued.blocked t)
  where
    thread : ThreadPart
    thread = thread_part s t

    awaited : (phase : Phase) (lock : Option LockId) (l : LockId) → Some l ≡ awaited_in phase lock → lock ≡ Some l
    awaited phases.Wait lock l is = sym is
    awaited (phases.Walk u (Full path)) lock l is = sym is
    awaited (phases.Confirm path) lock l is = sym is
    awaited (phases.Walk u (Short answer)) lock l is = cc
    awaited _ lock l is = cc

    by_call : (call : Option Call) → call_of thread ≡ call → (l : LockId) → option_and_then called_lock call ≡ Some l → IsCellOn script l cpu → thread.cpu ≡ cpu
    by_call None calling l about cell = cc
    by_call (Some call) calling l about cell = let lt = (at_call s t call calling).1 in called-cell script valid s of t lt (on t lt) l call cpu calling about cell

    by_blocked : (blocked : Option (LockId × ℕ)) → option_map (λ (at : LockId × ℕ). at.0) blocked ≡ awaited_in thread.phase (present_lock thread) → IfSome blocked (λ at. IsCellOn script at.0 cpu → thread.cpu ≡ cpu)
    by_blocked None is = tt
    by_blocked (Some at) is = λ cell. by_call (call_of thread) refl at.0 (awaited thread.phase (present_lock thread) at.0 is) cell

-- a held cell counts
held-pins : (script : Script) → IsScript script → (s : State) (made : ℕ) (t : TaskId) → IsOf script s → IsLawful s made → t.0 < length s.threads → (l : LockId) (cpu : Cpu) → (hold_of (thread_part s t) l).owns ≡ true → IsCellOn script l cpu → 0 < (thread_part s t).migration
held-pins script valid s made t of lawful lt l cpu owns on =
    let line = cell-kind script valid l cpu on in
    let known : (thread_part s t).kinds ≡ kinds_in script = All-default (λ (thread : ThreadPart). thread.kinds ≡ kinds_in script) s.threads t.0 _ of.kinds lt in
    let kind : slice_get (thread_part s t).kinds l.0 ≡ Some kinds.Local = ap (λ (ks : List Kind). slice_get ks l.0) known ∙ (slice_get-map (λ (x : LockLine). x.kind) script.locks l.0 ∙ (ap (option_map (λ (x : LockLine). x.kind)) line.1 ∙ ap Some line.2)) in
    let two = cell-counts (thread_part s t) (holds-long s made t lawful lt) l kind owns in
    let law = lawful.migration t in omega (arith, two, law)

module _ (script : Script) (valid : IsScript script) (s : State) (made : ℕ) (e : Event) (of : IsOf script s) (lawful : IsLawful s made) (is : next_event s e.task ≡ Some e) (law : CellsLaw script s) where
  abbrev thread : ThreadPart
  thread = thread_part s e.task

  there : e.task.0 < length s.threads
  there = next-task s e.task e is

  abbrev Held : ThreadPart → Type 0
  Held th = (l : LockId) (cpu : Cpu) → (hold_of th l).owns ≡ true → IsCellOn script l cpu → th.cpu ≡ cpu

  replied : (call : Call) → call_of thread ≡ Some call → (phase : Phase) (count : ℕ) (reply : Option Reply) → e.reply ≡ reply → Held (answered_with (record thread { phase = phase; migration = count }) reply)
  replied call calling phase count None told l cpu owns on = law.held e.task l cpu owns on
  replied call calling phase count (Some answer) told l cpu owns on = (stands ∙ same)
    where
      left : ThreadPart
      left = record thread { phase = phase; migration = count }

      newly : ((hold_of thread l).owns ≡ true) ⊎ (called_lock call ≡ Some l)
      newly = holds-newly left call answer l (subst (λ (c : Option Call). (hold_of (record left { holds = holds_after left c answer }) l).owns ≡ true) calling owns)

      same : thread.cpu ≡ cpu
      same = elim newly [ inl before ↦ law.held e.task l cpu before on | inr called ↦ called-cell script valid s of e.task there (law.on e.task there) l call cpu calling called on ]

      unmoved : (to : Cpu) → call ≡ calls.Move to → answer ≡ replies.Done → ⊥
      unmoved to moving done = elim newly [
        | inl before ↦
            let some = held-pins script valid s made e.task of lawful there l cpu before on in
            let none = moves-unpinned s e.task e to lawful.phases is (calling ∙ ap Some moving) (told ∙ ap Some done) in
            absurd (omega (arith, some, none))
        | inr called ↦ let never : None ≡ Some l = sym (ap called_lock moving) ∙ called in cc
      ]

      stands : cpu_after (call_of thread) answer thread.cpu ≡ thread.cpu
      stands = ap (λ (c : Option Call). cpu_after c answer thread.cpu) calling ∙ cpu-stays call answer thread.cpu unmoved

  -- every thread's call is one of the state's
  calling : (call : Call) × (call_of thread ≡ Some call)
  calling = by_call (call_of thread) refl is
    where
      by_call : (call : Option Call) → call_of thread ≡ call → event_of (shared s) e.task thread call ≡ Some e → (call : Call) × (call_of thread ≡ Some call)
      by_call None none is = cc
      by_call (Some call) some is = (call, some)

  held-after : (u : TaskId) → Held (thread_part (state_after s e) u)
  held-after u =
      let left = around (shared_after (shared s) thread e) (touched e.kind e) in
      let moved = thread-phase e.kind e thread (around (shared s) (touched e.kind e)) left thread in
      thread-made (λ v th. Held th) s e e u refl there
      (subst (λ (x : ThreadPart). Held (answered_with x e.reply)) (sym moved) (replied calling.0 calling.1 _ _ e.reply refl)) (λ other. law.held u)

  on-after : (u : TaskId) → u.0 < length s.threads → (thread_part (state_after s e) u).cpu.0 < script.cpus
  on-after u lt =
      thread-made (λ v th. v.0 < length s.threads → th.cpu.0 < script.cpus) s e e u refl there
      (λ own. goes (thread-keeps (shared s) thread e).cpu) (λ other. law.on u) lt
    where
      goes : {cpu : Cpu} → GoesTo thread cpu → cpu.0 < script.cpus
      goes (stays same) = subst (λ (cpu : Cpu). cpu.0 < script.cpus) (sym same) (law.on e.task there)
      goes (moves to calling same) =
          let made = made-of thread (calls.Move to) calling in
          let fits = All-at (IsCallOf script) thread.calls thread.answered made.listed (calls-fit script valid s of e.task there) made.at in
          subst (λ (cpu : Cpu). cpu.0 < script.cpus) (sym same) (by_listed made.listed fits made.made)
        where
          by_listed : (c : Call) → IsCallOf script c → calls.Move to ≡ made_on thread.cpu c → to.0 < script.cpus
          by_listed c fits same = let within : MovesWithin script.cpus (made_on thread.cpu c) = made-moves script.cpus thread.cpu c (moves_in script c fits) in subst (MovesWithin script.cpus) (sym same) within

  pub CellsLaw-next : CellsLaw script (state_after s e)
  CellsLaw-next =
      let after : IsOf script (state_after s e) = IsOf-after script s e there of in
      let long : length (state_after s e).threads ≡ length s.threads = IsOf-threads script (state_after s e) after ∙ sym (IsOf-threads script s of) in
      let on : (u : TaskId) → u.0 < length (state_after s e).threads → (thread_part (state_after s e) u).cpu.0 < script.cpus = λ u lt. on-after u (subst (λ (n : ℕ). u.0 < n) long lt) in
      record {
        on = on;
        held = held-after;
        waits = waits-on script valid (state_after s e) (suc made) after (IsLawful-next s made e.task e lawful (choice s e.task e lawful.calls lawful.phases is)) on;
        called = λ u l calling. let lt = (at_call (state_after s e) u (calls.Local l) calling).1 in called-on script valid (state_after s e) after u lt (on u lt) l calling;
      }

-- ---- along a run

pub cells-start : (script : Script) → IsScript script → CellsLaw script (start script)
cells-start script valid = record { on = on; held = λ t l cpu owns is. absurd (nothing t l owns); waits = waits-on script valid (start script) 0 (IsOf-start script) (IsLawful-start script valid) on; called = λ t l calling. let lt = (at_call (start script) t (calls.Local l) calling).1 in called-on script valid (start script) (IsOf-start script) t lt (on t lt) l calling }
  where
    fresh : TaskLine → ThreadPart
    fresh line = fresh_thread (kinds_in script) line.calls line.cpu

    on : (t : TaskId) → t.0 < length (start script).threads → (thread_part (start script) t).cpu.0 < script.cpus
    on t lt =
        All-default (λ (thread : ThreadPart). thread.cpu.0 < script.cpus) (start script).threads t.0 _
        (All-map (λ (thread : ThreadPart). thread.cpu.0 < script.cpus) fresh script.tasks (λ i d less. (valid.each_task i d less).cpu)) lt

    nothing : (t : TaskId) (l : LockId) → (hold_of (thread_part (start script) t) l).owns ≡ true → ⊥
    nothing t l owns =
        let none : (hold_of (thread_part (start script) t) l).owns ≡ false =
        All-read (λ (thread : ThreadPart). (hold_of thread l).owns ≡ false) (start script).threads t.0 _ (All-made (λ (thread : ThreadPart). (hold_of thread l).owns ≡ false) fresh (λ line. ap (λ (h : Hold). h.owns) (read-replicate (length (kinds_in script)) l.0 (record { owns = false; reads = 0 }))) script.tasks) refl in
        cc

cells-along : (script : Script) → IsScript script → (s : State) (made : ℕ) (events : List Event) → IsOf script s → IsLawful s made → CellsLaw script s → IsRun s events → CellsLaw script (after s events)
cells-along script valid s made [] of lawful law run = law
cells-along script valid s made (e ∷ events) of lawful law run =
    cells-along script valid (state_after s e) (suc made) events (IsOf-after script s e (next-task s e.task e run.0) of) (run-lawful s made e events lawful run) (CellsLaw-next script valid s made e of lawful run.0 law) run.1

-- so it holds after every prefix of a script's run
pub cells-sound : (script : Script) (events : List Event) → IsScript script → IsRun (start script) events → (prefix rest : List Event) → prefix ++ rest ≡ events → CellsLaw script (after (start script) prefix)
cells-sound script events valid run prefix rest is =
    cells-along script valid (start script) 0 prefix (IsOf-start script) (IsLawful-start script valid) (cells-start script valid) (run-prefix (start script) prefix rest (subst (IsRun (start script)) (sym is) run))
