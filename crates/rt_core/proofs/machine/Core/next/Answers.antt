use Rattle.std.proofs.Common.{◌≡◌, ◌<◌, ◌^◌, ◌∙◌, ℕ, ap, sym, subst, length, Option, Some, None, IfSome}
use Rattle.rt_base.specs.Script.{Script}
use Rattle.rt_base.specs.declared.id.TaskId.{TaskId}
use Rattle.rt_model.specs.declared.event.Event.{Event}
use Rattle.rt_model.specs.Parts.{ThreadPart, call_of}
use Rattle.rt_model.specs.CallKinds.{IsServed}
use Rattle.rt_model.specs.State.{State, shared, thread_part}
use Rattle.rt_model.specs.declared.phase.Phase.TheVariants.{Confirm}
use Rattle.rt_model.specs.NextEvent.{next_of, next_event}
use Rattle.rt_model.specs.Path.{first_broken}
use Rattle.rt_model.specs.events.Walk.{confirmed_event}
use Rattle.rt_model.specs.laws.Shape.{IsOf, IsWithin}
use Rattle.rt_model.specs.laws.Lawful.{IsLawful}
use Rattle.rt_model.specs.laws.Local.{AgreeOn}
use Rattle.rt_model.proofs.NextEvents.{choice}
use Rattle.rt_model.proofs.Local.{task-next_event, local, none}
use Rattle.rt_model.proofs.Named.{within}
use Rattle.rt_events.specs.Entry.{entry}
use Rattle.rt_events.specs.WellFormed.{IsWellFormed}
use Rattle.rt_core.specs.Core.{Made, with_threads}
use Rattle.rt_choice.specs.Walking.{FindsCursor}
use Rattle.rt_core.proofs.Choosing.{served-here, path-here, cursor-here, confirmed-next}
use Rattle.rt_core.proofs.Boosts.{boost-within}
use Rattle.rt_core.proofs.EntryWellFormed.{well_formed}
use Rattle.rt_core.proofs.machine.Core.next.Goals.{After-event_of, After-confirmed_event}
use Rattle.rt_core.proofs.machine.Core.next.Goals as goal

own_task : (s : State) (t : TaskId) (e : Option Event) → e ≡ next_event s t → IfSome e (λ (e : Event). e.task ≡ t)
own_task s t None is = tt
own_task s t (Some e) is = task-next_event s t e (sym is)

names_within : (s : State) (made : ℕ) (t : TaskId) (e : Option Event) → IsLawful s made → e ≡ next_event s t → IfSome e (IsWithin (length s.threads) (length s.locks))
names_within s made t None lawful is = tt
names_within s made t (Some e) lawful is = within s made t e lawful (choice s t e lawful.calls lawful.phases (sym is))

stays_next : (s : State) (t : TaskId) (e : Option Event) → e ≡ next_event s t → IfSome e (λ e. (other : State) → AgreeOn e s other → next_event other t ≡ Some e)
stays_next s t None is = tt
stays_next s t (Some e) is = λ other agree. local s other t e (sym is) agree

tells : (s : State) (made : ℕ) (t : TaskId) (e : Option Event) → IsLawful s made → e ≡ next_event s t
    → IfSome e (λ e. (script : Script) (number : ℕ) → IsOf script s → number < 2 ^ 64 → IsWellFormed script (entry number e))
tells s made t None lawful is = tt
tells s made t (Some e) lawful is = λ script number of few. let next = choice s t e lawful.calls lawful.phases (sym is) in well_formed script number s made t e of few lawful next (boost-within s made t e lawful next)

pub next_of-requires-clause-served : goal.next_of-requires-clause-served
next_of-requires-clause-served c =
    let s = with_threads c.self.inside.shared c.self.inside.threads.items in
    let at : thread_part s c.args.t ≡ c.thread-thread.result.now = ap (λ (m : Made). thread_part m.state c.args.t) c.self.view_is ∙ sym c.thread-thread.ensures.part in
    subst (λ (th : ThreadPart). IfSome (call_of th) (IsServed (length s.tasks) (length s.locks))) at (served-here s c.self.inside.made c.args.t c.self.invariant.0)

pub next_of-requires-clause-cursor : goal.next_of-requires-clause-cursor
next_of-requires-clause-cursor c =
    let s = with_threads c.self.inside.shared c.self.inside.threads.items in
    let at : thread_part s c.args.t ≡ c.thread-thread.result.now = ap (λ (m : Made). thread_part m.state c.args.t) c.self.view_is ∙ sym c.thread-thread.ensures.part in
    subst (λ (th : ThreadPart). FindsCursor c.self.inside.shared th.phase) at (cursor-here s c.self.inside.made c.args.t c.self.invariant.0)

pub confirmed_event-requires : goal.confirmed_event-requires
confirmed_event-requires c =
    let s = with_threads c.self.inside.shared c.self.inside.threads.items in
    let at : thread_part s c.args.t ≡ c.thread-thread.result.now = ap (λ (m : Made). thread_part m.state c.args.t) c.self.view_is ∙ sym c.thread-thread.ensures.part in
    path-here s c.self.inside.made c.args.t c.self.invariant.0 c.in-Confirm.path (ap (λ (th : ThreadPart). th.phase) at ∙ (sym c.phase.ensures ∙ c.in-Confirm.is))

-- the event that was chosen
event : (c : After-event_of) → c.event_of.result ≡ next_event c.args.self.now.state c.args.t
event c = c.event_of.ensures ∙ (c.next_of.ensures ∙ (λ i. next_of (shared (c.self.view_is i).state) c.args.t (c.thread-thread.ensures.part i)))

pub returns-clause-event : goal.returns-clause-event
returns-clause-event c = event (goal.at.returns-clause-event c).After-event_of

pub returns-clause-task : goal.returns-clause-task
returns-clause-task c = own_task c.args.self.now.state c.args.t c.event_of.result (event (goal.at.returns-clause-task c).After-event_of)

pub returns-clause-within : goal.returns-clause-within
returns-clause-within c = names_within c.args.self.now.state c.args.self.now.made c.args.t c.event_of.result c.thread-thread.ensures.lawful (event (goal.at.returns-clause-within c).After-event_of)

pub returns-clause-told : goal.returns-clause-told
returns-clause-told c = tells c.args.self.now.state c.args.self.now.made c.args.t c.event_of.result c.thread-thread.ensures.lawful (event (goal.at.returns-clause-told c).After-event_of)

pub returns-clause-local : goal.returns-clause-local
returns-clause-local c = stays_next c.args.self.now.state c.args.t c.event_of.result (event (goal.at.returns-clause-local c).After-event_of)

pub returns-clause-none : goal.returns-clause-none
returns-clause-none c = λ is s thread task. none c.args.self.now.state s c.args.t (sym (event (goal.at.returns-clause-none c).After-event_of) ∙ is) thread task

-- where a path is to be confirmed
confirmed : (c : After-confirmed_event) → c.confirmed_event.result ≡ next_event c.args.self.now.state c.args.t
confirmed c =
    let path = c.in-Confirm.path in
    let phase : (thread_part c.args.self.now.state c.args.t).phase ≡ Confirm path = ap (λ (th : ThreadPart). th.phase) (sym c.thread-thread.ensures.part) ∙ (sym c.phase.ensures ∙ c.in-Confirm.is) in
    c.confirmed_event.ensures
    ∙ (ap (λ (m : Made). Some (confirmed_event (shared m.state) c.args.t path (first_broken (shared m.state) path))) c.self.view_is
    ∙ sym (confirmed-next c.args.self.now.state c.args.t path c.thread-thread.ensures.lawful.phases phase))

pub returns-in-Confirm-clause-event : goal.returns-in-Confirm-clause-event
returns-in-Confirm-clause-event c = confirmed c

pub returns-in-Confirm-clause-task : goal.returns-in-Confirm-clause-task
returns-in-Confirm-clause-task c = own_task c.args.self.now.state c.args.t c.confirmed_event.result (confirmed (goal.at.returns-in-Confirm-clause-task c).After-confirmed_event)

pub returns-in-Confirm-clause-within : goal.returns-in-Confirm-clause-within
returns-in-Confirm-clause-within c =
    names_within c.args.self.now.state c.args.self.now.made c.args.t c.confirmed_event.result c.thread-thread.ensures.lawful (confirmed (goal.at.returns-in-Confirm-clause-within c).After-confirmed_event)

pub returns-in-Confirm-clause-told : goal.returns-in-Confirm-clause-told
returns-in-Confirm-clause-told c =
    tells c.args.self.now.state c.args.self.now.made c.args.t c.confirmed_event.result c.thread-thread.ensures.lawful (confirmed (goal.at.returns-in-Confirm-clause-told c).After-confirmed_event)

pub returns-in-Confirm-clause-local : goal.returns-in-Confirm-clause-local
returns-in-Confirm-clause-local c = stays_next c.args.self.now.state c.args.t c.confirmed_event.result (confirmed (goal.at.returns-in-Confirm-clause-local c).After-confirmed_event)

pub returns-in-Confirm-clause-none : goal.returns-in-Confirm-clause-none
returns-in-Confirm-clause-none c =
    λ is s thread task. none c.args.self.now.state s c.args.t (sym (confirmed (goal.at.returns-in-Confirm-clause-none c).After-confirmed_event) ∙ is) thread task
