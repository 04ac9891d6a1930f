use Rattle.std.proofs.Common.{◌<◌, ◌^◌, ◌∙◌, ℕ, ap, sym, Option, Some, None, IfSome}
use Rattle.rt_base.specs.Script.{Script}
use Rattle.rt_model.specs.declared.event.Event.{Event}
use Rattle.rt_model.specs.State.{State}
use Rattle.rt_model.specs.NextEvent.{next_event}
use Rattle.rt_model.specs.laws.Shape.{IsOf}
use Rattle.rt_events.specs.Entry.{entry}
use Rattle.rt_events.specs.WellFormed.{IsWellFormed}
use Rattle.rt_check.proofs.Reached.{IsReached}
use Rattle.rt_check.proofs.NamedEvents.{second_is, named_is, one_named}
use Rattle.rt_check.proofs.events.named_event.Goals as goal

told : (script : Script) (s : State) (o : Option Event) → IsOf script s → IfSome o (λ e. (script : Script) (number : ℕ) → IsOf script s → number < 2 ^ 64 → IsWellFormed script (entry number e))
    → IfSome o (λ e. (number : ℕ) → number < 2 ^ 64 → IsWellFormed script (entry number e))
told script s None is h = tt
told script s (Some e) is h = λ number small. h script number is small

pub returns-in_err-second_word-clause-only : goal.returns-in_err-second_word-clause-only
returns-in_err-second_word-clause-only c = λ e number more small next is.
    let here : IsReached c.args.script.now c.args.core.now.state = record { is = c.requires.script; made = c.args.core.now.made; lawful = c.tasks.ensures.lawful } in
    let second = second_is c.args.script.now c.tasks-2.ensures.valid c.args.core.now.state here e number more c.args.text.now small next is in
    let none = sym c.in_err-second_word.ensures ∙ second in
    absurd cc

pub returns-in_err-t-clause-only : goal.returns-in_err-t-clause-only
returns-in_err-t-clause-only c = λ e number more small next is.
    let here : IsReached c.args.script.now c.args.core.now.state = record { is = c.requires.script; made = c.args.core.now.made; lawful = c.tasks.ensures.lawful } in
    let named = named_is c.args.script.now c.tasks-2.ensures.valid c.args.core.now.state here e number more c.args.text.now small next is c.in_ok-second_word.field-0.now c.in_ok-second_word.ensures in
    let none = sym c.in_err-t.was ∙ (c.task_called.ensures.task ∙ named) in
    absurd cc

pub returns-clause-told : goal.returns-clause-told
returns-clause-told c = told c.args.script.now c.args.core.now.state c.next.result c.requires.script c.next.ensures.told

pub returns-clause-only : goal.returns-clause-only
returns-clause-only c = λ e number more small next is.
    let here : IsReached c.args.script.now c.args.core.now.state = record { is = c.requires.script; made = c.args.core.now.made; lawful = c.tasks.ensures.lawful } in
    let named = sym c.task_called.ensures.task ∙ c.in_ok-t.was in
    let task = one_named c.args.script.now c.tasks-2.ensures.valid c.args.core.now.state here e number more c.args.text.now small next is c.in_ok-second_word.field-0.now c.in_ok-t.t c.in_ok-second_word.ensures named in
    c.next.ensures.event ∙ (ap (next_event c.args.core.now.state) task ∙ next)
