use Rattle.std.proofs.Common.{◌≡◌, refl, ap, ◌∙◌}
use Rattle.rt_base.specs.declared.call.Call.{Call}
use Rattle.rt_base.specs.declared.id.TaskId.{TaskId}
use Rattle.rt_model.specs.declared.phase.Phase.{Phase}
use Rattle.rt_model.specs.declared.phase.Phase.TheVariants as phases
use Rattle.rt_model.specs.Parts.{ThreadPart}
use Rattle.rt_model.specs.State.{Shared}
use Rattle.rt_model.specs.Choice.{called_lock}
use Rattle.rt_model.specs.NextEvent.{later_event, event_in, event_of}
use Rattle.rt_choice.proofs.next.next_of.Goals as goal

-- a call that isn't in its first phase goes on by that phase
goes_on : (phase : Phase) (sh : Shared) (t : TaskId) (thread : ThreadPart) (call : Call) → (phase ≡ phases.Start → ⊥)
    → later_event phase sh t thread (called_lock call) ≡ event_in phase sh t thread call
goes_on phases.Start sh t thread call later = absurd (later refl)
goes_on _ sh t thread call later = refl

pub returns-in_default : goal.returns-in_default
returns-in_default c =
    let sh = c.args.shared.now in
    let thread = c.args.thread.now in
    let call = c.in_ok-call.call in
    let later = goes_on c.phase.result.now sh c.args.t thread call c.in_default.not-Start in
    let phase = ap (λ (p : Phase). event_in p sh c.args.t thread call) c.phase.ensures in
    c.later_event.ensures ∙ later ∙ phase ∙ ap (event_of sh c.args.t thread) c.in_ok-call.ensures.call
