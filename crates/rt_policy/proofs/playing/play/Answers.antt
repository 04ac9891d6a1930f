use Rattle.std.proofs.Common.{◌+◌, ◌<◌, ◌^◌, ℕ, IfSome, Option, arith, subst}
use Rattle.rt_base.specs.Script.{Script}
use Rattle.rt_model.specs.declared.event.Event.{Event}
use Rattle.rt_model.specs.laws.Shape.{IsOf}
use Rattle.rt_events.specs.Entry.{entry}
use Rattle.rt_events.specs.WellFormed.{IsWellFormed}
use Rattle.rt_policy.proofs.playing.play.Goals as goal

pub play_event-requires-clause-entry : goal.play_event-requires-clause-entry
play_event-requires-clause-entry g c =
    let told = subst (λ (next : Option Event). IfSome next (λ e. (script : Script) (number : ℕ) → IsOf script c.args.core.now.state → number < 2 ^ 64 → IsWellFormed script (entry number e))) c.in-Some.is c.next.ensures.told in
    told c.args.script.now (c.args.first + c.args.so_far.count) c.requires.script (omega (arith, c.requires.number))
