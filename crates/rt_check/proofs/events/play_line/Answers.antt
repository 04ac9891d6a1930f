use Rattle.std.proofs.Common.{◌+◌, ◌<◌, ℕ, Option, IfSome, arith, subst}
use Rattle.std.specs.Prelude.{◌^◌}
use Rattle.rt_model.specs.declared.event.Event.{Event}
use Rattle.rt_events.specs.Entry.{entry}
use Rattle.rt_events.specs.WellFormed.{IsWellFormed}
use Rattle.rt_check.proofs.events.play_line.Goals as goal

pub after_line-requires-clause-entry : goal.after_line-requires-clause-entry
after_line-requires-clause-entry c =
    subst (λ (o : Option Event). IfSome o (λ e. (number : ℕ) → number < 2 ^ 64 → IsWellFormed c.args.script.now (entry number e))) c.in-Some.is c.named_event-next.ensures.told (c.args.core.now.made + 1) (omega (arith, c.requires.made))
