use Rattle.std.proofs.Common.{◌≡◌, inl, inr, true, false, refl}
use Rattle.rt_check.specs.Place.{at_event}
use Rattle.rt_check.specs.MayStand.{no_line, other_event, other_end}
use Rattle.rt_check.proofs.events.why_not_due.Goals as goal

pub returns-then-is_end_line : goal.returns-then-is_end_line
returns-then-is_end_line c = λ events. other_end events (c.if-is_end_line.ensures.0 refl)

pub returns-in-Ok : goal.returns-in-Ok
returns-in-Ok c = λ events. other_event events (c.in-Ok.field-0, c.in-Ok.ensures.ok)

pub returns-in-Err : goal.returns-in-Err
returns-in-Err c = λ events. no_line (at_event events) (λ may. elim may [
  | inl n ↦ c.in-Err.ensures.bad n.0 n.1
  | inr ended ↦ let is : false ≡ true = c.if-is_end_line.ensures.1 ended in absurd cc
])
