-- The numbers that tell what is wrong with a line.
use Rattle.std.specs.Prelude.{ℕ}
use Rattle.rt_check.specs.declared.why.Why.{Why}
use Rattle.rt_check.specs.declared.why.Why.TheVariants.{NoLine, OtherEvent, OtherEnd, OtherReport}

abbrev pub why_number : Why → ℕ
why_number NoLine = 1
why_number OtherEvent = 2
why_number OtherEnd = 3
why_number OtherReport = 4
