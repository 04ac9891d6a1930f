use Rattle.std.proofs.Common.{arith}
use Rattle.std.proofs.lemmas.Grind.{common_steps}
use Rattle.rt_script.proofs.Numbers.{number_upto-empty, number_upto-zero, number_upto-digits}
use Rattle.rt_script.proofs.numeral.number.Goals as goal

pub returns-then-is_empty : goal.returns-then-is_empty
returns-then-is_empty c = grind (arith, common_steps, number_upto-empty)

pub returns-then-word-eq48-clause-value : goal.returns-then-word-eq48-clause-value
returns-then-word-eq48-clause-value c = grind (arith, common_steps, number_upto-zero)

pub returns : goal.returns
returns c = grind (arith, common_steps, number_upto-digits)
