use Rattle.std.proofs.Common.{arith}
use Rattle.std.proofs.lemmas.Grind.{common_steps}
use Rattle.rt_script.proofs.Numbers.{digits_upto-past}
use Rattle.rt_script.proofs.numeral.digits.Goals as goal

pub returns-then-number-most : goal.returns-then-number-most
returns-then-number-most c = grind (arith, common_steps, digits_upto-past)
