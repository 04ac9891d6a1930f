use Rattle.std.proofs.Common.{arith}
use Rattle.std.proofs.lemmas.Grind.{common_steps}
use Rattle.rt_script.proofs.Cells.{cells_of-next}
use Rattle.rt_script.proofs.lock.cells_of.Goals as goal

pub loop-k-preserved : goal.loop-k-preserved
loop-k-preserved c = grind (arith, common_steps, cells_of-next)
