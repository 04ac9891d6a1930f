use Rattle.std.proofs.Common.{arith}
use Rattle.rt_core.proofs.machine.Core.readers.Goals as goal

pub returns-clause-few : goal.returns-clause-few
returns-clause-few c =
    let lawful = c.self.invariant.0 in
    let counted = lawful.readers.most c.args.l in
    let few = lawful.shape.few_calls in
    rw c.readers.ensures (omega (arith, counted, few))
