use Rattle.std.proofs.Common.{sym}
use Rattle.rt_script.proofs.CallFits.{IsCallOf-call_on}
use Rattle.rt_script.proofs.OwnNames.{first_needed}
use Rattle.rt_script.proofs.draft.Draft.lock_call.Goals as goal

pub returns-in-Some-clause-fits : goal.returns-in-Some-clause-fits
returns-in-Some-clause-fits c =
    let valid = rw c.script.ensures at c.locks.ensures.valid in
    let first = first_needed c.args.self.now.script c.args.lock.now c.in_ok-lock.lock valid c.in_ok-lock.ensures.lock in
    IsCallOf-call_on c.args.self.now.script c.in_ok-lock.lock c.args.verb c.in-Some.call valid c.in_ok-lock.ensures.within first (rw (← c.script-2.ensures, ← c.kind.ensures) (sym c.in-Some.ensures))
