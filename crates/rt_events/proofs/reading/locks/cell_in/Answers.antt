use Rattle.std.proofs.Common.{◌≤◌, ◌-◌, ap, ◌∙◌, arith, sym}
use Rattle.std.specs.Prelude.{is_some}
use Rattle.rt_events.proofs.lines.NameWords.{cell_there}
use Rattle.rt_events.proofs.reading.locks.cell_in.Goals as goal

pub returns-clause-within : goal.returns-clause-within
returns-clause-within c =
    let some = ap is_some (sym c.cell_of.ensures.cell ∙ c.in_ok-_cell.was) in
    let few : c.in_ok-n.n ≤ c.args.script.now.cpus - 1 = omega (arith, c.in_ok-n.ensures.within, c.cpus.ensures.number) in
    (cell_there c.args.script.now c.cpus.ensures.valid c.args.name.now c.in_ok-l.l (sym c.lock_named.ensures.lock ∙ c.in_ok-l.was) some c.in_ok-n.n few).0
