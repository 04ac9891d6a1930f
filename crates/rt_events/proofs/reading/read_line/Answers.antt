use Rattle.std.proofs.Common.{◌≡◌, ap, ◌∙◌, sym, Some, None}
use Rattle.rt_events.proofs.lines.Chains.{some_is}
use Rattle.rt_events.proofs.lines.WholeLine.{said, read_back}
use Rattle.rt_events.specs.reading.EntryIn.{entry_in}
use Rattle.rt_events.proofs.reading.read_line.Goals as goal

pub returns-in-Some-clause-ok : goal.returns-in-Some-clause-ok
returns-in-Some-clause-ok c = said c.args.script.now c.tasks-valid.ensures.valid c.args.line.now c.in-Some.n (sym c.entry_in.ensures ∙ c.in-Some.is)

pub returns-in-Some-clause-only : goal.returns-in-Some-clause-only
returns-in-Some-clause-only c m of =
    some_is m c.in-Some.n (sym (read_back c.args.script.now c.tasks-valid.ensures.valid m of.1) ∙ ap (entry_in c.args.script.now) of.0 ∙ sym c.entry_in.ensures ∙ c.in-Some.is)

pub returns-in-None-clause-bad : goal.returns-in-None-clause-bad
returns-in-None-clause-bad c m of =
    let e : Some m ≡ None = sym (read_back c.args.script.now c.tasks-valid.ensures.valid m of.1) ∙ ap (entry_in c.args.script.now) of.0 ∙ sym c.entry_in.ensures ∙ c.in-None.is in
    absurd cc
