use Rattle.std.proofs.Common.{◌∙◌, sym, subst}
use Rattle.rt_top.specs.declared.status.Status.{Status}
use Rattle.rt_top.specs.Answer.{Generates, Output, output_of}
use Rattle.rt_top.proofs.Summed.{IsCounted, generates, generates_part}
use Rattle.rt_top.proofs.generating.generate_and_count.Goals as goal

pub returns-in-Ok-write_whole-clause-outcome : goal.returns-in-Ok-write_whole-clause-outcome
returns-in-Ok-write_whole-clause-outcome g c =
    let output : Output = output_of g.K.Sink.held g.K.Sink.faults c.args.out.now c.write_whole.new.out in
    let e = c.count_replay-counts.ensures in
    let counted : IsCounted c.in-Ok.script c.turns.result c.in-Ok-new.core c.count_replay-counts.new.core.state c.count_replay-counts.result.0 c.count_replay-counts.result.1 =
    record { at_start = c.in-Ok-new.ensures.start; counts = record { kinds = e.kinds; replies = e.replies }; state = e.state; ends_so = e.ended; limit = e.limit } in
    subst (λ (s : Status). Generates s c.args.number c.args.options output) (sym c.of_run.ensures)
    (generates c.args.number c.turns.result c.args.options c.in-Ok.script c.in-Ok-new.core c.count_replay-counts.new.core.state c.count_replay-counts.result.0 c.count_replay-counts.result.1 c.deref.result.now output
    c.in-Ok.ensures.valid c.in-Ok.ensures.script c.turns.ensures.value counted (λ events are. c.deref.ensures.value ∙ c.in-Ok-summary.ensures events are)
    c.in-Ok-write_whole.ensures.whole c.in-Ok-write_whole.ensures.no_fault)

pub returns-clause-outcome : goal.returns-clause-outcome
returns-clause-outcome g c =
    let output : Output = output_of g.K.Sink.held g.K.Sink.faults c.args.out.now c.write_whole.new.out in
    let e = c.count_replay-counts.ensures in
    let counted : IsCounted c.in-Ok.script c.turns.result c.in-Ok-new.core c.count_replay-counts.new.core.state c.count_replay-counts.result.0 c.count_replay-counts.result.1 =
    record { at_start = c.in-Ok-new.ensures.start; counts = record { kinds = e.kinds; replies = e.replies }; state = e.state; ends_so = e.ended; limit = e.limit } in
    generates_part c.args.number c.turns.result c.args.options c.in-Ok.script c.in-Ok-new.core c.count_replay-counts.new.core.state c.count_replay-counts.result.0 c.count_replay-counts.result.1 c.deref.result.now output
    c.in-Ok.ensures.valid c.in-Ok.ensures.script c.turns.ensures.value counted (λ events are. c.deref.ensures.value ∙ c.in-Ok-summary.ensures events are)
    c.in-Err.ensures.cause c.in-Err.ensures.part
