use Rattle.rt_model.specs.Order.{replayed}
use Rattle.rt_model.proofs.Runs.{replayed_leads}
use Rattle.rt_model.proofs.laws.Sound.{sound}
use Rattle.rt_core.specs.Text.{replay_text}
use Rattle.rt_top.specs.Answer.{Output, IsCut}
use Rattle.rt_top.proofs.Journal.{Replays-printed}
use Rattle.rt_top.proofs.top.replay_script.Goals as goal

pub returns-in-Ok-print_replay-clause-outcome : goal.returns-in-Ok-print_replay-clause-outcome
returns-in-Ok-print_replay-clause-outcome g c =
    let script = c.args.script.now in
    let turns = c.turns-turns.result in
    let run = (replayed_leads script turns).run in
    let e = c.in-Ok-print_replay.ensures in
    let output : Output = record { held_before = g.K.Sink.held c.args.out.now; held_after = g.K.Sink.held c.print_replay.new.out; faults_before = g.K.Sink.faults c.args.out.now; faults_after = g.K.Sink.faults c.print_replay.new.out } in
    rw (c.of_run.ensures, ← c.turns-turns.ensures.value)
    (Replays-printed script turns (replay_text script turns) c.in-Ok-print_replay.ended output (record { run = run; sound = sound script (replayed script turns).events c.requires run; text = e.writes.whole; no_fault = e.writes.no_fault; ends_so = e.ended; limit = e.limit }))

pub returns-clause-outcome : goal.returns-clause-outcome
returns-clause-outcome g c =
    let script = c.args.script.now in
    let turns = c.turns-turns.result in
    let run = (replayed_leads script turns).run in
    let output : Output = record { held_before = g.K.Sink.held c.args.out.now; held_after = g.K.Sink.held c.print_replay.new.out; faults_before = g.K.Sink.faults c.args.out.now; faults_after = g.K.Sink.faults c.print_replay.new.out } in
    let cut : IsCut script turns (replay_text script turns) output = record {
      cause = c.in-Err.ensures.writes.cause;
      run = run;
      sound = sound script (replayed script turns).events c.requires run;
      text = c.in-Err.ensures.writes.part;
    } in
    rw (← c.turns-turns.ensures.value) cut
