use Rattle.std.proofs.Common.{◌<◌, arith}
use Rattle.std.specs.Prelude.{◌^◌}
use Rattle.rt_check.proofs.Played.{one_played, shorter}
use Rattle.rt_check.proofs.events.play_lines.Goals as goal

pub lines-preserved : goal.lines-preserved
lines-preserved c =
    let few : c.lines.core.made < 2 ^ 62 = omega (arith, c.lines.invariant.long, c.requires.few) in
    let less = shorter c.args.script.now c.lines.core c.play_line.new.core c.lines.rest.now c.in-Some.more.now few c.in-Some.ensures.plays in
    record {
      played = one_played c.args.script.now c.args.text.now c.lines.rest.now c.in-Some.more.now c.lines.core c.play_line.new.core c.lines.invariant.played c.in-Some.ensures.plays;
      long = omega (arith, less.0, less.1, c.lines.invariant.long);
      last = c.in-Some.ensures.task;
      script = c.play_line.ensures.script;
      room = omega (arith, c.lines.invariant.room, c.play_line.ensures.capacity);
      capacity = omega (arith, c.lines.invariant.capacity, c.play_line.ensures.capacity);
    }
