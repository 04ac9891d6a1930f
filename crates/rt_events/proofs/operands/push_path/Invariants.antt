use Rattle.std.proofs.Common.{◌≡◌, ◌+◌, ◌*◌, ◌≤◌, ◌++◌, take, vec_len}
use Rattle.std.specs.Vec.{vec_capacity}
use Rattle.std.specs.Prelude.{flat_map}
use Rattle.rt_events.specs.Words.{spaced}
use Rattle.rt_events.specs.Line.{link_words}
use Rattle.rt_events.proofs.operands.push_path.Given as goal

abbrev pub invariant-loop-i : goal.invariant-loop-i
invariant-loop-i l = record {
  text : l.out.items ≡ l.initial.out.items ++ spaced (flat_map (link_words l.script) (take l.i l.path));
  grows : vec_len l.out ≤ vec_len l.initial.out + 38 * l.i;
  capacity : vec_capacity l.initial.out ≤ vec_capacity l.out;
}
