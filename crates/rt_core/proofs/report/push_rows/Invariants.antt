use Rattle.std.proofs.Common.{◌≡◌, ◌+◌, ◌*◌, ◌≤◌, ◌++◌, map, take, vec_len}
use Rattle.std.specs.Vec.{vec_capacity}
use Rattle.rt_events.specs.Words.{spaced}
use Rattle.rt_core.specs.Report.{row_word}
use Rattle.rt_core.proofs.report.push_rows.Given as goal

abbrev pub invariant-loop-row : goal.invariant-loop-row
invariant-loop-row l = record {
  text : l.out.items ≡ l.initial.out.items ++ spaced (map (row_word l.script) (take l.row-index l.rows));
  grows : vec_len l.out ≤ vec_len l.initial.out + 48 * l.row-index;
  capacity : vec_capacity l.initial.out ≤ vec_capacity l.out;
}
