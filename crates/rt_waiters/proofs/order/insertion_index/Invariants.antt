use Rattle.std.proofs.Common.{◌≡◌, ◌++◌, ◌+◌, ◌≤◌, take, drop}
use Rattle.rt_model.specs.Rows.{insert_row}
use Rattle.rt_waiters.proofs.order.insertion_index.Given as goal

abbrev pub invariant-loop-i : goal.invariant-loop-i
invariant-loop-i g l = record {
  index : insert_row l.row l.rows ≡ take l.i l.rows ++ insert_row l.row (drop l.i l.rows);
  cost : l.steps ≤ l.initial.steps + l.i;
}
