use Rattle.std.proofs.Common.{◌+◌, ◌<◌, ◌≤◌, length, IfSome}
use Rattle.rt_base.specs.declared.limits.TheConstants.{LINE_LIMIT}
use Rattle.std.specs.Vec.{vec_capacity}
use Rattle.rt_model.specs.laws.Shape.{IsOf}
use Rattle.rt_check.specs.Judging.{IsPlayed}
use Rattle.rt_check.proofs.events.play_lines.Given as goal

abbrev pub invariant-lines : goal.invariant-lines
invariant-lines l = record {
  played : IsPlayed l.fn.script l.fn.text l.core l.rest;
  long : l.core.made + length l.rest ≤ length l.fn.text;
  last : IfSome l.last (λ t. t.0 < length l.fn.script.tasks);
  script : IsOf l.fn.script l.core.state;
  room : LINE_LIMIT ≤ vec_capacity l.buf;
  capacity : vec_capacity l.fn.buf ≤ vec_capacity l.buf;
}

abbrev pub decreases-lines : goal.decreases-lines
decreases-lines l = length l.rest
