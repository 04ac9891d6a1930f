use Rattle.std.proofs.Common.{◌≡◌, ◌+◌, ◌≤◌, false, length}
use Rattle.rt_script.specs.Adding.{empty_script}
use Rattle.rt_script.specs.Grammar.{after_lines}
use Rattle.rt_base.specs.declared.limits.TheConstants.{TEXT_LIMIT}
use Rattle.rt_script.proofs.reading.read_lines.Given as goal

abbrev pub invariant-lines : goal.invariant-lines
invariant-lines l = record {
  rest : after_lines l.n l.draft l.lines ≡ after_lines 2 (record { script = empty_script; begun = false }) l.fn.lines;
  few : l.n + length l.lines ≤ TEXT_LIMIT;
}

abbrev pub decreases-lines : goal.decreases-lines
decreases-lines l = length l.lines
