use Rattle.std.proofs.Common.{◌≡◌, ◌+◌, length}
use Rattle.rt_script.specs.Words.{text_lines}
use Rattle.rt_top.specs.Checked.{length_to_go}
use Rattle.rt_top.proofs.ToGo.{spans}
use Rattle.rt_top.proofs.checking.length_to_go.Given as goal

abbrev pub invariant-lines : goal.invariant-lines
invariant-lines l = (l.length + spans l.lines ≡ length l.fn.input + 1) × (l.length + length_to_go l.lines ≡ length_to_go (text_lines l.fn.input))

abbrev pub decreases-lines : goal.decreases-lines
decreases-lines l = spans l.lines
