use Rattle.std.proofs.Common.{◌≡◌, length}
use Rattle.rt_script.specs.Lines.{are_words}
use Rattle.rt_script.proofs.draft.line.are_words.Given as goal

abbrev pub invariant-loop-word : goal.invariant-loop-word
invariant-loop-word l = are_words l.words ≡ are_words l.fn.words

abbrev pub decreases-loop-word : goal.decreases-loop-word
decreases-loop-word l = length l.words
