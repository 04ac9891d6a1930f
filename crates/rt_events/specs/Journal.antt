-- A journal: its first line, the lines of events, and the line that tells how the run ended.
use Rattle.std.specs.Prelude.{ℕ, ◌+◌, List, [], ◌∷◌, ◌++◌, codes}
use Rattle.rt_base.specs.Script.{Script}
use Rattle.rt_base.specs.declared.ended.Ended.{Ended}
use Rattle.rt_model.specs.declared.event.Event.{Event}
use Rattle.rt_events.specs.Entry.{entry}
use Rattle.rt_events.specs.Line.{line_of}
use Rattle.rt_events.specs.Words.{end_word}

abbrev pub header : List ℕ
header = codes "rtjournal 1" ++ 10 ∷ []

-- the lines of these events, the first of which has this number
abbrev pub lines_of : Script → ℕ → List Event → List ℕ
lines_of script number [] = []
lines_of script number (e ∷ es) = line_of script (entry number e) ++ lines_of script (number + 1) es

abbrev pub end_line : Ended → List ℕ
end_line ended = codes "end " ++ end_word ended ++ 10 ∷ []
