-- The lines that tell what came of a journal, or why nothing was played.
use Rattle.std.specs.Prelude.{ℕ, List, [], ◌∷◌, ◌++◌, codes, decimal}
use Rattle.rt_base.specs.declared.ended.Ended.{Ended}
use Rattle.rt_events.specs.Words.{end_word}
use Rattle.rt_script.specs.declared.fault.Why.{Why}
use Rattle.rt_script.specs.declared.fault.Why.TheVariants.{NotAscii, BadHeader, BadLine, BadName, NameTwice, Unknown, BadNumber, WrongKind, TooMany, NoGo, AfterGo}
use Rattle.rt_script.specs.Grammar.{FaultAt}

-- the words aren't taken
abbrev pub usage_line : List ℕ
usage_line = codes "usage: rtlab replay [--turns N] | run [--turns N] [--patience N] | check | gen N [--turns N]" ++ 10 ∷ []

-- the source failed
abbrev pub read_fault_line : List ℕ
read_fault_line = codes "read fault" ++ 10 ∷ []

-- the input is longer than the command takes
abbrev pub too_long_line : List ℕ
too_long_line = codes "too long" ++ 10 ∷ []

-- the number of what is wrong with a line
abbrev pub fault_number : Why → ℕ
fault_number NotAscii = 1
fault_number BadHeader = 2
fault_number BadLine = 3
fault_number BadName = 4
fault_number NameTwice = 5
fault_number Unknown = 6
fault_number BadNumber = 7
fault_number WrongKind = 8
fault_number TooMany = 9
fault_number NoGo = 10
fault_number AfterGo = 11

-- a fault: its line, and what is wrong with it
abbrev pub fault_at : ℕ → Why → FaultAt
fault_at line why = record { line = line; why = why }

-- a line of the script is at fault
abbrev pub bad_script_line : FaultAt → List ℕ
bad_script_line fault = codes "bad script: line " ++ decimal fault.line ++ codes ", fault " ++ decimal (fault_number fault.why) ++ 10 ∷ []

-- the journal is a run's, which ended so
abbrev pub legal_line : Ended → List ℕ
legal_line ended = codes "legal " ++ end_word ended ++ 10 ∷ []

-- that line of the journal is its first wrong one
abbrev pub illegal_line : ℕ → ℕ → List ℕ
illegal_line line why = codes "illegal " ++ decimal line ++ codes " " ++ decimal why ++ 10 ∷ []
