-- A script and, behind it, a journal to be judged.
use Rattle.std.specs.Prelude.{ℕ, ◌+◌, List, [], ◌∷◌, take, drop, length, bytes_eq, codes, if◌then◌else◌}
use Rattle.rt_script.specs.Words.{text_lines}

-- how long these lines are, with a line feed each, up to the first that is `go`
abbrev pub length_to_go : List (List ℕ) → ℕ
length_to_go [] = 0
length_to_go (line ∷ lines) = length line + 1 + (if bytes_eq line (codes "go") then 0 else length_to_go lines)

-- the script of an input: up to and with its first line that is `go`, and all of it where there is none
abbrev pub script_part : List ℕ → List ℕ
script_part input = take (length_to_go (text_lines input)) input

-- the journal behind it
abbrev pub journal_part : List ℕ → List ℕ
journal_part input = drop (length_to_go (text_lines input)) input
