-- The grammar of a script's text: its lines from the first to the last.
use Rattle.std.specs.Prelude.{ℕ, ◌+◌, Bool, true, false, List, [], ◌∷◌, Result, Ok, Err, if◌then◌else◌, bytes_eq, codes}
use Rattle.std.specs.List.{list_all}
use Rattle.rt_base.specs.Script.{Script}
use Rattle.rt_script.specs.declared.fault.Why.{Why}
use Rattle.rt_script.specs.declared.fault.Why.TheVariants.{NotAscii, BadHeader, NoGo, AfterGo}
use Rattle.rt_script.specs.Adding.{empty_script}
use Rattle.rt_script.specs.Judging.{Judged, provided}
use Rattle.rt_script.specs.Lines.{SoFar, after_line}
use Rattle.rt_script.specs.Words.{text_lines, is_printable}

-- the line that is at fault, and why
pub record FaultAt : Type 0 where
  pub line : ℕ
  pub why : Why

-- what line n is judged to be, and then the rest
abbrev pub at_line : {A B : Type 0} → ℕ → Judged A → (A → Result B FaultAt) → Result B FaultAt
at_line n (Ok a) rest = rest a
at_line n (Err why) rest = Err (record { line = n; why = why })

-- nothing stands there, or nothing after the last line feed
abbrev pub is_end : List (List ℕ) → Bool
is_end [] = true
is_end ([] ∷ []) = true
is_end _ = false

-- what is wrong with a line after `go`
abbrev pub fault_after_go : List ℕ → Why
fault_after_go line = if list_all is_printable line then AfterGo else NotAscii

-- the script, where nothing stands after its `go` line
abbrev pub script_at_go : ℕ → Script → List (List ℕ) → Result Script FaultAt
script_at_go n script [] = Ok script
script_at_go n script (line ∷ lines) = if is_end (line ∷ lines) then Ok script else Err (record { line = n; why = fault_after_go line })

-- line n and those after it, to `go`
unfoldable pub after_lines : ℕ → SoFar → List (List ℕ) → Result Script FaultAt
after_lines n so_far [] = Err (record { line = n; why = NoGo })
after_lines n so_far (line ∷ lines) = if is_end (line ∷ lines) then Err (record { line = n; why = NoGo })
    else if bytes_eq line (codes "go") then script_at_go (n + 1) so_far.script lines
    else at_line n (after_line so_far line) (λ next. after_lines (n + 1) next lines)

-- what is wrong with line 1, if anything is
abbrev pub judged_header : List ℕ → Judged SoFar
judged_header line = provided (list_all is_printable line) NotAscii (provided (bytes_eq line (codes "rtscript 1")) BadHeader (Ok (record { script = empty_script; begun = false })))

-- the lines from the header on
abbrev pub script_of_lines : List (List ℕ) → Result Script FaultAt
script_of_lines [] = Err (record { line = 1; why = BadHeader })
script_of_lines (header ∷ lines) = at_line 1 (judged_header header) (λ so_far. after_lines 2 so_far lines)

-- the script that the text is, or its first fault
unfoldable pub script_of : List ℕ → Result Script FaultAt
script_of text = script_of_lines (text_lines text)
