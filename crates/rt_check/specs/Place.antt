-- Places of lines in the text of a run.
use Rattle.std.specs.Prelude.{ℕ, ◌+◌, ◌≤◌, List, [], ◌∷◌, ◌++◌, length, if◌then◌else◌, ◌==◌}
use Rattle.rt_base.specs.Script.{Script}
use Rattle.rt_model.specs.declared.event.Event.{Event}
use Rattle.rt_model.specs.State.{start}
use Rattle.rt_model.specs.Run.{after, ended_of, IsRun}
use Rattle.rt_events.specs.Journal.{header, lines_of, end_line}
use Rattle.rt_core.specs.Report.{report_upto}

-- a text's first line with its line feed; the whole text where it has no line feed
abbrev pub first_line : List ℕ → List ℕ
first_line [] = []
first_line (b ∷ bs) = if b == 10 then b ∷ [] else b ∷ first_line bs

-- where a line is due: first of all; after the lines of these events; or after these, the end line and so many lines of the report
pub data Place : Type 0 where
  at_header : Place
  at_event : List Event → Place
  at_report : List Event → ℕ → Place

-- how many lines the report has
abbrev pub report_size : Script → ℕ
report_size script = length script.tasks + length script.locks

-- the events are those of a run, and the report has so many lines
abbrev pub IsPlace : Script → Place → Type 0
IsPlace script at_header = Unit {0}
IsPlace script (at_event events) = IsRun (start script) events
IsPlace script (at_report events i) = IsRun (start script) events × (i ≤ report_size script)

-- the lines before the place
abbrev pub before : Script → Place → List ℕ
before script at_header = []
before script (at_event events) = header ++ lines_of script 1 events
before script (at_report events i) =
    let s = after (start script) events in
    header ++ lines_of script 1 events ++ end_line (ended_of s) ++ report_upto script s i

-- the number of the line in the place, counted from 1
abbrev pub line_at : Place → ℕ
line_at at_header = 1
line_at (at_event events) = 2 + length events
line_at (at_report events i) = 3 + length events + i
