-- Which lines may stand in a place, whether they are due there or not, and what is wrong with one that isn't.
use Rattle.std.specs.Prelude.{◌≡◌, ◌⊎◌, ℕ, ◌<◌, List, [], ◌∷◌, ◌++◌, length, if◌then◌else◌, nat_lt, codes}
use Rattle.rt_base.specs.Script.{Script}
use Rattle.rt_base.specs.declared.ended.Ended.{Ended}
use Rattle.rt_model.specs.declared.event.Event.{Event}
use Rattle.rt_events.specs.declared.entry.Entry.{Entry}
use Rattle.rt_events.specs.Journal.{header, end_line}
use Rattle.rt_events.specs.Line.{IsLineOf}
use Rattle.rt_check.specs.Place.{Place, at_header, at_event, at_report, report_size}

-- the line of some well formed entry
abbrev pub IsEntryLine : Script → List ℕ → Type 0
IsEntryLine script line = (n : Entry) × IsLineOf script line n

-- one of the three end lines
abbrev pub IsEndLine : List ℕ → Type 0
IsEndLine line = (ended : Ended) × (end_line ended ≡ line)

-- what line i of the report begins with
abbrev pub report_word : Script → ℕ → List ℕ
report_word script i = if nat_lt i (length script.tasks) then codes "task " else codes "lock "

-- any line that begins so and has its line feed, where the report has a line i
abbrev pub IsReportLine : Script → ℕ → List ℕ → Type 0
IsReportLine script i line = (i < report_size script) × ((body : List ℕ) × (report_word script i ++ body ++ 10 ∷ [] ≡ line))

-- a line may stand in the place
abbrev pub MayStand : Script → Place → List ℕ → Type 0
MayStand script at_header line = header ≡ line
MayStand script (at_event events) line = IsEntryLine script line ⊎ IsEndLine line
MayStand script (at_report events i) line = IsReportLine script i line

-- the number that tells what is wrong with a line: it may not stand there; or it may, and tells of an event, an end or a report
pub data IsWhy (script : Script) (line : List ℕ) : Place → ℕ → Type 0 where
  no_line : (place : Place) → (MayStand script place line → ⊥) → IsWhy script line place 1
  other_event : (events : List Event) → IsEntryLine script line → IsWhy script line (at_event events) 2
  other_end : (events : List Event) → IsEndLine line → IsWhy script line (at_event events) 3
  other_report : (events : List Event) (i : ℕ) → IsReportLine script i line → IsWhy script line (at_report events i) 4
