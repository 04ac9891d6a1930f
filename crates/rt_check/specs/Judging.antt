-- How a text is judged: along the events whose lines stand in it.
use Rattle.std.specs.Prelude.{◌≡◌, ◌≢◌, ◌⊎◌, ℕ, ◌+◌, ◌<◌, List, ◌∷◌, ◌++◌, length, Option, Some, None}
use Rattle.rt_base.specs.Script.{Script}
use Rattle.rt_model.specs.declared.event.Event.{Event}
use Rattle.rt_model.specs.State.{State, start}
use Rattle.rt_model.specs.StateAfter.{state_after}
use Rattle.rt_model.specs.NextEvent.{next_event}
use Rattle.rt_model.specs.Run.{after, ended_of, IsRun}
use Rattle.rt_script.specs.Words.{words_of}
use Rattle.rt_events.specs.Entry.{entry}
use Rattle.rt_events.specs.Journal.{lines_of, end_line}
use Rattle.rt_events.specs.Line.{line_of}
use Rattle.rt_core.specs.Core.{Made}
use Rattle.rt_core.specs.Report.{report_upto, report_line_of}
use Rattle.rt_check.specs.declared.why.Wrong.{Wrong}
use Rattle.rt_check.specs.Place.{first_line, at_report, report_size}
use Rattle.rt_check.specs.MayStand.{IsWhy}
use Rattle.rt_check.specs.Why.{why_number}

-- the second of some words
abbrev pub second : List (List ℕ) → Option (List ℕ)
second (a ∷ b ∷ words) = Some b
second _ = None

-- the second word of a text, where that of an event begins with a number and a task
abbrev pub second_word : List ℕ → Option (List ℕ)
second_word text = second (words_of text)

-- the line is due in the state, for an event of this number: it is that of a next event, or the end line
abbrev pub IsDue : Script → State → ℕ → List ℕ → Type 0
IsDue script s number line = ((e : Event) × (next_event s e.task ≡ Some e) × (line_of script (entry number e) ≡ line)) ⊎ (end_line (ended_of s) ≡ line)

-- the text goes on with the line of a next event, which is made; more stands after the line
abbrev pub Plays : Script → Made → List ℕ → Made → List ℕ → Type 0
Plays script old text new more =
    (e : Event) × (next_event old.state e.task ≡ Some e) × (text ≡ line_of script (entry (old.made + 1) e) ++ more) × (new ≡ record { state = state_after old.state e; made = old.made + 1 })

-- the text goes on with the line of no next event
abbrev pub PlaysNone : Script → Made → List ℕ → Type 0
PlaysNone script core text = (e : Event) (more : List ℕ) → next_event core.state e.task ≡ Some e → text ≢ line_of script (entry (core.made + 1) e) ++ more

-- the core has made the events of a run, whose lines stand before the rest
pub record IsPlayed (script : Script) (text : List ℕ) (core : Made) (rest : List ℕ) : Type 0 where
  pub events : List Event
  pub run : IsRun (start script) events
  pub state : core ≡ record { state = after (start script) events; made = length events }
  pub front : text ≡ lines_of script 1 events ++ rest

-- a line of the report isn't the state's, where the report's first line has this number
pub record IsWrongReport (script : Script) (s : State) (first : ℕ) (text : List ℕ) (wrong : Wrong) : Type 0 where
  pub i : ℕ
  pub rest : List ℕ
  pub within : i < report_size script
  pub number : wrong.line ≡ first + i
  pub front : text ≡ report_upto script s i ++ rest
  pub other : (more : List ℕ) → rest ≢ report_line_of script s i ++ more
  pub cause : (events : List Event) → IsWhy script (first_line rest) (at_report events i) (why_number wrong.why)
