-- The text of a run: its journal, how it ended, and the report of the state that it leaves.
use Rattle.std.specs.Prelude.{ℕ, List, ◌++◌}
use Rattle.rt_base.specs.Script.{Script}
use Rattle.rt_model.specs.declared.event.Event.{Event}
use Rattle.rt_model.specs.State.{start}
use Rattle.rt_model.specs.Run.{after, ended_of}
use Rattle.rt_model.specs.Order.{replayed}
use Rattle.rt_events.specs.Journal.{header, lines_of, end_line}
use Rattle.rt_core.specs.Report.{report_of}

-- the text of a run of the script
abbrev pub text_of : Script → List Event → List ℕ
text_of script events =
    let s = after (start script) events in
    header ++ lines_of script 1 events ++ end_line (ended_of s) ++ report_of script s

-- what a replay prints
abbrev pub replay_text : Script → ℕ → List ℕ
replay_text script turns = text_of script (replayed script turns).events
