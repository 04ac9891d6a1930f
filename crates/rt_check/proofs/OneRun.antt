-- A run's text determines its events, and a text with a first wrong line is no run's.
use Rattle.std.proofs.Common.{◌≡◌, ℕ, ◌+◌, ◌<◌, List, ◌++◌, length, refl, sym, ◌∙◌, append_assoc}
use Rattle.std.specs.Prelude.{◌^◌}
use Rattle.rt_base.specs.Script.{Script, IsScript}
use Rattle.rt_base.specs.declared.ended.Ended.{Ended}
use Rattle.rt_model.specs.declared.event.Event.{Event}
use Rattle.rt_model.specs.State.{start}
use Rattle.rt_model.specs.Run.{after, ended_of, IsRun}
use Rattle.rt_events.specs.Journal.{header, lines_of, end_line}
use Rattle.rt_core.specs.Report.{report_of}
use Rattle.rt_core.specs.Text.{text_of}
use Rattle.rt_check.specs.Legal.{IsLegal}
use Rattle.rt_check.specs.FirstWrong.{IsFirstWrong}
use Rattle.rt_check.proofs.Due.{ended}

-- a run's text determines its events, where they can be numbered
pub one_run : (script : Script) → IsScript script → (a b : List Event) → IsRun (start script) a → IsRun (start script) b → 1 + length b < 2 ^ 64 → text_of script a ≡ text_of script b → a ≡ b
one_run script valid a b run-a run-b small e =
    let s = after (start script) b in
    (ended script valid b run-b small a (report_of script s) run-a (e ∙ append_assoc (header ++ lines_of script 1 b) (end_line (ended_of s)) (report_of script s))).0

-- a text with a first wrong line is no run's
pub no_text : (script : Script) (text : List ℕ) (line why : ℕ) → IsFirstWrong script text line why → (ended : Ended) → IsLegal script text ended → ⊥
no_text script text line why w ended is = w.wrong is.events w.rest is.run (sym is.is ∙ w.front) refl
