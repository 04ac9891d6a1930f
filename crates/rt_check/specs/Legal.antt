-- Legal texts: those of runs.
use Rattle.std.specs.Prelude.{◌≡◌, ℕ, List}
use Rattle.rt_base.specs.Script.{Script}
use Rattle.rt_base.specs.declared.ended.Ended.{Ended}
use Rattle.rt_model.specs.declared.event.Event.{Event}
use Rattle.rt_model.specs.State.{start}
use Rattle.rt_model.specs.Run.{after, ended_of, IsRun}
use Rattle.rt_core.specs.Text.{text_of}

-- the text is journal and report of a run of the script, which ended so
pub record IsLegal (script : Script) (text : List ℕ) (ended : Ended) : Type 0 where
  pub events : List Event
  pub run : IsRun (start script) events
  pub is : text ≡ text_of script events
  pub end : ended ≡ ended_of (after (start script) events)
