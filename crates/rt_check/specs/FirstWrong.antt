-- The first wrong line of a text that is no run's.
use Rattle.std.specs.Prelude.{◌≡◌, ◌≢◌, ℕ, List, ◌++◌}
use Rattle.rt_base.specs.Script.{Script}
use Rattle.rt_model.specs.declared.event.Event.{Event}
use Rattle.rt_model.specs.State.{start}
use Rattle.rt_model.specs.Run.{IsRun}
use Rattle.rt_core.specs.Text.{text_of}
use Rattle.rt_check.specs.Place.{Place, IsPlace, before, line_at, first_line}
use Rattle.rt_check.specs.MayStand.{IsWhy}

-- the text goes like a run's up to a place, and no run's text that goes so goes on with the line that stands there; line is the
-- number of that line, and why tells what is wrong with it
pub record IsFirstWrong (script : Script) (text : List ℕ) (line why : ℕ) : Type 0 where
  pub place : Place
  pub rest : List ℕ
  pub run : IsPlace script place
  pub front : text ≡ before script place ++ rest
  pub number : line ≡ line_at place
  pub wrong : (events : List Event) (more : List ℕ) → IsRun (start script) events → text_of script events ≡ before script place ++ more → first_line more ≢ first_line rest
  pub cause : IsWhy script (first_line rest) place why
