-- The second word of an event's line names its task.
use Rattle.std.proofs.Common.{◌≡◌, ℕ, ◌<◌, List, ◌++◌, Some, sym, ap, ◌∙◌}
use Rattle.std.specs.Prelude.{◌^◌}
use Rattle.rt_base.specs.Script.{Script, IsScript}
use Rattle.rt_base.specs.declared.id.TaskId.{TaskId}
use Rattle.rt_model.specs.declared.event.Event.{Event}
use Rattle.rt_model.specs.State.{State}
use Rattle.rt_model.specs.NextEvent.{next_event}
use Rattle.rt_script.specs.Names.{task_named}
use Rattle.rt_script.proofs.Lookups.{task_named-own}
use Rattle.rt_events.specs.Entry.{entry}
use Rattle.rt_events.specs.Line.{line_of}
use Rattle.rt_events.specs.Words.{task_word}
use Rattle.rt_check.specs.Judging.{second, second_word}
use Rattle.rt_events.proofs.LineLaws.{names_task}
use Rattle.rt_check.proofs.Reached.{IsReached, entry-fits}

some_is : {A : Type 0} (a b : A) → Some a ≡ Some b → a ≡ b
some_is a b e = cc

module _ (script : Script) (valid : IsScript script) (s : State) (here : IsReached script s) (e : Event) (number : ℕ) (more text : List ℕ) (small : number < 2 ^ 64) (next : next_event s e.task ≡ Some e) (is : text ≡ line_of script (entry number e) ++ more) where
  pub second_is : second_word text ≡ Some (task_word script e.task)
  second_is = ap second_word is ∙ ap second (names_task script valid (entry number e) (entry-fits script s e number here next small) more).1

  task_is : task_named script (task_word script e.task) ≡ Some e.task
  task_is = task_named-own script e.task valid (entry-fits script s e number here next small).task

  pub named_is : (word : List ℕ) → second_word text ≡ Some word → task_named script word ≡ Some e.task
  named_is word second = ap (task_named script) (some_is word (task_word script e.task) (sym second ∙ second_is)) ∙ task_is

  pub one_named : (word : List ℕ) (t : TaskId) → second_word text ≡ Some word → task_named script word ≡ Some t → t ≡ e.task
  one_named word t second named = some_is t e.task (sym named ∙ named_is word second)
