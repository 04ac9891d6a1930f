-- Every run of a script is sound.
use Rattle.std.proofs.Common.{◌≡◌, ℕ, ◌+◌, List, length, refl, subst, arith}
use Rattle.rt_base.specs.Script.{Script, TaskLine, IsScript}
use Rattle.rt_base.specs.declared.id.TaskId.{TaskId}
use Rattle.rt_model.specs.declared.event.Event.{Event}
use Rattle.rt_model.specs.declared.phase.Phase.TheVariants.{Start}
use Rattle.rt_model.specs.Parts.{ThreadPart}
use Rattle.rt_model.specs.State.{start, fresh_thread, no_thread, kinds_in, thread_part}
use Rattle.rt_model.specs.Run.{after, IsRun}
use Rattle.rt_model.specs.laws.Lawful.{IsLawful}
use Rattle.rt_model.specs.laws.Sound.{IsSound}
use Rattle.rt_model.proofs.Lists.{All-read, All-made}
use Rattle.rt_model.proofs.Starts.{IsLawful-start}
use Rattle.rt_model.proofs.Prefixes.{lawful-there}
use Rattle.rt_model.proofs.laws.Holders.{holders-law, held-start}
use Rattle.rt_model.proofs.laws.Deadlocks.{deadlocks-law}
use Rattle.rt_model.proofs.laws.Interrupts.{interrupts-law}
use Rattle.rt_model.proofs.laws.Cycles.{cycles-law}
use Rattle.rt_model.proofs.laws.Priorities.{priority-law}
use Rattle.rt_model.proofs.laws.Wakeups.{wakeups-law}
use Rattle.rt_model.proofs.laws.Calls.{calls-law}
use Rattle.rt_model.proofs.laws.Cells.{cells-sound}
use Rattle.rt_model.proofs.laws.Rest.{rest-sound}

-- no task has made a call's first event at the start
idle-start : (script : Script) (t : TaskId) → (thread_part (start script) t).phase ≡ Start
idle-start script t =
    let fresh : TaskLine → ThreadPart = λ line. fresh_thread (kinds_in script) line.calls line.cpu in
    All-read (λ (thread : ThreadPart). thread.phase ≡ Start) (start script).threads t.0 no_thread (All-made (λ (thread : ThreadPart). thread.phase ≡ Start) fresh (λ line. refl) script.tasks) refl

none-before : (n : ℕ) → 0 + n ≡ n
none-before n = omega arith

pub sound : (script : Script) (events : List Event) → IsScript script → IsRun (start script) events → IsSound script events
sound script events valid run =
    let lawful = IsLawful-start script valid in
    record {
      lawful = λ prefix rest is. subst (IsLawful (after (start script) prefix)) (none-before (length prefix)) (lawful-there (start script) 0 events lawful run prefix rest is);
      holders = holders-law (start script) 0 events lawful run (held-start script);
      priorities = λ prefix rest is. priority-law (after (start script) prefix) _ (lawful-there (start script) 0 events lawful run prefix rest is);
      deadlocks = deadlocks-law (start script) 0 events lawful run (held-start script) (idle-start script);
      interrupts = interrupts-law (start script) 0 events lawful run (idle-start script);
      cycles = cycles-law (start script) 0 events lawful run;
      wakeups = wakeups-law script events lawful run;
      calls = calls-law script events lawful run;
      cells = cells-sound script events valid run;
      rest = rest-sound (start script) 0 events lawful run;
    }
