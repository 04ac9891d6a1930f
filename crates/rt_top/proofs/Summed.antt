-- The replay of a generated script, of which the summary is written.
use Rattle.std.proofs.Common.{◌≡◌, ◌∙◌, ℕ, List, sym, ap, subst}
use Rattle.rt_base.specs.declared.ended.Ended.{Ended}
use Rattle.rt_base.specs.Outside.{Appends, AppendsPrefix, Rises}
use Rattle.rt_base.specs.Script.{IsScript, Script}
use Rattle.rt_model.specs.declared.event.Event.{Event}
use Rattle.rt_model.specs.State.{State, start}
use Rattle.rt_model.specs.Run.{after, ended_of}
use Rattle.rt_model.specs.Order.{replayed}
use Rattle.rt_model.proofs.Runs.{replayed_leads}
use Rattle.rt_model.proofs.laws.Sound.{sound}
use Rattle.rt_core.specs.Core.{Made}
use Rattle.rt_policy.specs.Counts.{AreCountsOf, Counted}
use Rattle.rt_policy.specs.Generator.{generated}
use Rattle.rt_policy.specs.Turns.{TellsLimit, chosen_after, played_from}
use Rattle.rt_top.specs.declared.options.Options.{Options}
use Rattle.rt_top.specs.declared.status.Status.{Status}
use Rattle.rt_top.specs.declared.status.Status.TheVariants as statuses
use Rattle.rt_top.specs.Answer.{Generates, Output, Replays, turns_of}
use Rattle.rt_top.specs.Status.{status_of}
use Rattle.rt_top.specs.Summary.{summary_of}
use Rattle.rt_top.proofs.Journal.{ended_after, Replays-printed}

-- the summary of a script's replay
abbrev pub summed : ℕ → Script → ℕ → List ℕ
summed n script turns =
    let events = (replayed script turns).events in
    summary_of n events (ended_of (after (start script) events))

-- a script that was made of n, replayed with the turns that its options give
of_script : (n : ℕ) (options : Options) (script : Script) (status : Status) (output : Output) → script ≡ generated n
    → Replays status script (turns_of options script) (summed n script (turns_of options script)) output → Generates status n options output
of_script n options script status output is replays =
    subst (λ (s : Script). Replays status s (turns_of options s) (summed n s (turns_of options s)) output) is replays

-- what was counted of a core at the start, and how that ended
pub record IsCounted (script : Script) (turns : ℕ) (before : Made) (left : State) (counted : Counted) (ended : Ended) : Type 0 where
  pub at_start : before ≡ record { state = start script; made = 0 }
  pub counts : AreCountsOf counted (played_from script before.state turns).events
  pub state : left ≡ (played_from script before.state turns).state
  pub ends_so : ended ≡ ended_of left
  pub limit : TellsLimit turns (chosen_after script before.state turns) ended

module _ (n turns : ℕ) (options : Options) (script : Script) (before : Made) (left : State) (counted : Counted) (ended : Ended) (text : List ℕ) (output : Output) (valid : IsScript script) (is : script ≡ generated n) (turns_are : turns ≡ turns_of options script)
    (c : IsCounted script turns before left counted ended) (told : (events : List Event) → AreCountsOf counted events → text ≡ summary_of n events ended) where
  at_start : before.state ≡ start script
  at_start = ap (λ (m : Made). m.state) c.at_start

  ends_so : ended_of (after (start script) (replayed script turns).events) ≡ ended
  ends_so = ended_after script turns left ended (c.state ∙ ap (λ (s : State). (played_from script s turns).state) at_start) c.ends_so

  text_is : text ≡ summed n script turns
  text_is =
      told (replayed script turns).events (subst (λ (s : State). AreCountsOf counted (played_from script s turns).events) at_start c.counts)
      ∙ ap (summary_of n (replayed script turns).events) (sym ends_so)

  by_turns : (status : Status) → Replays status script turns (summed n script turns) output → Generates status n options output
  by_turns status replays = of_script n options script status output is (subst (λ (t : ℕ). Replays status script t (summed n script t) output) turns_are replays)

  -- the summary was written whole
  pub generates : Appends output.held_before text output.held_after → output.faults_after ≡ output.faults_before → Generates (status_of ended) n options output
  generates whole no_fault =
      let run = (replayed_leads script turns).run in
      by_turns (status_of ended) (Replays-printed script turns (summed n script turns) ended output (record {
        run = run;
        sound = sound script (replayed script turns).events valid run;
        text = subst (λ (t : List ℕ). Appends output.held_before t output.held_after) text_is whole;
        no_fault = no_fault;
        ends_so = ends_so;
        limit = subst (λ (s : State). TellsLimit turns (chosen_after script s turns) ended) at_start c.limit;
      }))

  -- or a prefix of it
  pub generates_part : Rises output.faults_before output.faults_after → AppendsPrefix output.held_before text output.held_after → Generates statuses.WriteFault n options output
  generates_part cause part =
      let run = (replayed_leads script turns).run in
      by_turns statuses.WriteFault (record {
        cause = cause;
        run = run;
        sound = sound script (replayed script turns).events valid run;
        text = subst (λ (t : List ℕ). AppendsPrefix output.held_before t output.held_after) text_is part;
      })
