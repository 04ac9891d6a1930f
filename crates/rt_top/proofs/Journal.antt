-- The parts of the text of a replay.
use Rattle.std.proofs.Common.{◌≡◌, ℕ, List, ◌+◌, ◌++◌, length, Option, None, sym, ap, ◌∙◌, append_assoc, arith}
use Rattle.rt_base.specs.Script.{Script}
use Rattle.rt_base.specs.declared.ended.Ended.{Ended}
use Rattle.rt_base.specs.declared.ended.Ended.TheVariants as ends
use Rattle.rt_base.specs.declared.id.TaskId.{TaskId}
use Rattle.rt_model.specs.State.{State, start}
use Rattle.rt_model.specs.Run.{after, ended_of}
use Rattle.rt_model.specs.Order.{Played, picked, chosen, replayed}
use Rattle.rt_model.proofs.Runs.{replayed_leads}
use Rattle.rt_core.specs.Core.{Made}
use Rattle.rt_core.specs.Report.{report_of}
use Rattle.rt_events.specs.Journal.{header, lines_of, end_line}
use Rattle.rt_core.specs.Text.{replay_text}
use Rattle.rt_top.specs.Status.{status_of}
use Rattle.rt_policy.specs.Turns.{after_picks}
use Rattle.rt_top.specs.Answer.{Output, IsPrinted, Replays}
use Rattle.rt_policy.proofs.PlayLoop.{lines_of-append}

-- what is played of a script first: the picks
abbrev pub played_picks : Script → Played
played_picks script = picked script.picks (start script) None

-- its lines are those of the picks and then those of the choice
pub journal_parts : (script : Script) (turns : ℕ) → (header ++ lines_of script 1 (played_picks script).events) ++ lines_of script (1 + length (played_picks script).events) (after_picks script turns).events ≡ header ++ lines_of script 1 (replayed script turns).events
journal_parts script turns =
    append_assoc header (lines_of script 1 (played_picks script).events) (lines_of script (1 + length (played_picks script).events) (after_picks script turns).events)
    ∙ ap (λ text. header ++ text) (sym (lines_of-append script 1 (played_picks script).events (after_picks script turns).events))

-- the lines of the picks, from a core at the start
pub picks_lines : (script : Script) (core : Made) → core ≡ record { state = start script; made = 0 } → lines_of script (core.made + 1) (picked script.picks core.state None).events ≡ lines_of script 1 (played_picks script).events
picks_lines script core is = ap (λ (m : Made). lines_of script (m.made + 1) (picked script.picks m.state None).events) is

-- the choice, from what the picks left
pub after_picks_is : (script : Script) (core : Made) (turns : ℕ) (s : State) (last : Option TaskId) → core ≡ record { state = start script; made = 0 }
    → s ≡ (picked script.picks core.state None).state → last ≡ (picked script.picks core.state None).last → chosen turns s last ≡ after_picks script turns
after_picks_is script core turns s last is leaves moved =
    let start_is : core.state ≡ start script = ap (λ (m : Made). m.state) is in
    let left : s ≡ (played_picks script).state = leaves ∙ ap (λ (r : State). (picked script.picks r None).state) start_is in
    let mover : last ≡ (played_picks script).last = moved ∙ ap (λ (r : State). (picked script.picks r None).last) start_is in
    λ i. chosen turns (left i) (mover i)

-- and its lines
pub after_picks_lines : (script : Script) (core : Made) (count turns : ℕ) (back : Played) → core ≡ record { state = start script; made = 0 }
    → count ≡ length (picked script.picks core.state None).events → back ≡ after_picks script turns
    → lines_of script (count + 1) back.events ≡ lines_of script (1 + length (played_picks script).events) (after_picks script turns).events
after_picks_lines script core count turns back is counts after_picks_is =
    let start_is : core.state ≡ start script = ap (λ (m : Made). m.state) is in
    let counted : count ≡ length (played_picks script).events = counts ∙ ap (λ (r : State). length (picked script.picks r None).events) start_is in
    let number : count + 1 ≡ 1 + length (played_picks script).events = omega arith in
    λ i. lines_of script (number i) (after_picks_is i).events

-- the text is the journal and then the end and the report
pub text_parts : (script : Script) (turns : ℕ) (s : State) (ended : Ended) → s ≡ (replayed script turns).state → ended ≡ ended_of s
    → (header ++ lines_of script 1 (replayed script turns).events) ++ (end_line ended ++ report_of script s) ≡ replay_text script turns
text_parts script turns s ended left ends_so =
    let events = (replayed script turns).events in
    let there : s ≡ after (start script) events = left ∙ sym (replayed_leads script turns).state in
    sym (append_assoc (header ++ lines_of script 1 events) (end_line ended) (report_of script s))
    ∙ ((λ i. ((header ++ lines_of script 1 events) ++ end_line (ends_so i)) ++ report_of script s) ∙ ap (λ (r : State). ((header ++ lines_of script 1 events) ++ end_line (ended_of r)) ++ report_of script r) there)

-- how the run ended, of the state after its events
pub ended_after : (script : Script) (turns : ℕ) (s : State) (ended : Ended) → s ≡ (replayed script turns).state → ended ≡ ended_of s → ended_of (after (start script) (replayed script turns).events) ≡ ended
ended_after script turns s ended left ends_so = ap ended_of ((replayed_leads script turns).state ∙ sym left) ∙ sym ends_so

-- a run of which the text was written is answered by how it ended
pub Replays-printed : (script : Script) (turns : ℕ) (text : List ℕ) (ended : Ended) (output : Output) → IsPrinted script turns text ended output → Replays (status_of ended) script turns text output
Replays-printed script turns text ends.Done output printed = printed
Replays-printed script turns text ends.Stuck output printed = printed
Replays-printed script turns text ends.Limit output printed = printed
