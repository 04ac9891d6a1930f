-- The summary of a replay: how many events of each kind it has, how many give each reply, and how it ended.
use Rattle.std.specs.Prelude.{ℕ, List, [], ◌∷◌, ◌++◌, codes, decimal, flat_map}
use Rattle.rt_base.specs.declared.ended.Ended.{Ended}
use Rattle.rt_base.specs.declared.reply.Reply.{Reply}
use Rattle.rt_base.specs.declared.reply.Reply.TheVariants as replies
use Rattle.rt_model.specs.declared.event.Event.{Event}
use Rattle.rt_model.specs.declared.event_kind.EventKind.{EventKind}
use Rattle.rt_model.specs.declared.event_kind.EventKind.TheVariants as kinds
use Rattle.rt_model.specs.State.{start}
use Rattle.rt_model.specs.Order.{replayed}
use Rattle.rt_model.specs.Run.{after, ended_of}
use Rattle.rt_events.specs.Journal.{end_line}
use Rattle.rt_events.specs.Words.{kind_word, reply_word}
use Rattle.rt_policy.specs.Counts.{of_kind, with_reply}
use Rattle.rt_policy.specs.Generator.{generated}

-- every kind of event
abbrev pub every_kind : List EventKind
every_kind =
    kinds.Fast ∷ kinds.Free ∷ kinds.Mark ∷ kinds.Take ∷ kinds.Wait ∷ kinds.Walk ∷ kinds.WalkEnd ∷ kinds.Restart ∷ kinds.Cycle
    ∷ kinds.Again ∷ kinds.Leave ∷ kinds.Give ∷ kinds.RIn ∷ kinds.ROut ∷ kinds.Unbias ∷ kinds.WTake ∷ kinds.WSleep ∷ kinds.WOpen
    ∷ kinds.WWake ∷ kinds.Busy ∷ kinds.State ∷ kinds.Sched ∷ kinds.Wake ∷ kinds.SetPrio ∷ kinds.Own ∷ []

-- every reply
abbrev pub every_reply : List Reply
every_reply =
    replies.Got ∷ replies.Busy ∷ replies.Deadlock ∷ replies.Interrupted ∷ replies.NotOwner ∷ replies.Nesting ∷ replies.Pinned
    ∷ replies.Woke ∷ replies.Missed ∷ replies.Done ∷ []

-- the first line
abbrev pub summary_header : List ℕ
summary_header = codes "rtgen 1" ++ 10 ∷ []

-- the line of the number whose script is replayed
abbrev pub script_line : ℕ → List ℕ
script_line n = codes "script " ++ decimal n ++ 10 ∷ []

-- the line that tells how many events are of a kind; signals are counted under wake
abbrev pub events_line : EventKind → ℕ → List ℕ
events_line kind count = codes "events " ++ kind_word kind 0 ++ codes " " ++ decimal count ++ 10 ∷ []

-- the line that tells how many events give a reply
abbrev pub replies_line : Reply → ℕ → List ℕ
replies_line reply count = codes "replies " ++ reply_word reply ++ codes " " ++ decimal count ++ 10 ∷ []

-- the summary of these events of the script of n, which ended so
abbrev pub summary_of : ℕ → List Event → Ended → List ℕ
summary_of n events ended =
    summary_header ++ script_line n ++ flat_map (λ kind. events_line kind (of_kind kind events)) every_kind
    ++ flat_map (λ reply. replies_line reply (with_reply reply events)) every_reply ++ end_line ended

-- what is written of the replay of the script of n
abbrev pub gen_text : ℕ → ℕ → List ℕ
gen_text n turns =
    let script = generated n in
    let events = (replayed script turns).events in
    summary_of n events (ended_of (after (start script) events))
