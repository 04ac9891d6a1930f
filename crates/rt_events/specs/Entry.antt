-- What a journal tells of an event.
use Rattle.std.specs.Prelude.{ℕ, List, []}
use Rattle.rt_model.specs.declared.event.Event.{Event}
use Rattle.rt_model.specs.declared.event_kind.EventKind.{EventKind}
use Rattle.rt_model.specs.declared.event_kind.EventKind.TheVariants.{Restart}
use Rattle.rt_events.specs.declared.entry.Entry.{Entry}

-- the path that the journal keeps: a restart tells the link that is broken, and not the path to it
abbrev pub told_path : EventKind → List (ℕ × ℕ) → List (ℕ × ℕ)
told_path Restart path = []
told_path _ path = path

-- an event as the journal tells it: numbered, and without the owner
abbrev pub entry : ℕ → Event → Entry
entry number e = record { number = number; task = e.task; kind = e.kind; lock = e.lock; other = e.other; woken = e.woken; value = e.value; path = told_path e.kind e.path; boost = e.boost; reply = e.reply }
