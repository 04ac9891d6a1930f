-- What the picks and the stated order play from a state on, and when that was cut short.
use Rattle.std.specs.Prelude.{◌≡◌, ◌↔◌, ℕ, ◌<◌, true, ◌++◌, length, None}
use Rattle.rt_base.specs.declared.ended.Ended.{Ended}
use Rattle.rt_base.specs.declared.ended.Ended.TheVariants as ends
use Rattle.rt_base.specs.Script.{Script}
use Rattle.rt_model.specs.State.{State, start}
use Rattle.rt_model.specs.Run.{is_enabled}
use Rattle.rt_model.specs.Order.{Played, picked, chosen}

-- some task has a next event
abbrev pub HasNext : State → Type 0
HasNext s = (t : ℕ) × (t < length s.threads) × (is_enabled s t ≡ true)

-- exactly so many events were played, and some task still has a next one
abbrev pub IsCutShort : ℕ → Played → Type 0
IsCutShort turns played = (length played.events ≡ turns) × HasNext played.state

-- a run ended at its limit exactly where it was cut short
abbrev pub TellsLimit : ℕ → Played → Ended → Type 0
TellsLimit turns played ended = (ended ≡ ends.Limit) ↔ IsCutShort turns played

-- what the picks play from a state on
abbrev pub by_picks : Script → State → Played
by_picks script s = picked script.picks s None

-- what follows the picks from a state on: at most so many events by the stated order
abbrev pub chosen_after : Script → State → ℕ → Played
chosen_after script s turns =
    let first = by_picks script s in
    chosen turns first.state first.last

-- the picks, and what follows them
abbrev pub played_from : Script → State → ℕ → Played
played_from script s turns =
    let first = by_picks script s in
    let rest = chosen_after script s turns in
    record rest { events = first.events ++ rest.events }

-- what follows the picks of a replay
abbrev pub after_picks : Script → ℕ → Played
after_picks script turns = chosen_after script (start script) turns
