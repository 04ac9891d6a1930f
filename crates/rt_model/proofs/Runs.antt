-- What is played is a run.
use Rattle.std.proofs.Common.{◌≡◌, ℕ, zero, suc, List, [], ◌∷◌, ◌++◌, refl, sym, ap, ◌∙◌, subst, Option, Some, None}
use Rattle.rt_base.specs.Script.{Script}
use Rattle.rt_base.specs.declared.id.TaskId.{TaskId}
use Rattle.rt_model.specs.declared.event.Event.{Event}
use Rattle.rt_model.specs.State.{State, start}
use Rattle.rt_model.specs.NextEvent.{next_event}
use Rattle.rt_model.specs.StateAfter.{state_after}
use Rattle.rt_model.specs.Run.{after, IsRun}
use Rattle.rt_model.specs.Order.{Played, stop, then_play, picked, play_chosen, chosen_task, chosen, replayed}
use Rattle.rt_model.proofs.Local.{task-next_event}

-- the events are a run from the state, and leave the state that is told
pub record Leads (s : State) (played : Played) : Type 0 where
  pub run : IsRun s played.events
  pub state : after s played.events ≡ played.state

pub after-append : (s : State) (xs ys : List Event) → after s (xs ++ ys) ≡ after (after s xs) ys
after-append s [] ys = refl
after-append s (x ∷ xs) ys = after-append (state_after s x) xs ys

pub IsRun-append : (s : State) (xs ys : List Event) → IsRun s xs → IsRun (after s xs) ys → IsRun s (xs ++ ys)
IsRun-append s [] ys first second = second
IsRun-append s (x ∷ xs) ys first second = (first.0, IsRun-append (state_after s x) xs ys first.1 second)

stop_leads : (s : State) (last : Option TaskId) → Leads s (stop s last)
stop_leads s last = record { run = tt; state = refl }

play_leads : (rest : State → Option TaskId → Played) → ((s : State) (last : Option TaskId) → Leads s (rest s last)) → (s : State) (last : Option TaskId) (t : TaskId) (e : Option Event) → next_event s t ≡ e → Leads s (then_play rest s last t e)
play_leads rest leads s last t None is = leads s last
play_leads rest leads s last t (Some e) is =
    let more = leads (state_after s e) (Some t) in
    let same : e.task ≡ t = task-next_event s t e is in
    record { run = (ap (next_event s) same ∙ is, more.run); state = more.state }

pub picked_leads : (ts : List TaskId) (s : State) (last : Option TaskId) → Leads s (picked ts s last)
picked_leads [] s last = stop_leads s last
picked_leads (t ∷ ts) s last = play_leads (picked ts) (picked_leads ts) s last t (next_event s t) refl

choice_leads : (rest : State → Option TaskId → Played) → ((s : State) (last : Option TaskId) → Leads s (rest s last)) → (s : State) (last : Option TaskId) (t : Option TaskId) → Leads s (play_chosen rest s last t)
choice_leads rest leads s last None = stop_leads s last
choice_leads rest leads s last (Some t) = play_leads rest leads s last t (next_event s t) refl

pub chosen_leads : (n : ℕ) (s : State) (last : Option TaskId) → Leads s (chosen n s last)
chosen_leads zero s last = stop_leads s last
chosen_leads (suc n) s last = choice_leads (chosen n) (chosen_leads n) s last (chosen_task s last)

-- a replay is a run from the script's start state
pub replayed_leads : (script : Script) (turns : ℕ) → Leads (start script) (replayed script turns)
replayed_leads script turns =
    let begun = picked script.picks (start script) None in
    let rest = chosen turns begun.state begun.last in
    let first : Leads (start script) begun = picked_leads script.picks (start script) None in
    let second : Leads begun.state rest = chosen_leads turns begun.state begun.last in
    record {
      run = IsRun-append (start script) begun.events rest.events first.run (subst (λ (s : State). IsRun s rest.events) (sym first.state) second.run);
      state = after-append (start script) begun.events rest.events ∙ (ap (λ (s : State). after s rest.events) first.state ∙ second.state);
    }
