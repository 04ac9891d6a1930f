-- What the loops that play a run keep.
use Rattle.std.proofs.Common.{◌≡◌, ℕ, zero, suc, ◌+◌, ◌-◌, ◌<◌, ◌≤◌, List, [], length, drop, get_or, Option, Some, None, Result, Ok, Err, IfSome, refl, sym, ap, ◌∙◌, subst, drop-cons, append-nil, arith, IsErr}
use Rattle.rt_base.specs.Script.{Script}
use Rattle.rt_base.specs.declared.fault.Failed.{Failed}
use Rattle.rt_base.specs.declared.id.TaskId.{TaskId}
use Rattle.rt_base.specs.Outside.{Rises}
use Rattle.rt_model.specs.declared.event.Event.{Event}
use Rattle.rt_model.specs.State.{State}
use Rattle.rt_model.specs.laws.Shape.{IsOf}
use Rattle.rt_model.specs.NextEvent.{next_event}
use Rattle.rt_model.specs.Order.{Played, stop, picked, chosen, chosen_task, then_play}
use Rattle.rt_model.proofs.laws.Shape.{IsOf-threads}
use Rattle.rt_model.proofs.Lowest.{chosen_below}
use Rattle.rt_model.proofs.Runs.{Leads}
use Rattle.rt_core.specs.Core.{Made}
use Rattle.rt_events.specs.Journal.{lines_of}
use Rattle.rt_policy.specs.declared.progress.Progress.{Progress}
use Rattle.rt_policy.specs.Printing.{Prints}
use Rattle.rt_policy.specs.Playing.{IsPartMade, Moves, Stops}
use Rattle.rt_policy.proofs.Going.{Going, Gone, begins, moves_on, ends}
use Rattle.rt_policy.proofs.PlayLoop.{IsTold, told_none, moves_to, told_more, stops_at}

-- a run is being made and told from this core, this buffer and this sink on
pub record Looping (script : Script) (first : ℕ) (s0 : State) (whole rest : Played) (s : State) (made0 made : ℕ) (now : Progress) (h0 : Option (List ℕ)) (b0 : List ℕ) (h : Option (List ℕ)) (b : List ℕ) (f0 f room0 room : ℕ) : Type 0 where
  pub going : Going s0 whole rest s (IsTold script first h0 b0 now.count h b)
  pub made_is : made ≡ made0 + now.count
  pub script_is : IsOf script s
  pub no_fault : f ≡ f0
  pub roomy : room0 ≤ room
  pub last_in : IfSome now.last (λ t. t.0 < length script.tasks)

-- at the start
pub looping_begins : (script : Script) (first : ℕ) (s : State) (whole : Played) (made : ℕ) (last : Option TaskId) (h : Option (List ℕ)) (b : List ℕ) (f room : ℕ)
    → IsOf script s → IfSome last (λ t. t.0 < length script.tasks) → Looping script first s whole whole s made made (record { count = 0; last = last }) h b h b f f room room
looping_begins script first s whole made last h b f room is last_in = record {
  going = begins s whole (told_none script first h b);
  made_is = omega arith;
  script_is = is;
  no_fault = refl;
  roomy = omega arith;
  last_in = last_in;
}

-- the picks from i on
pub picked-drop : (items : List TaskId) (i : ℕ) (d : TaskId) (s : State) (last : Option TaskId) → i < length items → picked (drop i items) s last ≡ then_play (picked (drop (suc i) items)) s last (get_or items i d) (next_event s (get_or items i d))
picked-drop items i d s last lt = ap (λ ts. picked ts s last) (drop-cons items i d lt)

-- nobody to choose
pub chosen-none : (n : ℕ) (s : State) (last : Option TaskId) → chosen_task s last ≡ None → chosen n s last ≡ stop s last
chosen-none zero s last is = refl
chosen-none (suc n) s last is = rw is refl

pub chosen-some : (n : ℕ) (s : State) (last : Option TaskId) (t : TaskId) → chosen_task s last ≡ Some t → chosen (suc n) s last ≡ then_play (chosen n) s last t (next_event s t)
chosen-some n s last t is = rw is refl

-- a fault at a task's move
pub stopped : {script : Script} {first : ℕ} {s0 : State} {whole rest : Played} {s : State} {made0 made : ℕ} {now : Progress} {h0 : Option (List ℕ)} {b0 : List ℕ} {h : Option (List ℕ)} {b : List ℕ} {f0 f room0 room : ℕ} {T : Type 0} (result : Result T Failed)
    (cont : State → Option TaskId → Played) (t : TaskId) (next : Option Event) (core' : Made) (h' : Option (List ℕ)) (b' : List ℕ) (f' : ℕ)
    → rest ≡ then_play cont s now.last t next → Looping script first s0 whole rest s made0 made now h0 b0 h b f0 f room0 room
    → Stops script first next s core'.state now h b h' → core'.made ≡ made → Rises f f' → f ≤ f' → IsErr result
    → Prints result h0 b0 h' b' f0 f' (lines_of script first whole.events) × IsPartMade (record { state = s0; made = made0 }) core' whole.events
stopped (Ok x) cont t next core' h' b' f' is looping stops same rises le err = cc err
stopped {script} {first} {s0} {whole} {rest} {s} {made0} {made} {now} {h0} {b0} {h} {b} {f0} {f} (Err e) cont t next core' h' b' f' is looping stops same rises le err =
    let going = subst (λ (r : Played). Going s0 whole r s (IsTold script first h0 b0 now.count h b)) is looping.going in
    let cut = stops_at script first s0 whole cont s core'.state t next now h0 b0 h b h' stops going in
    let part = cut.1 in
    let made_part : core'.made ≡ made0 + length part.0 = omega (arith, looping.made_is, part.4) in
    (record { whole = tt; no_fault = tt; part = cut.0; cause = omega (arith, looping.no_fault, rises); count = omega (arith, looping.no_fault) }, (part.0, part.1, part.2, part.3, made_part))

-- a task's move
pub moved : {script : Script} {first : ℕ} {s0 : State} {whole rest : Played} {s : State} {made0 made : ℕ} {now : Progress} {h0 : Option (List ℕ)} {b0 : List ℕ} {h : Option (List ℕ)} {b : List ℕ} {f0 f room0 room : ℕ}
    (cont : State → Option TaskId → Played) (t : TaskId) (next : Option Event) (s' : State) (made' : ℕ) (now' : Progress) (h' : Option (List ℕ)) (b' : List ℕ) (f' room' : ℕ)
    → rest ≡ then_play cont s now.last t next → Looping script first s0 whole rest s made0 made now h0 b0 h b f0 f room0 room
    → Moves script first t next s s' now now' h b h' b' → made' + now.count ≡ made + now'.count → f' ≡ f → room ≤ room' → IsOf script s'
    → (IfSome now.last (λ u. u.0 < length script.tasks) → IfSome now'.last (λ u. u.0 < length script.tasks))
    → Looping script first s0 whole (cont s' now'.last) s' made0 made' now' h0 b0 h' b' f0 f' room0 room'
moved {script} {first} {s0} {whole} {rest} {s} {made0} {made} {now} {h0} {b0} {h} {b} cont t next s' made' now' h' b' f' room' is looping moves counts no_fault le_room script_is last_in =
    let going = subst (λ (r : Played). Going s0 whole r s (IsTold script first h0 b0 now.count h b)) is looping.going in
    record {
      going = moves_on cont s now.last s' now'.last t next (moves_to script first t next s s' now now' h b h' b' moves) (λ done. told_more script first t next s s' now now' h0 b0 h b h' b' done moves) going;
      made_is = omega (arith, looping.made_is, counts);
      script_is = script_is;
      no_fault = no_fault ∙ looping.no_fault;
      roomy = omega (arith, looping.roomy);
      last_in = last_in looping.last_in;
    }

-- nothing is to come
pub over : {script : Script} {first : ℕ} {s0 : State} {whole rest : Played} {s : State} {made0 made : ℕ} {now : Progress} {h0 : Option (List ℕ)} {b0 : List ℕ} {h : Option (List ℕ)} {b : List ℕ} {f0 f room0 room : ℕ}
    → rest ≡ stop s now.last → Looping script first s0 whole rest s made0 made now h0 b0 h b f0 f room0 room → Gone whole s now.last (IsTold script first h0 b0 now.count h b)
over {script} {first} {s0} {whole} {rest} {s} {made0} {made} {now} {h0} {b0} {h} {b} is looping =
    ends (subst (λ (r : Played). Going s0 whole r s (IsTold script first h0 b0 now.count h b)) is looping.going)

-- what is gone was printed
pub printed_all : {script : Script} {first : ℕ} {whole : Played} {s : State} {last : Option TaskId} {count : ℕ} {h0 : Option (List ℕ)} {b0 : List ℕ} {h : Option (List ℕ)} {b : List ℕ} {T : Type 0} (x : T) (f0 f : ℕ)
    → Gone whole s last (IsTold script first h0 b0 count h b) → f ≡ f0 → Prints {T = T} (Ok x) h0 b0 h b f0 f (lines_of script first whole.events)
printed_all x f0 f gone no_fault = record { whole = gone.told.printed; no_fault = no_fault; part = tt; cause = tt; count = omega (arith, no_fault) }

-- somebody who may move is a task of the script
pub chosen_within : (script : Script) (s : State) (last : Option TaskId) (t : TaskId) → IsOf script s → chosen_task s last ≡ Some t → IfSome last (λ u. u.0 < length script.tasks) → t.0 < length script.tasks
chosen_within script s last t is chosen last_in = subst (λ (n : ℕ). t.0 < n) (IsOf-threads script s is) (chosen_below s last t chosen (subst (λ (n : ℕ). IfSome last (λ u. u.0 < n)) (sym (IsOf-threads script s is)) last_in))

-- one of the turns that are left
pub chosen-left : (turns turn : ℕ) (s : State) (last : Option TaskId) (t : TaskId) → turn < turns → chosen_task s last ≡ Some t → chosen (turns - turn) s last ≡ then_play (chosen (turns - (turn + 1))) s last t (next_event s t)
chosen-left turns turn s last t lt is =
    let left : turns - turn ≡ suc (turns - (turn + 1)) = omega arith in
    ap (λ (n : ℕ). chosen n s last) left ∙ chosen-some (turns - (turn + 1)) s last t is

-- all is made
pub all_made : (core0 core : Made) (whole : Played) (count : ℕ) → Leads core0.state whole → core.state ≡ whole.state → core.made ≡ core0.made + count → count ≡ length whole.events → IsPartMade core0 core whole.events
all_made core0 core whole count leads is made counted = (whole.events, [], append-nil whole.events, is ∙ sym leads.state, omega (arith, made, counted))
