-- A run that is being made: what is done, and what is still to come. What is told of the events done is a variable.
use Rattle.std.proofs.Common.{◌≡◌, List, [], ◌∷◌, ◌++◌, Option, Some, None, refl, sym, ap, ◌∙◌, subst, append_assoc, append-nil}
use Rattle.rt_base.specs.declared.id.TaskId.{TaskId}
use Rattle.rt_model.specs.declared.event.Event.{Event}
use Rattle.rt_model.specs.State.{State}
use Rattle.rt_model.specs.StateAfter.{state_after}
use Rattle.rt_model.specs.Run.{after}
use Rattle.rt_model.specs.Order.{Played, stop, then_play}
use Rattle.rt_model.proofs.Runs.{after-append}
use Rattle.rt_policy.specs.Moving.{MovesTo, made_of}

-- with an event first
abbrev pub with_event : Event → Played → Played
with_event e more = record more { events = e ∷ more.events }

-- of what is to be played, done is made and told, and rest is to come
pub record Going (s0 : State) (whole rest : Played) (s : State) (Told : List Event → Type 0) : Type 0 where
  pub done : List Event
  pub events : whole.events ≡ done ++ rest.events
  pub state : whole.state ≡ rest.state
  pub last : whole.last ≡ rest.last
  pub now : s ≡ after s0 done
  pub told : Told done

-- at the start
pub begins : (s : State) (whole : Played) {Told : List Event → Type 0} → Told [] → Going s whole whole s Told
begins s whole told = record { done = []; events = refl; state = refl; last = refl; now = refl; told = told }

-- an event more
pub steps : {s0 : State} {whole rest : Played} {s : State} {Told Told' : List Event → Type 0} (more : Played) (s' : State) (e : Event)
    → rest ≡ with_event e more → s' ≡ state_after s e → ((done : List Event) → Told done → Told' (done ++ e ∷ [])) → Going s0 whole rest s Told → Going s0 whole more s' Told'
steps {s0} more s' e is leaves tells going = record {
  done = going.done ++ e ∷ [];
  events = going.events ∙ (ap (λ (r : Played). going.done ++ r.events) is ∙ sym (append_assoc going.done (e ∷ []) more.events));
  state = going.state ∙ ap (λ (r : Played). r.state) is;
  last = going.last ∙ ap (λ (r : Played). r.last) is;
  now = leaves ∙ (ap (λ (t : State). state_after t e) going.now ∙ sym (after-append s0 going.done (e ∷ [])));
  told = tells going.done going.told;
}

-- a task's move, whether it has an event or not
pub moves_on : {s0 : State} {whole : Played} {Told Told' : List Event → Type 0} (rest : State → Option TaskId → Played) (s : State) (last : Option TaskId) (s' : State) (last' : Option TaskId) (t : TaskId) (next : Option Event)
    → MovesTo t next s last s' last' → ((done : List Event) → Told done → Told' (done ++ made_of next)) → Going s0 whole (then_play rest s last t next) s Told → Going s0 whole (rest s' last') s' Told'
moves_on {s0} {whole} {Told} {Told'} rest s last s' last' t None moves tells going =
    let same : Going s0 whole (rest s last) s Told' = record {
      done = going.done;
      events = going.events;
      state = going.state;
      last = going.last;
      now = going.now;
      told = subst Told' (append-nil going.done) (tells going.done going.told);
    } in
    subst (λ (l : Option TaskId). Going s0 whole (rest s' l) s' Told') (sym moves.1)
    (subst (λ (r : State). Going s0 whole (rest r last) r Told') (sym moves.0) same)
moves_on {s0} {whole} {Told} {Told'} rest s last s' last' t (Some e) moves tells going =
    let stepped : Going s0 whole (rest (state_after s e) (Some t)) (state_after s e) Told' = steps (rest (state_after s e) (Some t)) (state_after s e) e refl refl tells going in
    subst (λ (l : Option TaskId). Going s0 whole (rest s' l) s' Told') (sym moves.1)
    (subst (λ (r : State). Going s0 whole (rest r (Some t)) r Told') (sym moves.0) stepped)

-- nothing is to come: all is made and told
pub record Gone (whole : Played) (s : State) (last : Option TaskId) (Told : List Event → Type 0) : Type 0 where
  pub state : s ≡ whole.state
  pub last_is : last ≡ whole.last
  pub told : Told whole.events

pub ends : {s0 : State} {whole : Played} {s : State} {last : Option TaskId} {Told : List Event → Type 0} → Going s0 whole (stop s last) s Told → Gone whole s last Told
ends {Told = Told} going = record {
  state = sym going.state;
  last_is = sym going.last;
  told = subst Told (sym (append-nil going.done) ∙ sym going.events) going.told;
}
