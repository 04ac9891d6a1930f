-- The lines that are told of a run that is being made.
use Rattle.std.proofs.Common.{◌≡◌, ℕ, ◌+◌, List, [], ◌∷◌, ◌++◌, length, Option, Some, None, refl, sym, ap, ◌∙◌, subst, append_assoc, append-nil, length-append, add-zero, arith}
use Rattle.rt_base.specs.Script.{Script}
use Rattle.rt_base.specs.Outside.{AppendsPrefix}
use Rattle.rt_base.specs.declared.id.TaskId.{TaskId}
use Rattle.rt_model.specs.declared.event.Event.{Event}
use Rattle.rt_model.specs.State.{State}
use Rattle.rt_model.specs.StateAfter.{state_after}
use Rattle.rt_model.specs.Run.{after}
use Rattle.rt_model.specs.Order.{Played, then_play}
use Rattle.rt_events.specs.Entry.{entry}
use Rattle.rt_events.specs.Line.{line_of}
use Rattle.rt_events.specs.Journal.{lines_of}
use Rattle.rt_policy.specs.declared.progress.Progress.{Progress}
use Rattle.rt_policy.specs.Printing.{HandsOn}
use Rattle.rt_policy.specs.Playing.{Moves, Stops}
use Rattle.rt_policy.specs.Moving.{MovesTo, made_of}
use Rattle.rt_policy.proofs.Going.{Going, with_event}
use Rattle.rt_policy.proofs.Printed.{HandsOn-nothing, HandsOn-then, HandsOn-stopped}

-- lines of events and of more events
pub lines_of-append : (script : Script) (number : ℕ) (xs ys : List Event) → lines_of script number (xs ++ ys) ≡ lines_of script number xs ++ lines_of script (number + length xs) ys
lines_of-append script number [] ys = ap (λ n. lines_of script n ys) (sym (add-zero number))
lines_of-append script number (x ∷ xs) ys =
    let next : number + 1 + length xs ≡ number + length (x ∷ xs) = omega arith in
    ap (λ text. line_of script (entry number x) ++ text) (lines_of-append script (number + 1) xs ys ∙ ap (λ n. lines_of script (number + 1) xs ++ lines_of script n ys) next)
    ∙ sym (append_assoc (line_of script (entry number x)) (lines_of script (number + 1) xs) (lines_of script (number + length (x ∷ xs)) ys))

-- so many events are made, and their lines are told
pub record IsTold (script : Script) (first : ℕ) (h0 : Option (List ℕ)) (b0 : List ℕ) (count : ℕ) (h : Option (List ℕ)) (b : List ℕ) (done : List Event) : Type 0 where
  pub counted : count ≡ length done
  pub printed : HandsOn h0 b0 (lines_of script first done) h b

-- at the start
pub told_none : (script : Script) (first : ℕ) (h : Option (List ℕ)) (b : List ℕ) → IsTold script first h b 0 h b []
told_none script first h b = record { counted = refl; printed = HandsOn-nothing h b }

-- where a task moves, and what is told then
pub moves_to : (script : Script) (first : ℕ) (t : TaskId) (next : Option Event) (s s' : State) (so_far now : Progress) (h : Option (List ℕ)) (b : List ℕ) (h' : Option (List ℕ)) (b' : List ℕ)
    → Moves script first t next s s' so_far now h b h' b' → MovesTo t next s so_far.last s' now.last
moves_to script first t None s s' so_far now h b h' b' moves = (moves.0, ap (λ (p : Progress). p.last) moves.1)
moves_to script first t (Some e) s s' so_far now h b h' b' moves = (moves.0, ap (λ (p : Progress). p.last) moves.1)

pub told_more : (script : Script) (first : ℕ) (t : TaskId) (next : Option Event) (s s' : State) (so_far now : Progress) (h0 : Option (List ℕ)) (b0 : List ℕ) (h : Option (List ℕ)) (b : List ℕ) (h' : Option (List ℕ)) (b' : List ℕ) (done : List Event)
    → Moves script first t next s s' so_far now h b h' b' → IsTold script first h0 b0 so_far.count h b done → IsTold script first h0 b0 now.count h' b' (done ++ made_of next)
told_more script first t None s s' so_far now h0 b0 h b h' b' done moves told =
    let count : now.count ≡ so_far.count = ap (λ (p : Progress). p.count) moves.1 in
    record {
      counted = omega (arith, told.counted, count, length-append done []);
      printed = subst (λ (text : List ℕ). HandsOn h0 b0 text h' b') (append-nil (lines_of script first done) ∙ ap (lines_of script first) (sym (append-nil done)))
          (HandsOn-then h0 h h' b0 b b' (lines_of script first done) [] told.printed moves.2);
    }
told_more script first t (Some e) s s' so_far now h0 b0 h b h' b' done moves told =
    let count : now.count ≡ so_far.count + 1 = ap (λ (p : Progress). p.count) moves.1 in
    let one : line_of script (entry (first + so_far.count) e) ≡ lines_of script (first + length done) (e ∷ []) =
    ap (λ n. line_of script (entry (first + n) e)) told.counted ∙ sym (append-nil (line_of script (entry (first + length done) e))) in
    record {
      counted = omega (arith, told.counted, count, length-append done (e ∷ []));
      printed = subst (λ (text : List ℕ). HandsOn h0 b0 text h' b') (ap (λ text. lines_of script first done ++ text) one ∙ sym (lines_of-append script first done (e ∷ [])))
          (HandsOn-then h0 h h' b0 b b' (lines_of script first done) (line_of script (entry (first + so_far.count) e)) told.printed moves.2);
    }

-- some first part of these events is done, and so many they are
abbrev pub IsPartDone : State → State → List Event → ℕ → Type 0
IsPartDone s0 s events count = (first : List Event) × (rest : List Event) × (first ++ rest ≡ events) × (s ≡ after s0 first) × (count ≡ length first)

-- a fault at the next event: the sink holds a prefix of all the lines, and a first part of the events is made
pub fails : (script : Script) (first : ℕ) (s0 : State) (whole rest more : Played) (s : State) (count : ℕ) (e : Event) (h0 : Option (List ℕ)) (b0 : List ℕ) (h : Option (List ℕ)) (b : List ℕ) (h' : Option (List ℕ))
    → rest ≡ with_event e more → AppendsPrefix h (b ++ line_of script (entry (first + count) e)) h'
    → Going s0 whole rest s (IsTold script first h0 b0 count h b) → AppendsPrefix h0 (b0 ++ lines_of script first whole.events) h' × IsPartDone s0 s whole.events count
fails script first s0 whole rest more s count e h0 b0 h b h' is cut going =
    let all : whole.events ≡ going.done ++ (e ∷ more.events) = going.events ∙ ap (λ (r : Played). going.done ++ r.events) is in
    let number : first + count ≡ first + length going.done = ap (λ n. first + n) going.told.counted in
    let text : lines_of script first going.done ++ (line_of script (entry (first + count) e) ++ lines_of script (first + length going.done + 1) more.events) ≡ lines_of script first whole.events =
    ap (λ n. lines_of script first going.done ++ (line_of script (entry n e) ++ lines_of script (first + length going.done + 1) more.events)) number
    ∙ (sym (lines_of-append script first going.done (e ∷ more.events)) ∙ ap (lines_of script first) (sym all)) in (
      subst (λ (bytes : List ℕ). AppendsPrefix h0 (b0 ++ bytes) h') text
          (HandsOn-stopped h0 h h' b0 b (lines_of script first going.done) (line_of script (entry (first + count) e)) (lines_of script (first + length going.done + 1) more.events) going.told.printed cut),
      (going.done, e ∷ more.events, sym all, going.now, going.told.counted),
    )

-- a fault at a task's move
pub stops_at : (script : Script) (first : ℕ) (s0 : State) (whole : Played) (rest : State → Option TaskId → Played) (s s' : State) (t : TaskId) (next : Option Event) (so_far : Progress) (h0 : Option (List ℕ)) (b0 : List ℕ) (h : Option (List ℕ)) (b : List ℕ) (h' : Option (List ℕ))
    → Stops script first next s s' so_far h b h' → Going s0 whole (then_play rest s so_far.last t next) s (IsTold script first h0 b0 so_far.count h b) → AppendsPrefix h0 (b0 ++ lines_of script first whole.events) h' × IsPartDone s0 s' whole.events so_far.count
stops_at script first s0 whole rest s s' t None so_far h0 b0 h b h' stops going = absurd stops
stops_at script first s0 whole rest s s' t (Some e) so_far h0 b0 h b h' stops going =
    let cut = fails script first s0 whole (with_event e (rest (state_after s e) (Some t))) (rest (state_after s e) (Some t)) s so_far.count e h0 b0 h b h' refl stops.1 going in
    (cut.0, subst (λ (r : State). IsPartDone s0 r whole.events so_far.count) (sym stops.0) cut.1)
