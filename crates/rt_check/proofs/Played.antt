-- One event more is made, and its line stands before the rest.
use Rattle.std.proofs.Common.{◌≡◌, ℕ, ◌+◌, ◌<◌, List, [], ◌∷◌, ◌++◌, length, refl, sym, ap, ◌∙◌, arith, append_assoc, append-nil, length-append, Some}
use Rattle.std.specs.Prelude.{decimal, ◌^◌}
use Rattle.std.proofs.lemmas.Fmt.{decimal_nonempty}
use Rattle.rt_base.specs.Script.{Script}
use Rattle.rt_model.specs.declared.event.Event.{Event}
use Rattle.rt_model.specs.State.{State, start}
use Rattle.rt_model.specs.StateAfter.{state_after}
use Rattle.rt_model.specs.NextEvent.{next_event}
use Rattle.rt_model.specs.Run.{after}
use Rattle.rt_model.proofs.Runs.{after-append, IsRun-append}
use Rattle.rt_events.specs.Entry.{entry}
use Rattle.rt_events.specs.Journal.{lines_of}
use Rattle.rt_events.specs.Line.{line_of}
use Rattle.rt_events.proofs.LineLaws.{begins}
use Rattle.rt_core.specs.Core.{Made}
use Rattle.rt_check.specs.Judging.{Plays, IsPlayed}

lines_of-append : (script : Script) (number : ℕ) (xs ys : List Event) → lines_of script number (xs ++ ys) ≡ lines_of script number xs ++ lines_of script (number + length xs) ys
lines_of-append script number [] ys = let same : number ≡ number + 0 = omega arith in ap (λ n. lines_of script n ys) same
lines_of-append script number (x ∷ xs) ys =
    let same : number + 1 + length xs ≡ number + length (x ∷ xs) = omega arith in
    ap (λ lines. line_of script (entry number x) ++ lines) (lines_of-append script (number + 1) xs ys ∙ ap (λ n. lines_of script (number + 1) xs ++ lines_of script n ys) same)
    ∙ sym (append_assoc (line_of script (entry number x)) (lines_of script (number + 1) xs) (lines_of script (number + length (x ∷ xs)) ys))

-- before the first event
pub none_played : (script : Script) (text : List ℕ) (core : Made) → core ≡ record { state = start script; made = 0 } → IsPlayed script text core text
none_played script text core is = record { events = []; run = tt; state = is; front = refl }

-- after one more
pub one_played : (script : Script) (text rest more : List ℕ) (old new : Made) → IsPlayed script text old rest → Plays script old rest new more → IsPlayed script text new more
one_played script text rest more old new p plays =
    let e : Event = plays.0 in
    let s : State = after (start script) p.events in
    let state : old.state ≡ s = ap (λ (m : Made). m.state) p.state in
    let made : old.made ≡ length p.events = ap (λ (m : Made). m.made) p.state in
    let next : next_event s e.task ≡ Some e = ap (λ (t : State). next_event t e.task) (sym state) ∙ plays.1 in
    let number : old.made + 1 ≡ 1 + length p.events = omega (arith, made) in
    let count : old.made + 1 ≡ length (p.events ++ e ∷ []) = omega (arith, made, length-append p.events (e ∷ [])) in
    let line : List ℕ = line_of script (entry (1 + length p.events) e) in
    let lines : lines_of script 1 (p.events ++ e ∷ []) ≡ lines_of script 1 p.events ++ line =
    lines_of-append script 1 p.events (e ∷ []) ∙ ap (λ l. lines_of script 1 p.events ++ l) (append-nil line) in
    let here : rest ≡ line ++ more = plays.2 ∙ ap (λ n. line_of script (entry n e) ++ more) number in
    let left : state_after old.state e ≡ after (start script) (p.events ++ e ∷ []) = ap (λ (t : State). state_after t e) state ∙ sym (after-append (start script) p.events (e ∷ [])) in
    record {
      events = p.events ++ e ∷ [];
      run = IsRun-append (start script) p.events (e ∷ []) p.run (next, tt);
      state = plays.3 ∙ (λ i. record { state = left i; made = count i });
      front = p.front ∙ ap (λ l. lines_of script 1 p.events ++ l) here ∙ sym (append_assoc (lines_of script 1 p.events) line more) ∙ ap (λ l. l ++ more) (sym lines);
    }

-- what stands after the line is shorter
pub shorter : (script : Script) (old new : Made) (rest more : List ℕ) → old.made < 2 ^ 62 → Plays script old rest new more → (new.made ≡ old.made + 1) × (length more < length rest)
shorter script old new rest more few plays =
    let e : Event = plays.0 in
    let number : ℕ = old.made + 1 in
    let is = begins script (entry number e) in
    let some : 0 < length (decimal number) = decimal_nonempty number (omega (arith, few)) in
    let line : length (line_of script (entry number e)) ≡ length (decimal number) + length is.0 = ap length is.1 ∙ length-append (decimal number) is.0 in
    let whole : length rest ≡ length (line_of script (entry number e)) + length more = ap length plays.2 ∙ length-append (line_of script (entry number e)) more in
    (ap (λ (m : Made). m.made) plays.3, omega (arith, some, line, whole))
