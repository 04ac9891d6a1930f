-- What is known at each end of the judging, as the text's first wrong line or as a legal text.
use Rattle.std.proofs.Common.{◌≡◌, inl, inr, ℕ, ◌+◌, ◌<◌, Bool, true, false, cond, List, [], ◌∷◌, ◌++◌, length, refl, sym, ap, subst, ◌∙◌, arith, append_assoc, append-nil, length-append, ◌≤◌}
use Rattle.std.specs.Prelude.{◌^◌, ◌≢◌, ◌==◌}
use Rattle.std.proofs.lemmas.Bool.Decides.{nat_tests}
use Rattle.std.proofs.lemmas.List.{nil_from_length}
use Rattle.rt_base.specs.Script.{Script, IsScript}
use Rattle.rt_base.specs.declared.limits.TheConstants.{TEXT_LIMIT}
use Rattle.rt_base.specs.declared.ended.Ended.{Ended}
use Rattle.rt_model.specs.declared.event.Event.{Event}
use Rattle.rt_model.specs.State.{State, start}
use Rattle.rt_model.specs.Run.{after, ended_of}
use Rattle.rt_events.specs.Entry.{entry}
use Rattle.rt_events.specs.Journal.{header, lines_of, end_line}
use Rattle.rt_events.specs.Line.{line_of}
use Rattle.rt_core.specs.Core.{Made}
use Rattle.rt_core.specs.Report.{report_of, report_upto, report_line_of}
use Rattle.rt_check.specs.declared.why.Wrong.{Wrong}
use Rattle.rt_check.specs.Legal.{IsLegal}
use Rattle.rt_check.specs.Place.{first_line, at_event, at_report, before, report_size}
use Rattle.rt_check.specs.MayStand.{IsWhy}
use Rattle.rt_check.specs.FirstWrong.{IsFirstWrong}
use Rattle.rt_check.specs.Why.{why_number}
use Rattle.rt_check.specs.Judging.{IsDue, PlaysNone, IsPlayed, IsWrongReport}
use Rattle.rt_check.proofs.Lines.{first_rest, not_first}
use Rattle.rt_check.proofs.ReportLines.{report_line_is}
use Rattle.rt_check.proofs.Wrong.{wrong_event, wrong_report, surplus}

-- a text that isn't empty has a first line
some_step : (b : ℕ) (bs : List ℕ) (x : Bool) → cond x (b ∷ []) (b ∷ first_line bs) ≢ []
some_step b bs true e = absurd cc
some_step b bs false e = absurd cc

pub some_line : (text : List ℕ) → text ≢ [] → first_line text ≢ []
some_line [] some = λ e. some refl
some_line (b ∷ bs) some = some_step b bs (b == 10)

pub not_empty : (text : List ℕ) → (length text == 0) ≡ false → text ≢ []
not_empty [] is e = absurd cc
not_empty (b ∷ bs) is e = absurd cc

zero_length : (n : ℕ) → (n == 0) ≡ true → n ≡ 0
zero_length n e = grind (arith, nat_tests)

pub empty : (text : List ℕ) → (length text == 0) ≡ true → text ≡ []
empty text e = nil_from_length text (zero_length (length text) e)

-- fewer events are made than the text has bytes
pub few_made : (text lines rest : List ℕ) (core : Made) → text ≡ header ++ lines → core.made + length rest ≤ length lines → length text < TEXT_LIMIT → core.made < 2 ^ 62
few_made text lines rest core begun long few =
    let whole : length text ≡ length header + length lines = ap length begun ∙ length-append header lines in
    omega (arith, long, few, whole)

three : (a b c : List ℕ) → a ++ (b ++ c) ≡ a ++ b ++ c
three a b c = sym (append_assoc a b c)

five : (a b c d e : List ℕ) → a ++ (b ++ (c ++ (d ++ e))) ≡ a ++ b ++ c ++ d ++ e
five a b c d e = simp append_assoc refl

module _ (script : Script) (valid : IsScript script) (text lines rest : List ℕ) (core : Made) (begun : text ≡ header ++ lines) (p : IsPlayed script lines core rest) (few : core.made < 2 ^ 62) where
  abbrev s : State
  s = after (start script) p.events

  made : core.made ≡ length p.events
  made = ap (λ (m : Made). m.made) p.state

  small : 1 + length p.events < 2 ^ 64
  small = omega (arith, few, made)

  -- the lines of the events stand before the rest
  front : text ≡ before script (at_event p.events) ++ rest
  front = begun ∙ ap (λ l. header ++ l) p.front ∙ three header (lines_of script 1 p.events) rest

  -- nothing that is due begins the rest
  none_due : PlaysNone script (record { state = s; made = length p.events }) rest → ((more : List ℕ) → rest ≢ end_line (ended_of s) ++ more) → IsDue script s (1 + length p.events) (first_line rest) → ⊥
  none_due none other (inl event) =
      let number : 1 + length p.events ≡ length p.events + 1 = omega arith in
      let first = first_rest rest in
      let line : first_line rest ≡ line_of script (entry (length p.events + 1) event.0) = sym event.2 ∙ ap (λ n. line_of script (entry n event.0)) number in
      none event.0 first.0 event.1 (first.1 ∙ ap (λ l. l ++ first.0) line)
  none_due none other (inr end) =
      let first = first_rest rest in
      other first.0 (first.1 ∙ ap (λ l. l ++ first.0) (sym end))

  -- neither a next event's line nor the end line
  pub end_wrong : (line why : ℕ) → line ≡ 2 + core.made → PlaysNone script core rest → ((more : List ℕ) → rest ≢ end_line (ended_of core.state) ++ more) → ((events : List Event) → IsWhy script (first_line rest) (at_event events) why)
      → IsFirstWrong script text line why
  end_wrong line why number none other cause =
      let none-there : PlaysNone script (record { state = s; made = length p.events }) rest = subst (λ (m : Made). PlaysNone script m rest) p.state none in
      let other-there : (more : List ℕ) → rest ≢ end_line (ended_of s) ++ more = subst (λ (m : Made). (more : List ℕ) → rest ≢ end_line (ended_of m.state) ++ more) p.state other in
      let at : 2 + length p.events ≡ line = omega (arith, made, number) in
      subst (λ n. IsFirstWrong script text n why) at (wrong_event script valid p.events p.run small text rest why front (none_due none-there other-there) (cause p.events))

  module _ (report : List ℕ) (ended : rest ≡ end_line (ended_of core.state) ++ report) where
    ended-there : rest ≡ end_line (ended_of s) ++ report
    ended-there = subst (λ (m : Made). rest ≡ end_line (ended_of m.state) ++ report) p.state ended

    -- the end line and some lines of the report, too, stand before what is left
    report_front : (i : ℕ) (left : List ℕ) → report ≡ report_upto script s i ++ left → text ≡ before script (at_report p.events i) ++ left
    report_front i left is =
        begun ∙ ap (λ l. header ++ l) (p.front ∙ ap (λ l. lines_of script 1 p.events ++ l) (ended-there ∙ ap (λ l. end_line (ended_of s) ++ l) is))
        ∙ five header (lines_of script 1 p.events) (end_line (ended_of s)) (report_upto script s i) left

    -- a line that isn't the report's
    pub report_wrong : (first : ℕ) (wrong : Wrong) → first ≡ 3 + core.made → IsWrongReport script core.state first report wrong → IsFirstWrong script text wrong.line (why_number wrong.why)
    report_wrong first wrong number h =
        let w : IsWrongReport script s first report wrong = subst (λ (m : Made). IsWrongReport script m.state first report wrong) p.state h in
        let at : 3 + length p.events + w.i ≡ wrong.line = omega (arith, made, number, w.number) in
        subst (λ n. IsFirstWrong script text n (why_number wrong.why)) at
        (wrong_report script valid p.events p.run small text w.rest w.i (why_number wrong.why) w.within (report_line_is script valid s w.i) (report_front w.i w.rest w.front) (not_first (report_line_of script s w.i) w.rest w.other) (w.cause p.events))

    module _ (more : List ℕ) (reported : report ≡ report_of script core.state ++ more) where
      reported-there : report ≡ report_of script s ++ more
      reported-there = subst (λ (m : Made). report ≡ report_of script m.state ++ more) p.state reported

      -- something after the report
      pub more_wrong : (line : ℕ) → line ≡ 3 + core.made + report_size script → more ≢ [] → IsFirstWrong script text line 1
      more_wrong line number some =
          let at : 3 + length p.events + report_size script ≡ line = omega (arith, made, number) in
          subst (λ n. IsFirstWrong script text n 1) at (surplus script valid p.events p.run small text more (report_front (report_size script) more reported-there) (some_line more some))

      -- nothing after it
      pub legal : (result : Ended) → result ≡ ended_of core.state → more ≡ [] → IsLegal script text result
      legal result is none =
          let state : core.state ≡ s = ap (λ (m : Made). m.state) p.state in
          record {
            events = p.events;
            run = p.run;
            is = report_front (report_size script) more reported-there ∙ ap (λ l. before script (at_report p.events (report_size script)) ++ l) none ∙ append-nil (before script (at_report p.events (report_size script)));
            end = is ∙ ap ended_of state;
          }
