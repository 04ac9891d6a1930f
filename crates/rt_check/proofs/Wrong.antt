-- A line that isn't due is the first wrong one.
use Rattle.std.proofs.Common.{◌≡◌, ℕ, ◌+◌, ◌<◌, List, [], ◌++◌, length, refl, sym, ap, subst, ◌∙◌, arith}
use Rattle.std.specs.Prelude.{◌^◌, ◌≢◌}
use Rattle.rt_base.specs.Script.{Script, IsScript}
use Rattle.rt_model.specs.declared.event.Event.{Event}
use Rattle.rt_model.specs.State.{start}
use Rattle.rt_model.specs.Run.{after, IsRun}
use Rattle.rt_events.specs.Journal.{header}
use Rattle.rt_core.specs.Report.{report_line_of}
use Rattle.rt_check.specs.Judging.{IsDue}
use Rattle.rt_check.specs.Place.{first_line, at_header, at_event, at_report, before, report_size}
use Rattle.rt_check.specs.MayStand.{IsWhy, no_line}
use Rattle.rt_check.specs.FirstWrong.{IsFirstWrong}
use Rattle.rt_check.proofs.Lines.{IsLine}
use Rattle.rt_check.proofs.Due.{header_due, due, due_line, nothing_due}

module _ (script : Script) (valid : IsScript script) where
  pub wrong_header : (text : List ℕ) → first_line text ≢ header → IsFirstWrong script text 1 1
  wrong_header text other = record {
    place = at_header;
    rest = text;
    run = tt;
    front = refl;
    number = refl;
    wrong = λ events more run e is. other (sym is ∙ header_due script valid events more e);
    cause = no_line at_header (λ may. other (sym may));
  }

  module _ (es : List Event) (run : IsRun (start script) es) (small : 1 + length es < 2 ^ 64) where
    -- where an event or the end line is due
    pub wrong_event : (text rest : List ℕ) (why : ℕ) → text ≡ before script (at_event es) ++ rest → (IsDue script (after (start script) es) (1 + length es) (first_line rest) → ⊥)
        → IsWhy script (first_line rest) (at_event es) why → IsFirstWrong script text (2 + length es) why
    wrong_event text rest why front not_due cause = record {
      place = at_event es;
      rest = rest;
      run = run;
      front = front;
      number = refl;
      wrong = λ events more goes e is. not_due (subst (IsDue script (after (start script) es) (1 + length es)) is (due script valid es run small events more goes e));
      cause = cause;
    }

    -- where a line of the report is due
    pub wrong_report : (text rest : List ℕ) (i why : ℕ) → i < report_size script → IsLine (report_line_of script (after (start script) es) i) → text ≡ before script (at_report es i) ++ rest
        → first_line rest ≢ report_line_of script (after (start script) es) i → IsWhy script (first_line rest) (at_report es i) why → IsFirstWrong script text (3 + length es + i) why
    wrong_report text rest i why lt line front other cause = record {
      place = at_report es i;
      rest = rest;
      run = (run, omega arith);
      front = front;
      number = refl;
      wrong = λ events more goes e is. other (sym is ∙ due_line script valid es run small events i more lt line goes e);
      cause = cause;
    }

    -- something after the report
    pub surplus : (text rest : List ℕ) → text ≡ before script (at_report es (report_size script)) ++ rest → first_line rest ≢ [] → IsFirstWrong script text (3 + length es + report_size script) 1
    surplus text rest front some = record {
      place = at_report es (report_size script);
      rest = rest;
      run = (run, omega arith);
      front = front;
      number = refl;
      wrong = λ events more goes e is. some (sym is ∙ ap first_line (nothing_due script valid es run small events more goes e));
      cause = no_line (at_report es (report_size script)) (λ may. absurd (omega (arith, may.0)));
    }
