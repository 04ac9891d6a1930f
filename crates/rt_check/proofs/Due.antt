-- Which line is due after the lines of a run's events: how the texts of runs go on that go through a place.
use Rattle.std.proofs.Common.{◌≡◌, inl, inr, ℕ, zero, suc, ◌+◌, ◌-◌, ◌<◌, ◌≤◌, List, [], ◌∷◌, ◌++◌, length, Some, refl, sym, ap, subst, ◌∙◌, arith, append_assoc, append-nil}
use Rattle.std.specs.Prelude.{◌^◌}
use Rattle.std.proofs.lemmas.List.{append_cancel_left}
use Rattle.rt_base.specs.Script.{Script, IsScript}
use Rattle.rt_model.specs.declared.event.Event.{Event}
use Rattle.rt_model.specs.State.{State, start}
use Rattle.rt_model.specs.StateAfter.{state_after}
use Rattle.rt_model.specs.NextEvent.{next_event}
use Rattle.rt_model.specs.Run.{after, ended_of, IsRun}
use Rattle.rt_model.proofs.Prefixes.{run-rest}
use Rattle.rt_model.proofs.Runs.{after-append}
use Rattle.rt_events.specs.Entry.{entry}
use Rattle.rt_events.specs.declared.entry.Entry.{Entry}
use Rattle.rt_events.specs.Journal.{header, lines_of, end_line}
use Rattle.rt_events.specs.Line.{line_of}
use Rattle.rt_events.proofs.LineLaws.{one_entry, one_line}
use Rattle.rt_core.specs.Report.{report_of, report_upto, report_line_of}
use Rattle.rt_core.specs.Text.{text_of}
use Rattle.rt_check.specs.Judging.{IsDue}
use Rattle.rt_check.specs.Place.{first_line, at_event, at_report, before, report_size}
use Rattle.rt_check.proofs.Lines.{IsLine, first_of, same_line, same_rest, header_is_line, end_is_line, no_end}
use Rattle.rt_check.proofs.Reached.{IsReached, reached-start, reached-next, reached-after, entry-fits}

some_is : {A : Type 0} (a b : A) → Some a ≡ Some b → a ≡ b
some_is a b e = cc

in_order : (a b c d e : List ℕ) → a ++ b ++ c ++ d ++ e ≡ a ++ (b ++ (c ++ (d ++ e)))
in_order a b c d e = simp append_assoc refl

module _ (script : Script) (valid : IsScript script) where
  -- the end line and the report
  abbrev pub ending : State → List ℕ
  ending s = end_line (ended_of s) ++ report_of script s

  -- the whole run is these events and others, whose lines follow
  abbrev pub Through : State → ℕ → List Event → List Event → List ℕ → Type 0
  Through s k es whole more = (others : List Event) × (whole ≡ es ++ others) × (more ≡ lines_of script (k + length es) others ++ ending (after s whole))

  one_event : (s : State) (k : ℕ) (d e : Event) → IsReached script s → next_event s d.task ≡ Some d → next_event s e.task ≡ Some e → k < 2 ^ 64 → line_of script (entry k d) ≡ line_of script (entry k e) → d ≡ e
  one_event s k d e here next-d next-e small same =
      let entries : entry k d ≡ entry k e = one_entry script valid (entry k d) (entry k e) (entry-fits script s d k here next-d small) (entry-fits script s e k here next-e small) same in
      let task : d.task ≡ e.task = ap (λ (n : Entry). n.task) entries in
      some_is d e (sym next-d ∙ ap (next_event s) task ∙ next-e)

  -- a run whose text goes on after the lines of these events goes through them
  pub through : (s : State) (k : ℕ) (es whole : List Event) (more : List ℕ) → IsReached script s → IsRun s es → IsRun s whole → k + length es < 2 ^ 64
      → lines_of script k whole ++ ending (after s whole) ≡ lines_of script k es ++ more → Through s k es whole more
  through s k [] whole more here run other small e =
      let number : k ≡ k + 0 = omega arith in
      (whole, refl, sym e ∙ ap (λ n. lines_of script n whole ++ ending (after s whole)) number)
  through s k (e ∷ es) [] more here run other small same =
      let fits = entry-fits script s e k here run.0 (omega arith) in
      let line : end_line (ended_of s) ≡ line_of script (entry k e) =
      same_line _ _ (report_of script s) (lines_of script (k + 1) es ++ more) (end_is_line (ended_of s)) (one_line script valid (entry k e) fits) (same ∙ append_assoc (line_of script (entry k e)) (lines_of script (k + 1) es) more) in
      absurd (no_end script (entry k e) (ended_of s) (omega arith) (sym line))
  through s k (e ∷ es) (d ∷ ds) more here run other small same =
      let d-fits = entry-fits script s d k here other.0 (omega arith) in
      let e-fits = entry-fits script s e k here run.0 (omega arith) in
      let d-line : List ℕ = line_of script (entry k d) in
      let e-line : List ℕ = line_of script (entry k e) in
      let d-rest : List ℕ = lines_of script (k + 1) ds ++ ending (after s (d ∷ ds)) in
      let e-rest : List ℕ = lines_of script (k + 1) es ++ more in
      let grouped : d-line ++ d-rest ≡ e-line ++ e-rest = sym (append_assoc d-line (lines_of script (k + 1) ds) (ending (after s (d ∷ ds)))) ∙ same ∙ append_assoc e-line (lines_of script (k + 1) es) more in
      let line : d-line ≡ e-line = same_line d-line e-line d-rest e-rest (one_line script valid (entry k d) d-fits) (one_line script valid (entry k e) e-fits) grouped in
      let event : d ≡ e = one_event s k d e here other.0 run.0 (omega arith) line in
      let rest : d-rest ≡ e-rest = same_rest d-line e-line d-rest e-rest line grouped in
      let there : IsRun (state_after s e) ds = subst (λ (x : Event). IsRun (state_after s x) ds) event other.1 in
      let rest-there : lines_of script (k + 1) ds ++ ending (after (state_after s e) ds) ≡ e-rest = subst (λ (x : Event). lines_of script (k + 1) ds ++ ending (after (state_after s x) ds) ≡ e-rest) event rest in
      let more-is = through (state_after s e) (k + 1) es ds more (reached-next script s e here run.0) run.1 there (omega arith) rest-there in
      let number : k + 1 + length es ≡ k + length (e ∷ es) = omega arith in
      (more-is.0, (λ i. event i ∷ more-is.1 i), more-is.2 ∙ (λ i. lines_of script (number i) more-is.0 ++ ending (after (state_after s (sym event i)) ds)))

  whole_is : (es : List Event) → text_of script es ≡ header ++ (lines_of script 1 es ++ ending (after (start script) es))
  whole_is es = append_assoc (header ++ lines_of script 1 es) (end_line (ended_of (after (start script) es))) (report_of script (after (start script) es)) ∙ append_assoc header (lines_of script 1 es) (ending (after (start script) es))

  -- ---- the header

  pub header_due : (whole : List Event) (more : List ℕ) → text_of script whole ≡ [] ++ more → first_line more ≡ header
  header_due whole more e = ap first_line (sym e ∙ whole_is whole) ∙ first_of header (lines_of script 1 whole ++ ending (after (start script) whole)) header_is_line

  module _ (es : List Event) (run : IsRun (start script) es) (small : 1 + length es < 2 ^ 64) where
    abbrev s : State
    s = after (start script) es

    here : IsReached script s
    here = reached-after script (start script) es (reached-start script valid) run

    -- a run's text that goes on after the lines of these events
    pub goes_on : (whole : List Event) (more : List ℕ) → IsRun (start script) whole → text_of script whole ≡ header ++ lines_of script 1 es ++ more → Through (start script) 1 es whole more
    goes_on whole more other e =
        through (start script) 1 es whole more (reached-start script valid) run other small (append_cancel_left header _ _ (sym (whole_is whole) ∙ e ∙ append_assoc header (lines_of script 1 es) more))

    -- ---- events and the end line

    due_of : (others : List Event) (more : List ℕ) → IsRun s others → more ≡ lines_of script (1 + length es) others ++ ending (after s others) → IsDue script s (1 + length es) (first_line more)
    due_of [] more run e = inr (sym (ap first_line e ∙ first_of (end_line (ended_of s)) (report_of script s) (end_is_line (ended_of s))))
    due_of (d ∷ ds) more run is =
        let n : ℕ = 1 + length es in
        let fits = entry-fits script s d n here run.0 small in
        let line = ap first_line (is ∙ append_assoc (line_of script (entry n d)) (lines_of script (n + 1) ds) (ending (after s (d ∷ ds)))) ∙ first_of (line_of script (entry n d)) _ (one_line script valid (entry n d) fits) in
        inl (d, run.0, sym line)

    -- it goes on with a line that is due
    pub due : (whole : List Event) (more : List ℕ) → IsRun (start script) whole → text_of script whole ≡ before script (at_event es) ++ more → IsDue script s (1 + length es) (first_line more)
    due whole more other e =
        let t = goes_on whole more other e in
        let goes : IsRun s t.0 = run-rest (start script) es t.0 (subst (λ (w : List Event). IsRun (start script) w) t.1 other) in
        let state : after (start script) whole ≡ after s t.0 = ap (after (start script)) t.1 ∙ after-append (start script) es t.0 in
        due_of t.0 more goes (t.2 ∙ ap (λ (s : State). lines_of script (1 + length es) t.0 ++ ending s) state)

    -- ---- the report

    -- a run whose text goes on with the end line ends there
    ends_here : (others : List Event) (rest more : List ℕ) → IsRun s others → end_line (ended_of s) ++ rest ≡ lines_of script (1 + length es) others ++ more → others ≡ []
    ends_here [] rest more goes e = refl
    ends_here (d ∷ ds) rest more goes e =
        let n : ℕ = 1 + length es in
        let fits = entry-fits script s d n here goes.0 small in
        let line : end_line (ended_of s) ≡ line_of script (entry n d) =
        same_line _ _ _ _ (end_is_line (ended_of s)) (one_line script valid (entry n d) fits) (e ∙ append_assoc (line_of script (entry n d)) (lines_of script (n + 1) ds) more) in
        absurd (no_end script (entry n d) (ended_of s) small (sym line))

    -- a run whose text goes on with the end line is this one, and goes on with its report
    pub ended : (whole : List Event) (rest : List ℕ) → IsRun (start script) whole → text_of script whole ≡ header ++ lines_of script 1 es ++ (end_line (ended_of s) ++ rest) → (whole ≡ es) × (rest ≡ report_of script s)
    ended whole rest other e =
        let t = goes_on whole (end_line (ended_of s) ++ rest) other e in
        let goes : IsRun s t.0 = run-rest (start script) es t.0 (subst (λ (w : List Event). IsRun (start script) w) t.1 other) in
        let none : t.0 ≡ [] = ends_here t.0 rest (ending (after (start script) whole)) goes t.2 in
        let same : whole ≡ es = t.1 ∙ ap (λ (o : List Event). es ++ o) none ∙ append-nil es in
        let all : end_line (ended_of s) ++ rest ≡ ending s = t.2 ∙ (λ i. lines_of script (1 + length es) (none i) ++ ending (after (start script) (same i))) in
        (same, append_cancel_left (end_line (ended_of s)) rest (report_of script s) all)

    -- n lines of the report from line i on
    abbrev lines_from : ℕ → ℕ → List ℕ
    lines_from i zero = []
    lines_from i (suc n) = report_line_of script s i ++ lines_from (i + 1) n

    split_report : (i n : ℕ) → report_upto script s (i + n) ≡ report_upto script s i ++ lines_from i n
    split_report i zero = let k : i + 0 ≡ i = omega arith in ap (report_upto script s) k ∙ sym (append-nil (report_upto script s i))
    split_report i (suc n) =
        let k : i + suc n ≡ suc i + n = omega arith in
        let l : i + 1 ≡ suc i = omega arith in
        ap (report_upto script s) k ∙ split_report (suc i) n ∙ append_assoc (report_upto script s i) (report_line_of script s i) (lines_from (suc i) n) ∙ ap (λ (m : ℕ). report_upto script s i ++ (report_line_of script s i ++ lines_from m n)) (sym l)

    -- what follows i lines of the report
    due_report : (whole : List Event) (i : ℕ) (more : List ℕ) → i ≤ report_size script → IsRun (start script) whole → text_of script whole ≡ before script (at_report es i) ++ more → more ≡ lines_from i (report_size script - i)
    due_report whole i more le other e =
        let h : List ℕ = lines_of script 1 es in
        let f : List ℕ = end_line (ended_of s) in
        let r : List ℕ = report_upto script s i in
        let is = ended whole (r ++ more) other (e ∙ in_order header h f r more ∙ sym (append_assoc header h (f ++ (r ++ more)))) in
        let k : report_size script ≡ i + (report_size script - i) = omega arith in
        append_cancel_left r more _ (is.1 ∙ ap (report_upto script s) k ∙ split_report i (report_size script - i))

    -- the line of the report that is due
    pub due_line : (whole : List Event) (i : ℕ) (more : List ℕ) → i < report_size script → IsLine (report_line_of script s i) → IsRun (start script) whole → text_of script whole ≡ before script (at_report es i) ++ more → first_line more ≡ report_line_of script s i
    due_line whole i more lt line other e =
        let k : report_size script - i ≡ suc (report_size script - suc i) = omega arith in
        ap first_line (due_report whole i more (omega arith) other e ∙ ap (lines_from i) k) ∙ first_of (report_line_of script s i) (lines_from (i + 1) (report_size script - suc i)) line

    -- nothing is due after the report
    pub nothing_due : (whole : List Event) (more : List ℕ) → IsRun (start script) whole → text_of script whole ≡ before script (at_report es (report_size script)) ++ more → more ≡ []
    nothing_due whole more other e =
        let k : report_size script - report_size script ≡ 0 = omega arith in
        due_report whole (report_size script) more (omega arith) other e ∙ ap (lines_from (report_size script)) k
