-- The lines of a report, one after another.
use Rattle.std.proofs.Common.{◌≡◌, ◌⊎◌, inl, inr, ℕ, zero, suc, ◌≤◌, List, [], ◌++◌, sym, ap, ◌∙◌, append_assoc, append-nil, arith}
use Rattle.std.proofs.Math.Nat.{le-suc_iff}
use Rattle.rt_base.specs.Script.{Script}
use Rattle.rt_model.specs.State.{State}
use Rattle.rt_core.specs.Report.{report_upto, report_line_of}

-- the first lines are a prefix of more
pub report_upto-prefix : (script : Script) (s : State) (n i : ℕ) → i ≤ n → (rest : List ℕ) × (report_upto script s n ≡ report_upto script s i ++ rest)
report_upto-prefix script s zero i le =
    let same : i ≡ zero = omega arith in
    ([], ap (report_upto script s) (sym same) ∙ sym (append-nil (report_upto script s i)))
report_upto-prefix script s (suc n) i le = further (le-suc_iff.0 le) (report_upto-prefix script s n i)
  where
    further : (i ≤ n) ⊎ (i ≡ suc n) → (i ≤ n → (rest : List ℕ) × (report_upto script s n ≡ report_upto script s i ++ rest)) → (rest : List ℕ) × (report_upto script s (suc n) ≡ report_upto script s i ++ rest)
    further (inl below) prefix =
        let some = prefix below in
        (some.0 ++ report_line_of script s n, ap (λ text. text ++ report_line_of script s n) some.1 ∙ append_assoc (report_upto script s i) some.0 (report_line_of script s n))
    further (inr at) prefix = ([], ap (report_upto script s) (sym at) ∙ sym (append-nil (report_upto script s i)))
