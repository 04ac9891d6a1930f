use Rattle.std.proofs.Common.{◌≡◌, ◌≤◌, ap, sym, ◌∙◌, subst, ℕ, Option, IfSome}
use Rattle.std.specs.Prelude.{slice_set}
use Rattle.std.proofs.lemmas.Map.Keys.{le_from_is_le}
use Rattle.rt_model.specs.Parts.{effective_of, least, keys_in}
use Rattle.rt_tasks.proofs.Least.{best-top, worse-test, worse-top}
use Rattle.rt_tasks.proofs.task_cell.TaskCell.effective_after.Goals as goal
use Rattle.rt_tasks.proofs.task_cell.TaskCell.effective_after.Goals.{in_default-via-in-Some+else-le, in_default-via-in_default}

pub returns-in-Some : goal.returns-in-Some
returns-in-Some c =
    let best : c.self.inside.effective ≡ effective_of c.args.self.now = c.self.invariant ∙ ap effective_of c.self.view_is in
    let le : c.in-Some.key ≤ c.self.inside.effective = le_from_is_le _ _ (sym c.le.ensures ∙ c.if-le.true) in
    best-top c.args.self.now.own c.args.l.0 c.args.self.now.kept c.in-Some.key c.requires (subst (λ (n : ℕ). c.in-Some.key ≤ n) best le)
    ∙ ap (λ (o : Option ℕ). least c.args.self.now.own (keys_in (slice_set c.args.self.now.kept c.args.l.0 o))) (sym c.in-Some.is)

pub returns-in_default-2 : goal.returns-in_default-2
returns-in_default-2 c =
    let best : c.self.inside.effective ≡ effective_of c.args.self.now = c.self.invariant ∙ ap effective_of c.self.view_is in
    let worse : IfSome c.args.top.now (λ key. effective_of c.args.self.now ≤ key) = elim c.in_default.branch [
      | in_default-via-in-Some+else-le w ↦
          subst (λ (o : Option ℕ). IfSome o (λ key. effective_of c.args.self.now ≤ key)) (sym w.in-Some.is)
          (subst (λ (n : ℕ). n ≤ w.in-Some.key) best (worse-test _ _ (sym w.le.ensures ∙ w.if-le.false)))
      | in_default-via-in_default w ↦ subst (λ (o : Option ℕ). IfSome o (λ key. effective_of c.args.self.now ≤ key)) (sym w.in_default.is) tt
    ] in
    best ∙ worse-top c.args.self.now.own c.args.l.0 c.args.self.now.kept c.args.top.now c.requires worse (c.is_boosted_by.ensures c.if-is_boosted_by.false)
