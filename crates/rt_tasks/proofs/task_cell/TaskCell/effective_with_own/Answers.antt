use Rattle.std.proofs.Common.{◌≡◌, ◌≤◌, ap, sym, ◌∙◌, subst, arith, false, eqb, ℕ}
use Rattle.std.proofs.lemmas.Bool.Decides.{nat_tests}
use Rattle.std.proofs.lemmas.Map.Keys.{le_from_is_le}
use Rattle.rt_model.specs.Parts.{TaskPart, effective_of, keys_in}
use Rattle.rt_tasks.proofs.Least.{best-own, worse-own, worse-test}
use Rattle.rt_tasks.proofs.task_cell.TaskCell.effective_with_own.Goals as goal

pub returns-then-le : goal.returns-then-le
returns-then-le c =
    let best : c.self.inside.effective ≡ effective_of c.args.self.now = c.self.invariant ∙ ap effective_of c.self.view_is in
    best-own c.args.self.now.own c.args.p (keys_in c.args.self.now.kept) (subst (λ (n : ℕ). c.args.p ≤ n) best (le_from_is_le _ _ (sym c.le.ensures ∙ c.if-le.true)))

pub returns-else-eq : goal.returns-else-eq
returns-else-eq c =
    let best : c.self.inside.effective ≡ effective_of c.args.self.now = c.self.invariant ∙ ap effective_of c.self.view_is in
    let own : c.self.inside.own ≡ c.args.self.now.own = ap (λ (t : TaskPart). t.own) c.self.view_is in
    let test : eqb c.self.inside.own c.self.inside.effective ≡ false = sym c.eq.ensures ∙ c.if-eq.false in
    let other : c.self.inside.own ≡ c.self.inside.effective → ⊥ = (λ same. grind (arith, nat_tests)) in
    best ∙ worse-own c.args.self.now.own c.args.p (keys_in c.args.self.now.kept) (subst (λ (n : ℕ). n ≤ c.args.p) best (worse-test _ _ (sym c.le.ensures ∙ c.if-le.false)))
    (λ same. other (own ∙ same ∙ sym best))
