use Rattle.std.proofs.Common.{◌≡◌, ap, sym, ◌∙◌, arith, false, eqb, ℕ, List, Option, Some}
use Rattle.std.specs.Option.{option_eq}
use Rattle.std.proofs.lemmas.Bool.Decides.{nat_tests}
use Rattle.rt_model.specs.Parts.{TaskPart, effective_of}
use Rattle.rt_tasks.specs.KeptTops.{key_at}
use Rattle.rt_tasks.proofs.Least.{stays-own, stays-top}
use Rattle.rt_tasks.proofs.task_cell.TaskCell.is_boosted_by.Goals as goal

pub returns-then-ne : goal.returns-then-ne
returns-then-ne c = λ not.
    let best : c.self.inside.effective ≡ effective_of c.args.self.now = c.self.invariant ∙ ap effective_of c.self.view_is in
    let kept : c.self.inside.kept ≡ c.args.self.now.kept = ap (λ (t : TaskPart). t.kept) c.self.view_is in
    let top : c.get.result ≡ key_at c.args.self.now.kept c.args.l.0 = c.get.ensures ∙ ap (λ (xs : List (Option ℕ)). key_at xs c.args.l.0) kept in
    let test : option_eq eqb c.get.result (Some c.self.inside.effective) ≡ false = sym c.eq.ensures ∙ not in
    stays-top c.args.self.now.own c.args.l.0 c.args.self.now.kept ((λ i. option_eq eqb (sym top i) (Some (sym best i))) ∙ test)

pub returns-else-ne : goal.returns-else-ne
returns-else-ne c = λ not.
    let best : c.self.inside.effective ≡ effective_of c.args.self.now = c.self.invariant ∙ ap effective_of c.self.view_is in
    let own : c.self.inside.own ≡ c.args.self.now.own = ap (λ (t : TaskPart). t.own) c.self.view_is in
    let same : c.self.inside.own ≡ c.self.inside.effective = (let test = c.ne.ensures in let no = c.if-ne.false in grind (arith, nat_tests)) in
    stays-own c.args.self.now.own c.args.l.0 c.args.self.now.kept (sym own ∙ same ∙ best)
