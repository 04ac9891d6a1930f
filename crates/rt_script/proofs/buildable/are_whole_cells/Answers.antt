use Rattle.std.proofs.Common.{◌≡◌, ◌∙◌, [], drop, Some, None, ap, sym}
use Rattle.std.proofs.lemmas.Bool.{eq-eqb, eqb-true}
use Rattle.std.proofs.lemmas.List.{drop_all}
use Rattle.rt_script.proofs.Buildability.{never, missing_after, missing_stop, some_missing, whole-none_missing}
use Rattle.rt_script.proofs.buildable.are_whole_cells.Goals as goal

pub returns-in-None : goal.returns-in-None
returns-in-None c =
    let stop : missing_after c.args.cpus c.loop-kind.missing (drop c.loop-kind.kind-index c.args.locks.now) ≡ None = missing_stop c.args.cpus c.loop-kind.missing c.args.locks.now c.loop-kind.kind-index _ c.loop-kind-test.true (sym c.cells_missing.ensures ∙ c.in-None.is) in
    (never, (λ h. let whole : missing_after c.args.cpus 0 c.args.locks.now ≡ Some 0 = (whole-none_missing c.args.cpus c.args.locks.now c.requires).1 h in absurd cc))

pub returns : goal.returns
returns c =
    let end : drop c.loop-kind.kind-index c.args.locks.now ≡ [] = drop_all c.loop-kind.kind-index c.args.locks.now c.loop-kind-test.false in
    let left : missing_after c.args.cpus 0 c.args.locks.now ≡ Some c.loop-kind.missing = sym c.loop-kind.invariant ∙ ap (missing_after c.args.cpus c.loop-kind.missing) end in
    let both = whole-none_missing c.args.cpus c.args.locks.now c.requires in
    ((λ e. both.0 (left ∙ ap Some (eqb-true c.loop-kind.missing 0 e))), (λ h. eq-eqb c.loop-kind.missing 0 (some_missing c.loop-kind.missing (sym left ∙ both.1 h))))
