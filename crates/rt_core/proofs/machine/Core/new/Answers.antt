use Rattle.std.proofs.Common.{◌≡◌, sym, subst, List}
use Rattle.rt_model.specs.State.{State, start}
use Rattle.rt_model.specs.laws.Shape.{IsOf}
use Rattle.rt_model.specs.laws.Lawful.{IsLawful}
use Rattle.rt_model.specs.laws.Cells.{CellsLaw}
use Rattle.rt_model.proofs.Starts.{IsLawful-start, IsOf-start}
use Rattle.rt_model.proofs.laws.Cells.{cells-start}
use Rattle.rt_model.specs.Parts.{ThreadPart}
use Rattle.rt_core.specs.Core.{with_threads}
use Rattle.rt_core.specs.Enabled.{AreKept}
use Rattle.rt_core.proofs.machine.Core.new.Goals.{In_ok-threads}
use Rattle.rt_core.proofs.machine.Core.new.Goals as goal

-- the parts make the script's start state
begun : (c : In_ok-threads) → with_threads c.in_ok-shared.shared c.in_ok-threads.threads.items ≡ start c.args.script.now
begun c = λ i. with_threads (c.in_ok-shared.ensures.start i) (c.in_ok-threads.ensures i)

-- which is lawful
lawful : (c : In_ok-threads) → IsLawful (with_threads c.in_ok-shared.shared c.in_ok-threads.threads.items) 0
lawful c = subst (λ (s : State). IsLawful s 0) (sym (begun c)) (IsLawful-start c.args.script.now c.in_ok-shared.ensures.valid)

pub invariant_of-result : goal.invariant_of-result
invariant_of-result c = (lawful (goal.at.invariant_of-result c).In_ok-threads, subst (λ (threads : List ThreadPart). AreKept (with_threads c.in_ok-shared.shared threads) c.of-enabled.result) c.as_slice.ensures.value c.of-enabled.ensures)

pub returns-clause-script : goal.returns-clause-script
returns-clause-script c = subst (IsOf c.args.script.now) (sym (begun (goal.at.returns-clause-script c).In_ok-threads)) (IsOf-start c.args.script.now)

pub returns-clause-start : goal.returns-clause-start
returns-clause-start c = λ i. record { state = begun (goal.at.returns-clause-start c).In_ok-threads i; made = 0 }

pub returns-clause-lawful : goal.returns-clause-lawful
returns-clause-lawful c = lawful (goal.at.returns-clause-lawful c).In_ok-threads

pub returns-clause-cells : goal.returns-clause-cells
returns-clause-cells c =
    let here = (goal.at.returns-clause-cells c).In_ok-threads in
    subst (CellsLaw c.args.script.now) (sym (begun here)) (cells-start c.args.script.now here.in_ok-shared.ensures.valid)
