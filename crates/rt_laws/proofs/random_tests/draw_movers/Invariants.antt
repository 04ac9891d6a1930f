use Rattle.rt_model.specs.laws.Shape.{IsOf}
use Rattle.rt_laws.proofs.random_tests.draw_movers.Given as goal

abbrev pub invariant-draws : goal.invariant-draws
invariant-draws g l = IsOf l.script l.core.state
