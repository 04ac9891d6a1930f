use Rattle.rt_model.specs.laws.Shape.{IsOf}
use Rattle.rt_laws.proofs.random_tests.finish.Given as goal

abbrev pub invariant-turns : goal.invariant-turns
invariant-turns g l = IsOf l.script l.core.state
