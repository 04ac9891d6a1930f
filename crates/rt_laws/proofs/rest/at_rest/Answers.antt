use Rattle.std.proofs.Common.{◌∙◌, sym, IsTrue, nat_eq}
use Rattle.std.proofs.lemmas.Bool.{eq-eqb}
use Rattle.rt_model.specs.laws.Rest.{IsAtRest}
use Rattle.rt_model.proofs.Numbers.{same_number}
use Rattle.rt_model.proofs.laws.Rest.{RestLaw-lawful}
use Rattle.rt_laws.proofs.Counted.{rest-counted, counted-rest}
use Rattle.rt_laws.proofs.rest.at_rest.Goals.{After-walks}
use Rattle.rt_laws.proofs.rest.at_rest.Goals as goal

-- where none is counted
at_rest : (c : After-walks) → IsTrue (nat_eq c.walks.result 0) → IsAtRest c.args.core.now.state
at_rest c none = rest-counted c.args.core.now.state (sym c.walks.ensures.walks ∙ same_number c.walks.result 0 none)

pub returns-clause-rest : goal.returns-clause-rest
returns-clause-rest c = (at_rest (goal.at.returns-clause-rest c).After-walks, λ rest. eq-eqb c.walks.result 0 (c.walks.ensures.walks ∙ counted-rest c.args.core.now.state rest))

pub returns-clause-priorities : goal.returns-clause-priorities
returns-clause-priorities c = λ none.
    (RestLaw-lawful c.args.core.now.state c.args.core.now.made c.walks.ensures.lawful).priorities (at_rest (goal.at.returns-clause-priorities c).After-walks none)

pub returns-clause-cycles : goal.returns-clause-cycles
returns-clause-cycles c = λ none.
    (RestLaw-lawful c.args.core.now.state c.args.core.now.made c.walks.ensures.lawful).cycles (at_rest (goal.at.returns-clause-cycles c).After-walks none)
