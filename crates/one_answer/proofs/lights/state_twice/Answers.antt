use Rattle.std.proofs.Common.{subst}
use Rattle.data_header.specs.Headers.{Roots}
use Rattle.light_node.specs.Events.{IsState}
use Rattle.one_answer.proofs.lights.state_twice.Goals as goal

-- there is one state
pub returns : goal.returns
returns g c = λ plan events stands stood.
    c.light_laws.ensures.state_once c.args.one.now.header plan events _ _ (c.state.ensures plan events stands)
    (subst (λ (h : Roots). IsState h plan events c.state-2.result) c.requires.header (c.state-2.ensures plan events stood))
