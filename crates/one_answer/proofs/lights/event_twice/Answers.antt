use Rattle.std.proofs.Common.{◌++◌, ◌∷◌, [], subst}
use Rattle.data_header.specs.Headers.{Roots}
use Rattle.light_node.specs.declared.events.Event.{Event}
use Rattle.light_node.specs.Events.{IsState}
use Rattle.one_answer.proofs.lights.event_twice.Goals as goal

-- there is one state
pub returns : goal.returns
returns g c = λ plan events stands stood.
    c.light_laws.ensures.state_once c.args.one.now.header plan (events ++ c.args.event ∷ []) _ _
    (c.event-first.ensures.state plan events stands)
    (subst (λ (e : Event). IsState c.args.one.now.header plan (events ++ e ∷ []) c.event-second.result) c.requires.copy
    (subst (λ (h : Roots). IsState h plan (events ++ c.args.copy ∷ []) c.event-second.result) c.requires.header
    (c.event-second.ensures.state plan events stood)))
