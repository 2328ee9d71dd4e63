use Rattle.std.proofs.Common.{◌≡◌, ◌∙◌, [], ◌∷◌, ◌++◌, sym, subst, ap}
use Rattle.data_header.specs.Headers.{Roots}
use Rattle.light_node.specs.declared.events.Event.{Event}
use Rattle.light_node.specs.declared.events.Event.TheVariants.{Sample, Claim}
use Rattle.light_node.specs.Events.{IsState}
use Rattle.light_node.specs.Nodes.{NodeParts, NodeStands}
use Rattle.light_node.proofs.nodes.LightNode.event.Goals.{in-Sample, in-Claim}
use Rattle.light_node.proofs.nodes.LightNode.event.Goals as goal

-- the node stands for one more event
pub returns-clause-stands : goal.returns-clause-stands
returns-clause-stands g c = λ plan events stands. elim c.match-event.branch [
  | in-Sample w ↦
      subst (λ (e : Event). NodeStands g.F.Picker.picks c.match-event.self plan (events ++ e ∷ [])) (sym w.in-Sample.is)
      (subst (λ (n : NodeParts g.row.F.Denot). NodeStands g.F.Picker.picks n plan (events ++ Sample w.in-Sample.message
      ∷ [])) (sym w.self-is) (w.sample.ensures.stands plan events stands))
  | in-Claim w ↦
      subst (λ (e : Event). NodeStands g.F.Picker.picks c.match-event.self plan (events ++ e ∷ [])) (sym w.in-Claim.is)
      (subst (λ (n : NodeParts g.row.F.Denot). NodeStands g.F.Picker.picks n plan (events ++ Claim w.in-Claim.claim ∷
      [])) (sym w.self-is) (w.accuse.ensures.stands plan events stands))
]

-- and has its state
pub returns-clause-state : goal.returns-clause-state
returns-clause-state g c = λ plan events stands.
    let header : c.match-event.self.header ≡ c.args.self.now.header = elim c.match-event.branch [
      | in-Sample w ↦ ap (λ (n : NodeParts g.row.F.Denot). n.header) w.self-is ∙ w.sample.ensures.kept.header
      | in-Claim w ↦ ap (λ (n : NodeParts g.row.F.Denot). n.header) w.self-is ∙ w.accuse.ensures.kept.header
    ] in
    subst (λ (h : Roots). IsState h plan (events ++ c.args.event ∷ []) c.state.result) header
    (c.state.ensures plan (events ++ c.args.event ∷ []) (returns-clause-stands g c plan events stands))
