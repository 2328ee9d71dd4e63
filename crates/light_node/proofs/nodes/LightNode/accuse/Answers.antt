use Rattle.std.proofs.Common.{◌∙◌, [], ◌∷◌, ◌++◌, Some, true≢false, refl, sym, subst, ap}
use Rattle.axis_roots.specs.Claims.{ClaimParts}
use Rattle.light_node.specs.declared.events.Event.TheVariants.{Claim}
use Rattle.light_node.specs.Nodes.{NodeParts, NodeStands}
use Rattle.light_node.proofs.StepLemmas.{kept_first, refused_first, accepted_first, stands_claim}
use Rattle.light_node.proofs.nodes.LightNode.accuse.Goals as goal

-- a claim is kept already
pub returns-then-is_some-clause-stands : goal.returns-then-is_some-clause-stands
returns-then-is_some-clause-stands g c = λ plan events stands.
    let stood = subst (λ (n : NodeParts g.row.F.Denot). NodeStands g.F.Picker.picks n plan events) (sym c.self.view_is)
    stands in
    subst (λ (n : NodeParts g.row.F.Denot). NodeStands g.F.Picker.picks n plan (events ++ Claim c.args.claim ∷ []))
    c.self.view_is
    (stands_claim g.F.Picker.picks _ plan events stood c.args.claim c.self.inside.claim
    (kept_first c.self.inside.header events (Claim c.args.claim) c.self.inside.claim (sym c.is_some.ensures ∙
    c.if-is_some.true) stood.claim))

-- none is, and this one is accepted
pub returns-clause-stands : goal.returns-clause-stands
returns-clause-stands g c = λ plan events stands.
    let stood = subst (λ (n : NodeParts g.row.F.Denot). NodeStands g.F.Picker.picks n plan events) (sym c.self.view_is)
    stands in
    stands_claim g.F.Picker.picks _ plan events stood c.args.claim c.replace.new.self
    (accepted_first c.self.inside.header events c.args.claim c.self.inside.claim c.replace.new.self (sym
    c.is_some.ensures ∙ c.if-is_some.false)
    stood.claim (c.in-Ok.ensures.accepts.0 refl) (c.replace.ensures.after ∙ ap (λ (claim : ClaimParts). Some claim)
    c.in-Ok.ensures.upheld))

-- or it isn't
pub returns-in_default-clause-stands : goal.returns-in_default-clause-stands
returns-in_default-clause-stands g c = λ plan events stands.
    let stood = subst (λ (n : NodeParts g.row.F.Denot). NodeStands g.F.Picker.picks n plan events) (sym c.self.view_is)
    stands in
    stands_claim g.F.Picker.picks _ plan events stood c.args.claim c.self.inside.claim
    (refused_first c.self.inside.header events c.args.claim c.self.inside.claim (sym c.is_some.ensures ∙
    c.if-is_some.false) stood.claim
    (λ accepts. true≢false (sym (c.in_default.ensures.accepts.1 accepts))))
