use Rattle.std.proofs.Common.{◌≡◌, ℕ, List, Bool, true, subst}
use Rattle.namespace_id.specs.Cells.{is_in_square}
use Rattle.light_node.specs.Nodes.{NodeParts, is_marked}
use Rattle.light_node.proofs.StepLemmas.{stands_marked}
use Rattle.light_node.proofs.nodes.LightNode.sample.Goals as goal

-- a sample of a marked cell
pub returns-then-has_mark-clause-stands : goal.returns-then-has_mark-clause-stands
returns-then-has_mark-clause-stands g c = λ plan events stands.
    stands_marked g.F.Picker.picks c.args.self.now plan events stands c.args.message.now
    (subst (λ (n : NodeParts g.row.F.Denot). is_in_square n.header.k c.args.message.now.cell ≡ true) c.self.view_is
    (subst (λ (k : ℕ). is_in_square k c.args.message.now.cell ≡ true) c.width-k.ensures.value
    (c.has_mark.ensures.inside c.if-has_mark.true)))
    (subst (λ (n : NodeParts g.row.F.Denot). is_marked n.header.k n.shown c.args.message.now.cell ≡ true) c.self.view_is
    (subst (λ (k : ℕ). is_marked k c.self.inside.shown.items c.args.message.now.cell ≡ true) c.width-k.ensures.value
    (subst (λ (marks : List Bool). is_marked c.width-k.result marks c.args.message.now.cell ≡ true) c.deref.ensures.value
    (c.has_mark.ensures.marked c.if-has_mark.true))))
