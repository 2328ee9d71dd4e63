use Rattle.std.proofs.Common.{◌∙◌, Option, sym, ap, subst, slice_get}
use Rattle.namespace_id.specs.declared.cells.Cell.{Cell}
use Rattle.light_node.specs.Plans.{IsNextWanted}
use Rattle.light_node.specs.Nodes.{NodeParts, IsNode}
use Rattle.light_node.proofs.StateLemmas.{next_is}
use Rattle.light_node.proofs.nodes.LightNode.next_wanted.Goals as goal

-- the cell at the next place is it
pub returns : goal.returns
returns g c = λ plan events stands.
    subst (λ (next : Option Cell). IsNextWanted c.args.self.now.header plan events next)
    (sym (c.copied.ensures ∙ c.get_index.ensures.key ∙ ap (λ (n : NodeParts g.row.F.Denot). slice_get n.wanted n.next)
    c.self.view_is))
    (next_is g.F.Picker.can_pick g.F.Picker.picks c.args.self.now
    (subst (λ (n : NodeParts g.row.F.Denot). IsNode g.F.Picker.can_pick g.F.Picker.picks n) c.self.view_is
    c.self.invariant.1)
    plan events stands)
