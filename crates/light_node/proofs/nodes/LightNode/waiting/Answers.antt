use Rattle.std.proofs.Common.{sym, subst}
use Rattle.light_node.specs.Events.{AreWaitedFor}
use Rattle.light_node.specs.Nodes.{NodeParts, NodeStands}
use Rattle.light_node.proofs.StateLemmas.{are_waited_for_at}
use Rattle.light_node.proofs.nodes.LightNode.waiting.Goals as goal

-- the unmarked wanted cells are those that are waited for
pub returns-clause-filled : goal.returns-clause-filled
returns-clause-filled g c = λ plan events stands.
    subst (λ (n : NodeParts g.row.F.Denot). AreWaitedFor n.header plan events c.fill_unmarked.new.room) c.self.view_is
    (are_waited_for_at g.F.Picker.can_pick g.F.Picker.picks _ c.self.invariant.1 plan events
    (subst (λ (n : NodeParts g.row.F.Denot). NodeStands g.F.Picker.picks n plan events) (sym c.self.view_is) stands)
    c.width.result c.fill_unmarked.new.room c.deref.result.now c.width.ensures.value c.fill_unmarked.ensures.width
    c.cells-cells.ensures.cells
    c.deref.ensures.value c.fill_unmarked.ensures.filled)
