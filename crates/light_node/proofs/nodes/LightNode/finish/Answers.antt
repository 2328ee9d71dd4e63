use Rattle.std.proofs.Common.{◌≡◌, ◌∙◌, List, [], length, true≢false, eqb-true, eq-eqb, sym, subst, ap}
use Rattle.std.proofs.lemmas.List.{nil_from_length}
use Rattle.namespace_id.specs.declared.cells.Cell.{Cell}
use Rattle.namespace_id.specs.Cells.{CellList}
use Rattle.light_node.specs.Events.{NoneAccepted, IsFirstAccepted, AllShown, AreWaitedFor}
use Rattle.light_node.specs.Nodes.{NodeParts, NodeStands}
use Rattle.light_node.proofs.StateLemmas.{are_waited_for_at, none_waited_for}
use Rattle.light_node.proofs.nodes.LightNode.finish.Goals as goal

-- none is waited for
pub returns-then-is_empty : goal.returns-then-is_empty
returns-then-is_empty g c = λ plan events stands.
    let stood = subst (λ (n : NodeParts g.row.F.Denot). NodeStands g.F.Picker.picks n plan events) (sym c.self.view_is)
    stands in
    subst (λ (n : NodeParts g.row.F.Denot). NoneAccepted n.header events × AllShown n.header plan events)
    c.self.view_is (
      subst (IsFirstAccepted c.self.inside.header events) c.in_default.is stood.claim,
      none_waited_for g.F.Picker.can_pick g.F.Picker.picks _ c.self.invariant.1 plan events stood
          c.fill_unmarked.new.room
          (sym c.cells-2.ensures.list ∙ nil_from_length c.cells-2.result.now
          (eqb-true (length c.cells-2.result.now) 0 (sym c.is_empty.ensures ∙ c.if-is_empty.true)))
          (are_waited_for_at g.F.Picker.can_pick g.F.Picker.picks _ c.self.invariant.1 plan events stood
          c.width.result c.fill_unmarked.new.room c.deref.result.now c.width.ensures.value
          c.fill_unmarked.ensures.width c.cells-2.ensures.cells
          c.deref.ensures.value c.fill_unmarked.ensures.filled),
    )

-- or some are
pub returns : goal.returns
returns g c = λ plan events stands.
    let stood = subst (λ (n : NodeParts g.row.F.Denot). NodeStands g.F.Picker.picks n plan events) (sym c.self.view_is)
    stands in
    subst (λ (n : NodeParts g.row.F.Denot). NoneAccepted n.header events × (c.into_cells.result.list ≡ [] → ⊥)
    × AreWaitedFor n.header plan events c.into_cells.result) c.self.view_is (
      subst (IsFirstAccepted c.self.inside.header events) c.in_default.is stood.claim,
      λ none. true≢false (sym (c.is_empty.ensures ∙ eq-eqb (length c.cells-2.result.now) 0
          (ap (λ (l : List Cell). length l) (c.cells-2.ensures.list ∙ ap (λ (r : CellList). r.list) (sym
          c.into_cells.ensures.value) ∙ none)))
          ∙ c.if-is_empty.false),
      subst (λ (r : CellList). AreWaitedFor c.self.inside.header plan events r) (sym c.into_cells.ensures.value)
          (are_waited_for_at g.F.Picker.can_pick g.F.Picker.picks _ c.self.invariant.1 plan events stood
          c.width.result c.fill_unmarked.new.room c.deref.result.now c.width.ensures.value
          c.fill_unmarked.ensures.width c.cells-2.ensures.cells
          c.deref.ensures.value c.fill_unmarked.ensures.filled),
    )
