use Rattle.std.proofs.Common.{◌∙◌, List, Bool, ◌++◌, length, take, drop, true≢false, refl, sym, subst, ap}
use Rattle.light_node.specs.Nodes.{NodeParts, NodeStands}
use Rattle.light_node.proofs.StepLemmas.{lent_marks, before_at, still_marked, stands_refused, stands_sample}
use Rattle.light_node.proofs.nodes.LightNode.judge.Goals as goal

-- one that isn't proved
pub returns-in-Err-clause-stands : goal.returns-in-Err-clause-stands
returns-in-Err-clause-stands g c = λ plan events stands.
    let stood = subst (λ (n : NodeParts g.row.F.Denot). NodeStands g.F.Picker.picks n plan events) (sym c.self.view_is)
    stands in
    stands_refused g.F.Picker.picks _ plan events stood c.args.message.now
    (λ proved. true≢false (sym (c.in-Err.ensures.accepts.1 proved)))

-- what was marked stays so
pub first_unmarked-self-inside-requires-clause-before : goal.first_unmarked-self-inside-requires-clause-before
first_unmarked-self-inside-requires-clause-before g c =
    let rest = drop (length c.mark.new.shown) c.self.inside.shown.items in
    let marks = take c.self.inside.shown.len (c.mark.new.shown ++ rest) in
    before_at c.width-k.result c.self.inside.header.k c.deref.result.now marks c.as_slice.result.now
    c.self.inside.wanted.keys c.self.inside.next
    c.width-k.ensures.value c.deref.ensures.value c.as_slice.ensures.keys
    (still_marked g.F.Picker.can_pick g.F.Picker.picks _ c.self.invariant.1 marks c.args.message.now.cell
    (lent_marks c.width-k.result c.self.inside.header.k c.self.inside.shown.len c.deref_mut.result.now
    c.self.inside.shown.items c.mark.new.shown rest
    c.args.message.now.cell c.width-k.ensures.value c.deref_mut.ensures.value
    (c.mark.ensures.marks ∙ ap (λ (l : List Bool). length l) c.deref_mut.ensures.value ∙ sym c.self.inside.shown.ok.0)
    c.mark.ensures.marked))

-- and the cell of a proved sample is marked
pub returns-clause-stands : goal.returns-clause-stands
returns-clause-stands g c = λ plan events stands.
    let stood = subst (λ (n : NodeParts g.row.F.Denot). NodeStands g.F.Picker.picks n plan events) (sym c.self.view_is)
    stands in
    let rest = drop (length c.mark.new.shown) c.self.inside.shown.items in
    let marks = take c.self.inside.shown.len (c.mark.new.shown ++ rest) in
    stands_sample g.F.Picker.picks _ plan events stood c.args.message.now marks c.first_unmarked-self-inside.result
    (c.in_default.ensures.accepts.0 refl)
    (lent_marks c.width-k.result c.self.inside.header.k c.self.inside.shown.len c.deref_mut.result.now
    c.self.inside.shown.items c.mark.new.shown rest
    c.args.message.now.cell c.width-k.ensures.value c.deref_mut.ensures.value
    (c.mark.ensures.marks ∙ ap (λ (l : List Bool). length l) c.deref_mut.ensures.value ∙ sym c.self.inside.shown.ok.0)
    c.mark.ensures.marked)
