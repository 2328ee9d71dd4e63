use Rattle.std.proofs.Common.{◌≡◌, ◌+◌, ◌≤◌, ℕ, List, length, true, sym, subst}
use Rattle.std.specs.List.{list_all}
use Rattle.namespace_id.specs.declared.cells.Cell.{Cell}
use Rattle.namespace_id.specs.Cells.{is_in_square}
use Rattle.light_node.specs.Nodes.{NodeParts, NodeStands}
use Rattle.light_node.proofs.StepLemmas.{before_at, unmarked_at}
use Rattle.light_node.proofs.PickLemmas.{wanted_inside, next_within, front_marked, good_more, stands_more}
use Rattle.light_node.proofs.nodes.LightNode.more.Goals as goal

-- the picked cells are in the square
pub first_unmarked-self-inside-requires-clause-inside : goal.first_unmarked-self-inside-requires-clause-inside
first_unmarked-self-inside-requires-clause-inside g c =
    let fits = subst (λ (n : NodeParts g.row.F.Denot). n.planned + c.args.count ≤ n.limit) (sym c.self.view_is)
    c.requires.limit in
    subst (λ (k : ℕ). list_all (is_in_square k) c.as_slice.result.now ≡ true) (sym c.width-k.ensures.value)
    (subst (λ (l : List Cell). list_all (is_in_square c.self.inside.header.k) l ≡ true) (sym c.as_slice.ensures.keys)
    (wanted_inside g.F.Picker.can_pick g.F.Picker.picks _ c.self.invariant.1 c.args.count fits c.want.new.wanted.keys
    c.in_ok-want.ensures.picked))

-- the next place is within the list
pub first_unmarked-self-inside-requires-clause-within : goal.first_unmarked-self-inside-requires-clause-within
first_unmarked-self-inside-requires-clause-within g c =
    let fits = subst (λ (n : NodeParts g.row.F.Denot). n.planned + c.args.count ≤ n.limit) (sym c.self.view_is)
    c.requires.limit in
    subst (λ (l : List Cell). c.self.inside.next ≤ length l) (sym c.as_slice.ensures.keys)
    (next_within g.F.Picker.can_pick g.F.Picker.picks _ c.self.invariant.1 c.args.count fits c.want.new.wanted.keys
    c.in_ok-want.ensures.picked)

-- and the cells in front of it are marked
pub first_unmarked-self-inside-requires-clause-before : goal.first_unmarked-self-inside-requires-clause-before
first_unmarked-self-inside-requires-clause-before g c =
    let fits = subst (λ (n : NodeParts g.row.F.Denot). n.planned + c.args.count ≤ n.limit) (sym c.self.view_is)
    c.requires.limit in
    before_at c.width-k.result c.self.inside.header.k c.deref.result.now c.self.inside.shown.items
    c.as_slice.result.now c.want.new.wanted.keys c.self.inside.next
    c.width-k.ensures.value c.deref.ensures.value c.as_slice.ensures.keys
    (front_marked g.F.Picker.can_pick g.F.Picker.picks _ c.self.invariant.1 c.args.count fits c.want.new.wanted.keys
    c.in_ok-want.ensures.picked)

-- it is a node again
pub invariant_of-self-2 : goal.invariant_of-self-2
invariant_of-self-2 g c = (
  c.self.invariant.0,
  let fits = subst (λ (n : NodeParts g.row.F.Denot). n.planned + c.args.count ≤ n.limit) (sym c.self.view_is)
      c.requires.limit in
      good_more g.F.Picker.can_pick g.F.Picker.picks _ c.self.invariant.1 c.args.count fits c.want.new.wanted.keys
      c.in_ok-want.ensures.picked
      c.first_unmarked-self-inside.result
      (subst (λ (l : List Cell). c.first_unmarked-self-inside.result ≤ length l) c.as_slice.ensures.keys
      c.first_unmarked-self-inside.ensures.within)
      (before_at c.self.inside.header.k c.width-k.result c.self.inside.shown.items c.deref.result.now
      c.want.new.wanted.keys c.as_slice.result.now
      c.first_unmarked-self-inside.result (sym c.width-k.ensures.value) (sym c.deref.ensures.value) (sym
      c.as_slice.ensures.keys)
      c.first_unmarked-self-inside.ensures.before)
      (unmarked_at c.self.inside.header.k c.width-k.result c.self.inside.shown.items c.deref.result.now
      c.want.new.wanted.keys c.as_slice.result.now
      c.first_unmarked-self-inside.result (sym c.width-k.ensures.value) (sym c.deref.ensures.value) (sym
      c.as_slice.ensures.keys)
      c.first_unmarked-self-inside.ensures.unmarked),
  c.self.invariant.2,
)

-- it stands for the longer plan
pub returns-clause-stands : goal.returns-clause-stands
returns-clause-stands g c = λ plan events stands.
    let stood = subst (λ (n : NodeParts g.row.F.Denot). NodeStands g.F.Picker.picks n plan events) (sym c.self.view_is)
    stands in
    let fits = subst (λ (n : NodeParts g.row.F.Denot). n.planned + c.args.count ≤ n.limit) (sym c.self.view_is)
    c.requires.limit in
    stands_more g.F.Picker.can_pick g.F.Picker.picks _ c.self.invariant.1 c.args.count fits c.want.new.wanted.keys
    c.in_ok-want.ensures.picked
    c.first_unmarked-self-inside.result plan events stood
