use Rattle.std.proofs.Common.{◌<◌, ◌∙◌, length, refl, arith, sym}
use Rattle.nmt_proofs.proofs.PartialLemmas.{right_index, leaf_value, left_half, right_half, left_asked, right_asked}
use Rattle.nmt_proofs.proofs.Parts.ValueLemmas.{value_given, left_unordered, right_unordered, both_ordered}
use Rattle.nmt_proofs.proofs.partial.+fold.Goals as goal

-- a leaf has the digest that is shown
pub returns-then-depth-eq0-clause-value : goal.returns-then-depth-eq0-clause-value
returns-then-depth-eq0-clause-value t c = leaf_value c.args.depth c.args.start c.args.leaf.now.from c.args.leaf.now.digest c.args.path.now c.if-depth-eq0.true

-- the left half is a shorter interval, with a node less
pub fold-requires : goal.fold-requires
fold-requires t c = (
  omega arith,
  left_asked c.args.i c.args.depth c.args.start c.args.nodes.now c.args.path.now (omega arith) c.requires.place c.requires.depth c.requires.interval
      c.requires.bound c.requires.memory c.requires.count c.requires.joined,
)

-- and so is the right one
pub fold-requires-else-leaf-middle : goal.fold-requires-else-leaf-middle
fold-requires-else-leaf-middle t c = (
  omega arith,
  right_asked c.args.i c.args.depth c.args.start c.leaf_count.result c.args.nodes.now c.args.path.now (omega arith) c.leaf_count.ensures c.requires.depth
      c.requires.interval c.requires.bound c.requires.memory c.requires.count c.requires.joined,
)

-- a join below that is not ordered leaves no digest
pub returns-in_err-below-clause-value : goal.returns-in_err-below-clause-value
returns-in_err-below-clause-value t c =
    let deep : 0 < c.args.depth = omega arith in
    c.from_residual.ensures
    ∙ left_unordered _ _ _ (left_half c.args.depth c.args.start c.leaf_count.result c.args.leaf.now.from c.args.leaf.now.digest c.args.path.now deep c.leaf_count.ensures c.if-leaf-middle.true c.requires.count)
    (sym c.in_err-below.was ∙ c.fold.ensures.value)

pub returns-in_err-below-2-clause-value : goal.returns-in_err-below-2-clause-value
returns-in_err-below-2-clause-value t c =
    let deep : 0 < c.args.depth = omega arith in
    c.from_residual-in_err-below-2.ensures
    ∙ right_unordered _ _ _ _ (right_half c.args.depth c.args.start c.leaf_count.result c.args.leaf.now.from c.args.leaf.now.digest c.args.path.now deep c.leaf_count.ensures c.if-leaf-middle.false c.requires.count)
    (value_given _ _ refl) (sym c.in_err-below-2.was ∙ c.fold-else-leaf-middle.ensures.value)

-- both halves are nodes
pub known_node-requires-clause-bound : goal.known_node-requires-clause-bound
known_node-requires-clause-bound t c =
    let deep : 0 < c.args.depth = omega arith in
    omega (arith, c.fold.ensures.length, right_index c.args.i c.args.depth (length c.args.nodes.now) deep c.requires.bound)

pub known_node-requires-else-leaf-middle-clause-bound : goal.known_node-requires-else-leaf-middle-clause-bound
known_node-requires-else-leaf-middle-clause-bound t c =
    let deep : 0 < c.args.depth = omega arith in
    omega (arith, c.fold-else-leaf-middle.ensures.length, right_index c.args.i c.args.depth (length c.args.nodes.now) deep c.requires.bound)

-- the digests of the halves are joined
pub returns-in_ok-below-clause-value : goal.returns-in_ok-below-clause-value
returns-in_ok-below-clause-value t c =
    let deep : 0 < c.args.depth = omega arith in
    both_ordered _ _ _ _ _ _
    (left_half c.args.depth c.args.start c.leaf_count.result c.args.leaf.now.from c.args.leaf.now.digest c.args.path.now deep c.leaf_count.ensures c.if-leaf-middle.true c.requires.count)
    (sym c.in_ok-below.was ∙ c.fold.ensures.value) (value_given _ _ refl) c.known_node.ensures

pub returns-in_ok-below-2-clause-value : goal.returns-in_ok-below-2-clause-value
returns-in_ok-below-2-clause-value t c =
    let deep : 0 < c.args.depth = omega arith in
    both_ordered _ _ _ _ _ _
    (right_half c.args.depth c.args.start c.leaf_count.result c.args.leaf.now.from c.args.leaf.now.digest c.args.path.now deep c.leaf_count.ensures c.if-leaf-middle.false c.requires.count)
    (value_given _ _ refl) (sym c.in_ok-below-2.was ∙ c.fold-else-leaf-middle.ensures.value) c.known_node-else-leaf-middle.ensures
