use Rattle.std.proofs.Common.{◌∙◌, ℕ, ◌*◌, sym, ap, subst, true, false, IsTrue}
use Rattle.namespace_id.specs.Cells.{is_width}
use Rattle.axis_roots.proofs.Grids.RootingLemmas.{read_at, ordered-leaves}
use Rattle.axis_roots.proofs.Grids.StoredLemmas.{line_joins, stored_there, stored_missing}
use Rattle.axis_roots.proofs.square.trees.tree_along.Goals as goal

-- the width that was told is the grid's
pub read_leaves-requires-clause-width : goal.read_leaves-requires-clause-width
read_leaves-requires-clause-width c =
    subst (λ (k : ℕ). IsTrue (is_width k)) (sym c.width-k.ensures.value) c.width-k.ensures.grid.width

pub read_leaves-requires-clause-leaves : goal.read_leaves-requires-clause-leaves
read_leaves-requires-clause-leaves c =
    c.requires.leaves.count ∙ ap (λ (k : ℕ). 2 * k * (2 * k)) (sym c.width-k.ensures.value)

pub read_leaves-requires-clause-line : goal.read_leaves-requires-clause-line
read_leaves-requires-clause-line c = c.requires.line ∙ ap (λ (k : ℕ). 2 * k) (sym c.width-k.ensures.value)

-- so the tree has as many leaves as the line
pub put-requires-clause-number : goal.put-requires-clause-number
put-requires-clause-number c =
    c.read_leaves.auto.line ∙ c.requires.line
    ∙ sym (c.in_ok-tree.ensures.count ∙ ap (λ (k : ℕ). 2 * k) c.width-k.ensures.value)

pub returns-then-not-are_ordered : goal.returns-then-not-are_ordered
returns-then-not-are_ordered c =
    let read = read_at c.args.grid.now.k c.width-k.result c.args.grid.now.shares c.args.leaves.now c.read_leaves.new.line c.args.axis c.args.index
    c.width-k.ensures.value c.requires.leaves c.read_leaves.ensures in
    stored_missing c.args.grid.now.k c.args.grid.now.shares c.args.axis c.args.index
    (ordered-leaves c.args.grid.now.k c.args.grid.now.shares c.args.axis c.args.index c.read_leaves.new.line false c.requires.shares read
    (sym c.are_ordered.ensures ∙ c.if-not-are_ordered.true))

pub put-requires-clause-ordered : goal.put-requires-clause-ordered
put-requires-clause-ordered c =
    let read = read_at c.args.grid.now.k c.width-k.result c.args.grid.now.shares c.args.leaves.now c.read_leaves.new.line c.args.axis c.args.index
    c.width-k.ensures.value c.requires.leaves c.read_leaves.ensures in
    line_joins c.args.grid.now.k c.in_ok-tree.tree.count c.args.grid.now.shares c.args.axis c.args.index c.read_leaves.new.line c.width-k.ensures.grid.width
    c.requires.shares
    (ordered-leaves c.args.grid.now.k c.args.grid.now.shares c.args.axis c.args.index c.read_leaves.new.line true c.requires.shares read
    (sym c.are_ordered.ensures ∙ c.if-not-are_ordered.false))
    read (c.in_ok-tree.ensures.count ∙ ap (λ (k : ℕ). 2 * k) c.width-k.ensures.value)

pub returns : goal.returns
returns c =
    let read = read_at c.args.grid.now.k c.width-k.result c.args.grid.now.shares c.args.leaves.now c.read_leaves.new.line c.args.axis c.args.index
    c.width-k.ensures.value c.requires.leaves c.read_leaves.ensures in
    stored_there c.args.grid.now.k c.args.grid.now.shares c.args.axis c.args.index c.read_leaves.new.line c.put.new.self
    (ordered-leaves c.args.grid.now.k c.args.grid.now.shares c.args.axis c.args.index c.read_leaves.new.line true c.requires.shares read
    (sym c.are_ordered.ensures ∙ c.if-not-are_ordered.false))
    read (c.put.ensures.count ∙ c.in_ok-tree.ensures.count ∙ ap (λ (k : ℕ). 2 * k) c.width-k.ensures.value) c.put.ensures.leaves
