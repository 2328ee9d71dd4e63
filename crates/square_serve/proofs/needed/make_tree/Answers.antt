use Rattle.std.proofs.Common.{◌≡◌, ◌∙◌, true, ap, arith}
use Rattle.std.proofs.lemmas.List.{get_or_default}
use Rattle.nmt_tree.specs.Trees.{StoredTree}
use Rattle.axis_roots.specs.Grids.{is_ordered_axis}
use Rattle.axis_roots.specs.Trees.{no_tree}
use Rattle.axis_roots.proofs.Grids.HeaderLemmas.{ordered_axis}
use Rattle.axis_roots.proofs.Grids.StoredLemmas.{line_joins}
use Rattle.square_serve.proofs.needed.make_tree.Goals as goal

pub put-requires-clause-ordered : goal.put-requires-clause-ordered
put-requires-clause-ordered c =
    let ordered : is_ordered_axis c.args.grid.now.k c.args.grid.now.shares c.args.axis c.args.index ≡ true =
    ordered_axis c.args.grid.now.k c.args.grid.now.shares c.requires.ordered c.args.axis c.args.index c.requires.index in
    line_joins c.args.grid.now.k _ c.args.grid.now.shares c.args.axis c.args.index c.read_leaves.new.line c.width-k.ensures.grid.width c.requires.shares ordered
    c.read_leaves.ensures.line
    (ap (λ (tree : StoredTree). tree.count) (get_or_default c.args.trees.now c.args.index c.index-trees-index.result no_tree (omega (arith, c.requires.trees.count, c.requires.index)))
    ∙ (c.requires.trees.each c.args.index c.requires.index).count)
