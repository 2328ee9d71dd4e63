use Rattle.axis_roots.proofs.Grids.HeaderLemmas.{ordered_axis}
use Rattle.axis_roots.proofs.Grids.StoredLemmas.{line_joins}
use Rattle.axis_roots.proofs.halves.put_axis.Goals as goal

-- along the axis no namespaces fall
pub put-requires-clause-ordered : goal.put-requires-clause-ordered
put-requires-clause-ordered c =
    let all = c.requires.leaves in
    line_joins c.args.k c.args.tree.now.count all.grid c.args.axis c.args.index c.read_leaves.new.line c.requires.width all.shares
    (ordered_axis c.args.k all.grid all.ordered c.args.axis c.args.index c.requires.index) (c.read_leaves.ensures all.grid all.digests) c.requires.tree
