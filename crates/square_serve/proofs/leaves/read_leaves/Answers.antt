use Rattle.std.proofs.Common.{◌∙◌, sym, arith}
use Rattle.namespace_id.specs.Digests.{no_digest}
use Rattle.axis_roots.specs.Grids.{leaf_over}
use Rattle.axis_roots.proofs.Grids.AxisLemmas.{is_along}
use Rattle.axis_roots.proofs.Grids.LineLemmas.{axis_leaves-cells}
use Rattle.square_serve.proofs.leaves.read_leaves.Goals as goal

pub returns-clause-line : goal.returns-clause-line
returns-clause-line c =
    is_along c.args.grid.now.k (leaf_over c.args.grid.now.k c.args.grid.now.shares) c.args.axis c.args.index no_digest c.loop-pos.line
    (omega arith) (λ pos h. c.loop-pos.invariant.read pos (omega arith))
    ∙ sym (axis_leaves-cells c.args.grid.now.k c.args.grid.now.shares c.args.axis c.args.index)
