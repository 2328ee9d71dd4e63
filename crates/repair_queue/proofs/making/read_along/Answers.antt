use Rattle.std.proofs.Common.{◌*◌, arith}
use Rattle.axis_roots.specs.Lines.{blank}
use Rattle.axis_roots.specs.Grids.{share_at}
use Rattle.axis_roots.proofs.Grids.AxisLemmas.{is_along}
use Rattle.repair_queue.proofs.making.read_along.Goals as goal

pub returns : goal.returns
returns c =
    is_along c.args.grid.now.k (share_at (2 * c.args.grid.now.k) c.args.grid.now.shares) c.args.axis c.args.index blank c.loop-pos.line
    (omega arith) (λ pos h. c.loop-pos.invariant pos (omega arith))
