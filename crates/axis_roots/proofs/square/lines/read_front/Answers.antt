use Rattle.std.proofs.Common.{arith}
use Rattle.axis_roots.proofs.Grids.KeptLemmas.{is_front}
use Rattle.axis_roots.proofs.square.lines.read_front.Goals as goal

pub returns : goal.returns
returns c =
    is_front c.args.grid.now.k c.args.grid.now.shares c.loop-pos.line c.args.axis c.args.index (omega arith)
    (λ pos h. c.loop-pos.invariant pos (omega arith))
