use Rattle.std.proofs.Common.{◌-◌, arith}
use Rattle.share_split.proofs.Writing.Count.{div_ceil-le}
use Rattle.share_split.proofs.blobs.count_from.Goals as goal

-- no more shares than bytes, of which the first share has one
pub overflow_add-result : goal.overflow_add-result
overflow_add-result c =
    omega (arith, div_ceil-le (c.args.size - c.args.first) c.args.later (omega (arith, c.requires.later)), c.div_ceil.ensures)
