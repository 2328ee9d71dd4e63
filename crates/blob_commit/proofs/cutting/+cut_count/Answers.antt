use Rattle.std.proofs.Common.{[], length, ap, arith}
use Rattle.blob_commit.proofs.CutLemmas.{cut_none, count_next, pieces-le}
use Rattle.blob_commit.proofs.cutting.+cut_count.Goals as goal

pub returns-then-levels-eq0 : goal.returns-then-levels-eq0
returns-then-levels-eq0 t c = ap length (cut_none [] c.args.levels c.args.count c.if-levels-eq0.true)

-- those of the widest, and those of the rest
pub returns : goal.returns
returns t c =
    count_next c.args.levels c.args.count c.leaf_count-width.result c.cut_count.result (omega (arith, c.if-levels-eq0.false)) c.leaf_count-width.ensures c.cut_count.ensures

-- there are no more sizes than shares
pub overflow_add-result : goal.overflow_add-result
overflow_add-result t c =
    omega (
      arith,
      count_next c.args.levels c.args.count c.leaf_count-width.result c.cut_count.result (omega (arith, c.if-levels-eq0.false)) c.leaf_count-width.ensures c.cut_count.ensures,
      pieces-le c.args.levels c.args.count,
    )
