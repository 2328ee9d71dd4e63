use Rattle.std.proofs.Common.{◌≡◌, ◌∙◌, ap, arith}
use Rattle.square_layout.specs.Blocks.{SquareShares}
use Rattle.axis_roots.proofs.Grids.QuarterLemmas.{every_next}
use Rattle.axis_roots.proofs.square.quarters.fill_rows.Goals as goal

-- the leaves over the next row are those of every extension too
pub loop-row-preserved : goal.loop-row-preserved
loop-row-preserved c =
    let width : c.square.inside.k ≡ c.args.square.now.k = ap (λ (s : SquareShares). s.k) c.square.view_is in
    record {
      room = c.extend.ensures.kept ∙ c.loop-row.invariant.room;
      leaves = every_next c.args.square.now.k c.square.inside.k c.loop-row.room c.args.square.now.shares c.args.quarter.now
          c.left_half-left.result.now c.extend.new.recovery c.loop-row.leaves c.put_leaves.new.leaves c.put_leaves-in-loop-row.new.leaves c.loop-row.row
          width (c.loop-row.invariant.room ∙ c.requires.room) c.square.invariant.width c.requires.quarter (omega arith)
          c.left_half-left.ensures.half c.left_half-left.ensures.count c.extend.ensures.codeword
          c.put_leaves.ensures.leaves c.put_leaves.ensures.others c.put_leaves-in-loop-row.ensures.leaves c.put_leaves-in-loop-row.ensures.others
          c.loop-row.invariant.leaves;
    }
