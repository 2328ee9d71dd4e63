use Rattle.std.proofs.Common.{◌≡◌, ◌∙◌, ap, arith}
use Rattle.square_layout.specs.Blocks.{SquareShares}
use Rattle.axis_roots.proofs.Grids.QuarterLemmas.{columns_next}
use Rattle.axis_roots.proofs.square.quarters.fill_quarter.Goals as goal

-- the next column is a codeword too
pub loop-col-preserved : goal.loop-col-preserved
loop-col-preserved c =
    let width : c.square.inside.k ≡ c.args.square.now.k = ap (λ (s : SquareShares). s.k) c.square.view_is in
    record {
      room = c.extend.ensures.kept ∙ c.loop-col.invariant.room;
      codewords = columns_next c.args.square.now.k c.loop-col.room c.square.inside.k c.args.square.now.shares c.loop-col.quarter c.write_column.new.quarter
          c.read_column.new.line c.extend.new.recovery c.loop-col.col (c.loop-col.invariant.room ∙ c.requires.room) width (omega arith)
          c.read_column.ensures c.extend.ensures.codeword c.write_column.ensures.column c.write_column.ensures.others c.loop-col.invariant.codewords;
    }
