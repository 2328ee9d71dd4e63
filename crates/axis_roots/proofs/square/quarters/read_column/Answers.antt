use Rattle.std.proofs.Common.{◌≡◌, ◌∙◌, ap, arith}
use Rattle.std.proofs.lemmas.List.{get_or_default}
use Rattle.namespace_id.specs.Cells.{cell_in}
use Rattle.namespace_id.proofs.NumberLemmas.{number-lt}
use Rattle.square_layout.specs.Blocks.{SquareShares}
use Rattle.axis_roots.specs.Lines.{blank}
use Rattle.axis_roots.specs.Grids.{share_at}
use Rattle.axis_roots.proofs.Grids.QuarterLemmas.{is_quarter_column, column_next}
use Rattle.axis_roots.proofs.square.quarters.read_column.Goals as goal

pub returns : goal.returns
returns c =
    let width : c.square.inside.k ≡ c.args.square.now.k = ap (λ (s : SquareShares). s.k) c.square.view_is in
    is_quarter_column c.args.square.now.k c.args.square.now.shares c.loop-row.line c.args.col (omega arith)
    (λ row h. c.loop-row.invariant row (omega arith))

-- the next share is that of the next row
pub loop-row-preserved : goal.loop-row-preserved
loop-row-preserved c =
    let width : c.square.inside.k ≡ c.args.square.now.k = ap (λ (s : SquareShares). s.k) c.square.view_is in
    let below = number-lt c.square.inside.k (cell_in c.loop-row.row c.args.col) c.loop-row-test.true (omega arith) in
    column_next c.args.square.now.k c.args.square.now.shares c.loop-row.line c.args.col c.loop-row.row c.index.result.now
    (omega arith)
    (c.index.ensures ∙ get_or_default c.square.inside.shares.items _ _ blank (omega (arith, below, c.square.invariant.count))
    ∙ ap (λ (s : SquareShares). share_at s.k s.shares (cell_in c.loop-row.row c.args.col)) c.square.view_is)
    c.loop-row.invariant
