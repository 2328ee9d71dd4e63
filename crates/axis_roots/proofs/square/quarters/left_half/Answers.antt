use Rattle.std.proofs.Common.{◌≡◌, ◌∙◌, ◌-◌, ◌*◌, length, sym, ap, arith}
use Rattle.square_layout.specs.Blocks.{SquareShares}
use Rattle.axis_roots.proofs.Grids.QuarterLemmas.{row_cut, length-quarter_row, upper_half, lower_half}
use Rattle.axis_roots.proofs.square.quarters.left_half.Goals as goal

-- above the quarter it is a row of the square
pub returns-then-row-k-clause-half : goal.returns-then-row-k-clause-half
returns-then-row-k-clause-half c =
    row_cut c.square.inside.k c.args.row c.deref.result.now
    ∙ upper_half c.args.square.now.k c.square.inside.k c.args.row c.args.square.now.shares c.args.quarter.now c.deref.result.now
    (ap (λ (s : SquareShares). s.k) c.square.view_is)
    (c.deref.ensures.value ∙ ap (λ (s : SquareShares). s.shares) c.square.view_is) c.if-row-k.true

pub returns-then-row-k-clause-count : goal.returns-then-row-k-clause-count
returns-then-row-k-clause-count c =
    ap length (row_cut c.square.inside.k c.args.row c.deref.result.now)
    ∙ length-quarter_row c.square.inside.k c.args.row c.deref.result.now c.if-row-k.true
    (ap length c.deref.ensures.value ∙ c.square.invariant.count) ∙ ap (λ (s : SquareShares). s.k) c.square.view_is

-- and further down one of the quarter
pub returns-else-row-k-clause-half : goal.returns-else-row-k-clause-half
returns-else-row-k-clause-half c =
    row_cut c.square.inside.k (c.args.row - c.square.inside.k) c.args.quarter.now
    ∙ lower_half c.args.square.now.k c.square.inside.k c.args.row c.args.square.now.shares c.args.quarter.now
    (ap (λ (s : SquareShares). s.k) c.square.view_is) c.if-row-k.false

pub returns-else-row-k-clause-count : goal.returns-else-row-k-clause-count
returns-else-row-k-clause-count c =
    let width : c.square.inside.k ≡ c.args.square.now.k = ap (λ (s : SquareShares). s.k) c.square.view_is in
    ap length (row_cut c.square.inside.k (c.args.row - c.square.inside.k) c.args.quarter.now)
    ∙ length-quarter_row c.square.inside.k (c.args.row - c.square.inside.k) c.args.quarter.now
    (let within = c.requires.row in omega arith)
    (c.requires.quarter ∙ ap (λ (s : SquareShares). s.k * s.k) (sym c.square.view_is)) ∙ width
