use Rattle.std.proofs.Common.{◌∙◌, length, ap}
use Rattle.square_layout.specs.Blocks.{SquareShares}
use Rattle.square_serve.proofs.RowFrontLemmas.{grid_row, length-front}
use Rattle.square_serve.proofs.rows.front_of.Goals as goal

pub returns-clause-count : goal.returns-clause-count
returns-clause-count c =
    ap length (grid_row c.args.grid.now.k c.width-k.result c.args.grid.now.shares c.deref.result.now c.args.row c.width-k.ensures.value
    (c.deref.ensures.value ∙ ap (λ (g : SquareShares). g.shares) c.grid.view_is) c.width-k.ensures.grid.count c.requires)
    ∙ length-front c.args.grid.now.k c.args.grid.now.shares c.args.row

pub returns-clause-shares : goal.returns-clause-shares
returns-clause-shares c =
    grid_row c.args.grid.now.k c.width-k.result c.args.grid.now.shares c.deref.result.now c.args.row c.width-k.ensures.value
    (c.deref.ensures.value ∙ ap (λ (g : SquareShares). g.shares) c.grid.view_is) c.width-k.ensures.grid.count c.requires
