use Rattle.std.proofs.Common.{◌≡◌, ◌∙◌, ◌*◌, ℕ, ap}
use Rattle.square_layout.specs.Blocks.{SquareShares}
use Rattle.axis_roots.proofs.Grids.FilledLemmas.{filled_grid}
use Rattle.axis_roots.proofs.square.extending.fill_grid.Goals as goal

pub returns-clause-extends : goal.returns-clause-extends
returns-clause-extends c =
    let width : c.square.inside.k ≡ c.args.square.now.k = ap (λ (s : SquareShares). s.k) c.square.view_is in
    let copied : c.copy_square.new.grid.k ≡ c.args.square.now.k = c.copy_square.ensures.k ∙ c.requires.grid in
    let half : c.extend_axes.new.grid.k ≡ c.args.square.now.k = c.extend_axes.ensures.k ∙ copied in
    filled_grid c.args.square.now.k c.args.grid.now.k c.copy_square.new.grid.k c.extend_axes.new.grid.k c.square.inside.k (2 * c.square.inside.k)
    c.args.square.now.shares c.copy_square.new.grid.shares c.extend_axes.new.grid.shares c.extend_axes-2.new.grid
    c.requires.grid copied half (c.extend_axes-2.ensures.k ∙ half) width (ap (λ (x : ℕ). 2 * x) width) c.law.ensures
    c.copy_square.ensures.quarter c.extend_axes.ensures.codewords c.extend_axes.ensures.kept c.extend_axes-2.ensures.codewords c.extend_axes-2.ensures.kept
