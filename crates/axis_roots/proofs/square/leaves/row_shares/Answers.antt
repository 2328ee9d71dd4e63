use Rattle.std.proofs.Common.{◌≡◌, ◌∙◌, ◌+◌, ◌-◌, ◌*◌, ℕ, take, drop, ap, arith}
use Rattle.square_layout.specs.Blocks.{SquareShares}
use Rattle.axis_roots.proofs.Grids.LineLemmas.{row_taken}
use Rattle.axis_roots.proofs.square.leaves.row_shares.Goals as goal

-- they are neighbors in the grid, whose width is the one that was told
pub returns-clause-shares : goal.returns-clause-shares
returns-clause-shares c =
    let start = ap (λ (n : ℕ). c.args.row * (2 * n)) c.width.ensures.value in
    let count : c.args.row * (2 * c.width.result) + 2 * c.width.result - c.args.row * (2 * c.width.result) ≡ 2 * c.args.grid.now.k =
    omega (arith, c.width.ensures.value) in
    let same = c.deref.ensures.value ∙ ap (λ (g : SquareShares). g.shares) c.grid.view_is in
    (λ i. take (count i) (drop (start i) (same i)))
    ∙ row_taken c.args.grid.now.k c.args.row c.args.grid.now.shares c.width.ensures.grid.count c.requires
