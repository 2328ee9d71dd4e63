use Rattle.std.proofs.Common.{◌≡◌, ◌<◌, ◌-◌, length, ap, arith, length-append}
use Rattle.std.proofs.lemmas.List.{get_or_default}
use Rattle.square_layout.specs.Blocks.{SquareShares}
use Rattle.axis_roots.specs.Lines.{blank}
use Rattle.axis_roots.proofs.Grids.QuarterLemmas.{left_cell, right_cell}
use Rattle.namespace_id.proofs.NumberLemmas.{inside}
use Rattle.axis_roots.proofs.square.quarters.share_of.Goals as goal

-- in the left half it is a share of that
pub returns-then-col-k-clause-share : goal.returns-then-col-k-clause-share
returns-then-col-k-clause-share c =
    let width : c.square.inside.k ≡ c.args.square.now.k = ap (λ (s : SquareShares). s.k) c.square.view_is in
    let low : c.args.cell.col < c.square.inside.k = c.if-col-k.true in
    let there : c.args.cell.col < length c.left_half-left.result.now = omega (arith, width, low, c.left_half-left.ensures.count) in
    left_cell c.args.square.now.k c.square.inside.k c.args.square.now.shares c.args.quarter.now c.left_half-left.result.now c.args.cell _
    width c.square.invariant.width c.requires.quarter c.requires.cell c.left_half-left.ensures.half low
    (get_or_default c.left_half-left.result.now c.args.cell.col _ blank there)

-- and in the right half a recovery share of its row
pub returns-clause-share : goal.returns-clause-share
returns-clause-share c =
    let width : c.square.inside.k ≡ c.args.square.now.k = ap (λ (s : SquareShares). s.k) c.square.view_is in
    let col = (inside c.args.square.now.k c.args.cell c.requires.cell).1 in
    let there : c.args.cell.col - c.square.inside.k < length c.extend.new.recovery =
    omega (
      arith,
      width,
      col,
      c.if-col-k.false,
      c.left_half-left.ensures.count,
      c.requires.room,
      c.extend.ensures.codeword.count,
      length-append c.left_half-left.result.now c.extend.new.recovery,
    ) in
    right_cell c.args.square.now.k c.square.inside.k c.args.room.now c.args.square.now.shares c.args.quarter.now c.left_half-left.result.now c.extend.new.recovery
    c.args.cell _ width c.requires.room c.square.invariant.width c.requires.quarter c.requires.cell c.left_half-left.ensures.half
    c.left_half-left.ensures.count c.extend.ensures.codeword c.if-col-k.false
    (get_or_default c.extend.new.recovery (c.args.cell.col - c.square.inside.k) _ blank there)
