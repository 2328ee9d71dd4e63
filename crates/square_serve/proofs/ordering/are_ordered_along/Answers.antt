use Rattle.std.proofs.Common.{◌∙◌, ◌*◌, ◌≡◌, sym, ap, arith, below_more}
use Rattle.square_layout.specs.Blocks.{SquareShares}
use Rattle.axis_roots.proofs.Grids.RootingLemmas.{one_falls, all_ordered}
use Rattle.square_serve.proofs.ordering.are_ordered_along.Goals as goal

pub returns-then-not-is_ordered_axis : goal.returns-then-not-is_ordered_axis
returns-then-not-is_ordered_axis c = λ grid extends.
    let width : c.square.inside.k ≡ c.args.square.now.k = ap (λ (s : SquareShares). s.k) c.square.view_is in
    one_falls c.args.square.now.k (2 * c.args.square.now.k) grid c.args.axis c.loop-index.index (omega (arith, width))
    (sym (c.is_ordered_axis.ensures grid extends) ∙ c.if-not-is_ordered_axis.true)

-- one more
pub loop-index-preserved : goal.loop-index-preserved
loop-index-preserved c = λ grid extends.
    below_more _ _ (c.loop-index.invariant grid extends) (sym (c.is_ordered_axis.ensures grid extends) ∙ c.if-not-is_ordered_axis.false)

pub returns : goal.returns
returns c = λ grid extends.
    let width : c.square.inside.k ≡ c.args.square.now.k = ap (λ (s : SquareShares). s.k) c.square.view_is in
    all_ordered c.args.square.now.k (2 * c.args.square.now.k) grid c.args.axis (λ i h. c.loop-index.invariant grid extends i (omega (arith, h, width)))
