use Rattle.std.proofs.Common.{◌≡◌, ap}
use Rattle.namespace_id.specs.declared.cells.Axis.TheVariants.{Row, Col}
use Rattle.axis_roots.specs.Trees.{stored_along}
use Rattle.axis_roots.proofs.Grids.StoredLemmas.{are_trees}
use Rattle.axis_roots.proofs.Grids.MadeLemmas.{found_along, no_rows, no_cols, both_along}
use Rattle.axis_roots.proofs.square.trees.Trees.of.Goals as goal
use Rattle.square_layout.specs.Blocks.{SquareShares}

pub returns-in_default-2 : goal.returns-in_default-2
returns-in_default-2 c =
    no_rows c.args.grid.now.k c.args.grid.now.shares (stored_along c.args.grid.now.k c.args.grid.now.shares Row) _ _ _ c.in_ok-rows.ensures c.in_default-2.is

pub returns-in_default-3 : goal.returns-in_default-3
returns-in_default-3 c =
    no_cols c.args.grid.now.k c.args.grid.now.shares (stored_along c.args.grid.now.k c.args.grid.now.shares Col) _ _ _ c.in_ok-cols.ensures c.in_default-3.is

pub invariant_of-result : goal.invariant_of-result
invariant_of-result c =
    let rows = found_along c.args.grid.now.k c.args.grid.now.shares Row (stored_along c.args.grid.now.k c.args.grid.now.shares Row) _ _ c.in-Some.rows
    c.in_ok-rows.ensures c.in-Some.is in
    let cols = found_along c.args.grid.now.k c.args.grid.now.shares Col (stored_along c.args.grid.now.k c.args.grid.now.shares Col) _ _ c.in-Some-2.cols
    c.in_ok-cols.ensures c.in-Some-2.is in
    are_trees c.args.grid.now.k c.grid.inside.k c.args.grid.now.shares c.in-Some.rows.items c.in-Some-2.cols.items
    (ap (λ (g : SquareShares). g.k) c.grid.view_is) c.grid.invariant.width rows.1 cols.1

pub returns : goal.returns
returns c =
    let rows = found_along c.args.grid.now.k c.args.grid.now.shares Row (stored_along c.args.grid.now.k c.args.grid.now.shares Row) _ _ c.in-Some.rows
    c.in_ok-rows.ensures c.in-Some.is in
    let cols = found_along c.args.grid.now.k c.args.grid.now.shares Col (stored_along c.args.grid.now.k c.args.grid.now.shares Col) _ _ c.in-Some-2.cols
    c.in_ok-cols.ensures c.in-Some-2.is in
    let width : c.grid.inside.k ≡ c.args.grid.now.k = ap (λ (g : SquareShares). g.k) c.grid.view_is in
    both_along c.args.grid.now.k c.args.grid.now.shares _ _ rows.0 cols.0 (λ i. record { k = width i; rows = rows.1 i; cols = cols.1 i })
