use Rattle.namespace_id.specs.declared.cells.Axis.TheVariants.{Row, Col}
use Rattle.axis_roots.specs.Grids.{axis_roots}
use Rattle.axis_roots.proofs.Grids.MadeLemmas.{found_along, no_rows, no_cols, both_along}
use Rattle.axis_roots.proofs.square.rooting.header_over.Goals as goal

pub returns-in_default : goal.returns-in_default
returns-in_default c = λ shares are leaves.
    no_rows c.args.k shares (axis_roots c.args.k shares Row) _ (λ v. v.items) c.in_ok-rows.field-0 (c.in_ok-rows.ensures.roots shares are leaves) c.in_default.is

pub returns-in_default-2 : goal.returns-in_default-2
returns-in_default-2 c = λ shares are leaves.
    no_cols c.args.k shares (axis_roots c.args.k shares Col) _ (λ v. v.items) c.in_ok-cols.field-0 (c.in_ok-cols.ensures.roots shares are leaves) c.in_default-2.is

pub returns : goal.returns
returns c = λ shares are leaves.
    let rows = found_along c.args.k shares Row (axis_roots c.args.k shares Row) (λ v. v.items) c.in_ok-rows.field-0 c.in-Some.rows
    (c.in_ok-rows.ensures.roots shares are leaves) c.in-Some.is in
    let cols = found_along c.args.k shares Col (axis_roots c.args.k shares Col) (λ v. v.items) c.in_ok-cols.field-0 c.in-Some-2.cols
    (c.in_ok-cols.ensures.roots shares are leaves) c.in-Some-2.is in
    both_along c.args.k shares _ _ rows.0 cols.0 (λ i. record { k = c.args.k; rows = rows.1 i; cols = cols.1 i })
