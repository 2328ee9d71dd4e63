use Rattle.std.proofs.Common.{◌+◌, ◌-◌, ◌*◌, ◌≤◌, length, refl, arith}
use Rattle.namespace_id.proofs.NumberLemmas.{row_before}
use Rattle.axis_roots.proofs.Grids.BatchLemmas.{leaves_written, others_left}
use Rattle.axis_roots.proofs.square.quarters.put_leaves.Goals as goal

pub returns-clause-leaves : goal.returns-clause-leaves
returns-clause-leaves c =
    let first = c.args.row * (2 * c.args.k) + c.args.col in
    let fits : first ≤ length c.args.leaves.now = omega (arith, row_before c.args.row (2 * c.args.k) (2 * c.args.k) c.requires.row) in
    leaves_written c.args.k c.args.row c.args.col first (first + c.args.k - first) c.name_cells.new.names c.args.shares.now c.args.leaves.now c.put_leaves.new.leaves
    refl (omega arith) c.requires.shares fits c.put_leaves.ensures c.name_cells.ensures

pub returns-clause-others : goal.returns-clause-others
returns-clause-others c =
    let first = c.args.row * (2 * c.args.k) + c.args.col in
    let fits : first ≤ length c.args.leaves.now = omega (arith, row_before c.args.row (2 * c.args.k) (2 * c.args.k) c.requires.row) in
    others_left c.args.k c.args.row c.args.col first (first + c.args.k - first) c.name_cells.new.names c.args.shares.now c.args.leaves.now c.put_leaves.new.leaves
    refl (omega arith) (omega arith) c.requires.shares fits c.put_leaves.ensures
