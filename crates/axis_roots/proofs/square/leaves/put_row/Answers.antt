use Rattle.std.proofs.Common.{◌≡◌, ◌+◌, ◌-◌, ◌*◌, ◌≤◌, ℕ, length, ap, arith}
use Rattle.namespace_id.proofs.NumberLemmas.{row_before}
use Rattle.axis_roots.proofs.Grids.BatchLemmas.{row_made, row_written, row_others}
use Rattle.axis_roots.proofs.square.leaves.put_row.Goals as goal

pub returns-clause-leaves : goal.returns-clause-leaves
returns-clause-leaves c =
    let k = c.args.grid.now.k in
    let m = c.width-k.result in
    let at : c.args.row * (2 * m) ≡ c.args.row * (2 * k) = ap (λ (n : ℕ). c.args.row * (2 * n)) c.width-k.ensures.value in
    let fits : c.args.row * (2 * m) ≤ length c.args.leaves.now = omega (arith, at, c.requires.leaves, row_before c.args.row (2 * k) (2 * k) c.requires.row) in
    row_written k c.args.row _ _ c.args.grid.now.shares c.args.leaves.now c.put_leaves.new.leaves at fits
    (row_made k m c.args.row c.args.grid.now.shares c.row_shares-shares.result.now c.name_leaves.new.names c.put_leaves.new.leaves
    c.width-k.ensures.value c.row_shares-shares.ensures.shares c.name_leaves.ensures c.put_leaves.ensures)

pub returns-clause-others : goal.returns-clause-others
returns-clause-others c =
    let k = c.args.grid.now.k in
    let m = c.width-k.result in
    let at : c.args.row * (2 * m) ≡ c.args.row * (2 * k) = ap (λ (n : ℕ). c.args.row * (2 * n)) c.width-k.ensures.value in
    let width : c.args.row * (2 * m) + 2 * m - c.args.row * (2 * m) ≡ 2 * k = omega (arith, c.width-k.ensures.value) in
    let fits : c.args.row * (2 * m) ≤ length c.args.leaves.now = omega (arith, at, c.requires.leaves, row_before c.args.row (2 * k) (2 * k) c.requires.row) in
    row_others k c.args.row _ _ c.args.grid.now.shares c.args.leaves.now c.put_leaves.new.leaves at width fits
    (row_made k m c.args.row c.args.grid.now.shares c.row_shares-shares.result.now c.name_leaves.new.names c.put_leaves.new.leaves
    c.width-k.ensures.value c.row_shares-shares.ensures.shares c.name_leaves.ensures c.put_leaves.ensures)
