-- How many cells of a square stand in a list in which each comes before the next.
use Rattle.std.proofs.Common.{◌≡◌, ℕ, ◌*◌, ◌≤◌, length, arith}
use Rattle.std.proofs.Math.Nat.{mul_comm, mul_assoc}
use Rattle.namespace_id.specs.Cells.{CellList, AreCells}
use Rattle.namespace_id.specs.Sizes.{greatest_width}
use Rattle.namespace_id.proofs.WidthLemmas.{is_width-le}
use Rattle.namespace_id.proofs.RowMajorLemmas.{cells_count, cells_parts}
use Rattle.frame_payloads.proofs.Forms.PayloadSizes.{square_few}

-- a square has 2k times 2k cells, which are four times k times k
places : (k : ℕ) → 2 * k * (2 * k) ≡ 4 * (k * k)
places k =
    let out : 2 * k * (2 * k) ≡ 2 * (k * (2 * k)) = mul_assoc 2 k (2 * k) in
    let turned : k * (2 * k) ≡ 2 * k * k = mul_comm k (2 * k) in
    let in_front : 2 * k * k ≡ 2 * (k * k) = mul_assoc 2 k k in
    omega (arith, out, turned, in_front)

-- no more than the square has
pub cells_counted : (cells : CellList) → AreCells cells → length cells.list ≤ 4 * (cells.k * cells.k)
cells_counted cells are = omega (arith, cells_count cells.k cells.list are, places cells.k)

-- no more than the greatest square has
pub cells_few : (cells : CellList) → AreCells cells → length cells.list ≤ 4 * (greatest_width * greatest_width)
cells_few cells are =
    omega (arith, cells_counted cells are, square_few cells.k (is_width-le cells.k (cells_parts cells.k cells.list are).0))
