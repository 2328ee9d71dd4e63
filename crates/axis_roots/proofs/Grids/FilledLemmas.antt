-- A grid that was filled from a square.
use Rattle.std.proofs.Common.{◌≡◌, ◌∙◌, ℕ, ◌*◌, ◌<◌, List, length, sym, ap, subst, inr, arith, IsTrue}
use Rattle.namespace_id.specs.declared.cells.Cell.{Cell}
use Rattle.namespace_id.specs.declared.cells.Axis.TheVariants.{Row, Col}
use Rattle.namespace_id.specs.declared.shares.Share.{Share}
use Rattle.namespace_id.specs.Cells.{is_width}
use Rattle.leopard_code.specs.Codewords.{IsCodeword}
use Rattle.axis_roots.specs.Lines.{blank, cell_on}
use Rattle.axis_roots.specs.Grids.{IsGrid, share_at, axis_shares, Extends}
use Rattle.axis_roots.proofs.Grids.AxisLemmas.{same_along}
use Rattle.axis_roots.proofs.Grids.NumberLemmas.{in_square}
use Rattle.axis_roots.proofs.Grids.ExtensionLemmas.{extends_by_lines}
use Rattle.axis_roots.proofs.Grids.KeptLemmas.{AxesKept}
use Rattle.square_layout.specs.Blocks.{SquareShares}

-- the square copied, then the upper rows made codewords, then all columns
filled : (k : ℕ) (square copied half whole : List Share) → IsTrue (is_width k) → length whole ≡ 2 * k * (2 * k)
    → ((cell : Cell) → cell.row < k → cell.col < k → share_at (2 * k) copied cell ≡ share_at k square cell)
    → ((row : ℕ) → row < k → IsCodeword k (axis_shares k half Row row)) → AxesKept k Row k copied half
    → ((col : ℕ) → col < 2 * k → IsCodeword k (axis_shares k whole Col col)) → AxesKept k Col (2 * k) half whole
    → Extends k square whole
filled k square copied half whole width size quarter rows by_rows cols by_cols =
    let upper : (row pos : ℕ) → row < k → pos < 2 * k → share_at (2 * k) whole (cell_on Row row pos) ≡ share_at (2 * k) half (cell_on Row row pos) =
    λ row pos hr hp. by_cols (cell_on Row row pos) (in_square k (cell_on Row row pos) (omega arith) hp) (inr hr) in
    extends_by_lines k square whole width size
    (λ cell hr hc. upper cell.row cell.col hr (omega arith) ∙ by_rows cell (in_square k cell (omega arith) (omega arith)) (inr hc) ∙ quarter cell hr hc)
    (λ row h. subst (IsCodeword k)
    (same_along k (share_at (2 * k) half) (share_at (2 * k) whole) Row row blank (λ pos l. sym (upper row pos h l)))
    (rows row h))
    cols

-- the same, where each step speaks of the width that its grid had
pub filled_grid : (k a b d m n : ℕ) (square copied half : List Share) (whole : SquareShares) → a ≡ k → b ≡ k → d ≡ k → whole.k ≡ k → m ≡ k → n ≡ 2 * k → IsGrid whole
    → ((cell : Cell) → cell.row < a → cell.col < a → share_at (2 * a) copied cell ≡ share_at a square cell)
    → ((row : ℕ) → row < m → IsCodeword b (axis_shares b half Row row)) → AxesKept b Row m copied half
    → ((col : ℕ) → col < n → IsCodeword d (axis_shares d whole.shares Col col)) → AxesKept d Col n half whole.shares
    → Extends k square whole.shares
filled_grid k a b d m n square copied half whole first second third last count all is quarter rows by_rows cols by_cols =
    filled k square copied half whole.shares (subst (λ (x : ℕ). IsTrue (is_width x)) last is.width)
    (is.count ∙ ap (λ (x : ℕ). 2 * x * (2 * x)) last)
    (subst (λ (x : ℕ). (cell : Cell) → cell.row < x → cell.col < x → share_at (2 * x) copied cell ≡ share_at x square cell) first quarter)
    (λ row h. subst (λ (x : ℕ). IsCodeword x (axis_shares x half Row row)) second (rows row (omega arith)))
    (subst (λ (x : ℕ). AxesKept x Row k copied half) second (subst (λ (x : ℕ). AxesKept b Row x copied half) count by_rows))
    (λ col h. subst (λ (x : ℕ). IsCodeword x (axis_shares x whole.shares Col col)) third (cols col (omega arith)))
    (subst (λ (x : ℕ). AxesKept x Col (2 * k) half whole.shares) third (subst (λ (x : ℕ). AxesKept d Col x half whole.shares) all by_cols))
