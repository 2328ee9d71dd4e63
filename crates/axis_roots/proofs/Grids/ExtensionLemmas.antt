-- Each square has exactly one extension.
use Rattle.std.proofs.Common.{◌≡◌, ◌∙◌, ℕ, ◌+◌, ◌*◌, ◌<◌, List, length, get_or, map, sym, ap, subst, arith, IsTrue}
use Rattle.std.specs.Prelude.{Some}
use Rattle.std.proofs.lemmas.Option.{slice_get-get_or}
use Rattle.namespace_id.specs.declared.cells.Cell.{Cell}
use Rattle.namespace_id.specs.declared.cells.Axis.{Axis}
use Rattle.namespace_id.specs.declared.cells.Axis.TheVariants.{Row, Col}
use Rattle.namespace_id.specs.declared.shares.Share.{Share}
use Rattle.namespace_id.specs.Shares.{AreShares}
use Rattle.namespace_id.specs.Cells.{is_width}
use Rattle.namespace_id.proofs.WidthLemmas.{is_width-pos}
use Rattle.leopard_code.specs.Codewords.{IsCodeword, AreLines}
use Rattle.leopard_code.proofs.LawLemmas.{crossed}
use Rattle.square_layout.specs.Blocks.{SquareShares, IsSquare}
use Rattle.axis_roots.specs.Lines.{blank, cell_on}
use Rattle.axis_roots.specs.Grids.{share_at, axis_cells, axis_shares, Extends}
use Rattle.axis_roots.proofs.Grids.NumberLemmas.{listed, length-listed, get_or-listed, same_listed}
use Rattle.axis_roots.proofs.Grids.AxisLemmas.{length-along, get_or-along, is_along}
use Rattle.axis_roots.proofs.Grids.WordLemmas.{share_anywhere, one_word, word_through}

-- the rows and the columns of a grid cross at its shares
grid_lines : (k : ℕ) (w : Cell → Share) → AreLines k (λ row. map w (axis_cells k Row row)) (λ col. map w (axis_cells k Col col))
grid_lines k w = record {
  row_count = λ row h. length-along k w Row row;
  col_count = λ col h. length-along k w Col col;
  same = λ row col hr hc.
      slice_get-get_or (map w (axis_cells k Row row)) col blank (omega (arith, length-along k w Row row))
      ∙ ap Some (get_or-along k w Row row col blank hc ∙ sym (get_or-along k w Col col row blank hr))
      ∙ sym (slice_get-get_or (map w (axis_cells k Col col)) row blank (omega (arith, length-along k w Col col)));
}

-- where the upper rows and all columns are codewords, all rows are
all_rows : (k : ℕ) (w : Cell → Share) → IsTrue (is_width k) → ((row : ℕ) → row < k → IsCodeword k (map w (axis_cells k Row row)))
    → ((col : ℕ) → col < 2 * k → IsCodeword k (map w (axis_cells k Col col)))
    → (row : ℕ) → row < 2 * k → IsCodeword k (map w (axis_cells k Row row))
all_rows k w width = crossed k (λ row. map w (axis_cells k Row row)) (λ col. map w (axis_cells k Col col)) width (grid_lines k w)

-- a grid that has the square, and codewords as its upper rows and as its columns, extends the square
pub extends_by_lines : (k : ℕ) (square grid : List Share) → IsTrue (is_width k) → length grid ≡ 2 * k * (2 * k)
    → ((cell : Cell) → cell.row < k → cell.col < k → share_at (2 * k) grid cell ≡ share_at k square cell)
    → ((row : ℕ) → row < k → IsCodeword k (axis_shares k grid Row row)) → ((col : ℕ) → col < 2 * k → IsCodeword k (axis_shares k grid Col col))
    → Extends k square grid
extends_by_lines k square grid width size quarter rows cols = record {
  size = size;
  quarter = quarter;
  codewords = elim [ Row ↦ all_rows k (share_at (2 * k) grid) width rows cols | Col ↦ cols ];
}

-- each square has an extension
pub extension_there : (square : SquareShares) → IsSquare square → AreShares square.shares → (grid : List Share) × Extends square.k square.shares grid
extension_there square is are =
    let k : ℕ = square.k in
    let row : (r : ℕ) → (word : List Share) × IsCodeword k word × ((c : ℕ) → c < k → get_or word c blank ≡ get_or square.shares (r * k + c) blank) =
    λ r. word_through k (λ c. get_or square.shares (r * k + c) blank) is.width (λ c. share_anywhere square.shares (r * k + c) are) in
    let col : (c : ℕ) → (word : List Share) × IsCodeword k word × ((r : ℕ) → r < k → get_or word r blank ≡ get_or (row r).0 c blank) =
    λ c. word_through k (λ r. get_or (row r).0 c blank) is.width (λ r. share_anywhere (row r).0 c (row r).1.shares) in
    let w : Cell → Share = λ cell. get_or (col cell.col).0 cell.row blank in
    let grid : List Share = listed (2 * k) w in
    let at : (cell : Cell) → cell.row < 2 * k → cell.col < 2 * k → share_at (2 * k) grid cell ≡ w cell =
    λ cell hr hc. get_or-listed (2 * k) w cell blank hr hc in (
      grid,
      extends_by_lines k square.shares grid is.width (length-listed (2 * k) w)
          (λ cell hr hc. at cell (omega arith) (omega arith) ∙ (col cell.col).2 cell.row hr ∙ (row cell.row).2 cell.col hc)
          (λ r h. subst (IsCodeword k)
          (is_along k (share_at (2 * k) grid) Row r blank (row r).0 (row r).1.count (λ pos l. sym (at (cell_on Row r pos) (omega arith) l ∙ (col pos).2 r h)))
          (row r).1)
          (λ c h. subst (IsCodeword k)
          (is_along k (share_at (2 * k) grid) Col c blank (col c).0 (col c).1.count (λ pos l. sym (at (cell_on Col c pos) l h)))
          (col c).1),
    )

-- two extensions of one square are one
pub extension_once : (k : ℕ) (square one other : List Share) → IsTrue (is_width k) → Extends k square one → Extends k square other → one ≡ other
extension_once k square one other width e f =
    let v : Cell → Share = share_at (2 * k) one in
    let w : Cell → Share = share_at (2 * k) other in
    let same_axis : (axis : Axis) (i : ℕ) → i < 2 * k → ((pos : ℕ) → pos < k → v (cell_on axis i pos) ≡ w (cell_on axis i pos))
    → (pos : ℕ) → pos < 2 * k → v (cell_on axis i pos) ≡ w (cell_on axis i pos) =
    λ axis i h first pos l.
    sym (get_or-along k v axis i pos blank l)
    ∙ ap (λ (word : List Share). get_or word pos blank)
    (one_word k (map v (axis_cells k axis i)) (map w (axis_cells k axis i)) width (e.codewords axis i h) (f.codewords axis i h)
    (λ q hq. get_or-along k v axis i q blank (omega arith) ∙ first q hq ∙ sym (get_or-along k w axis i q blank (omega arith))))
    ∙ get_or-along k w axis i pos blank l in
    let upper : (r c : ℕ) → r < k → c < 2 * k → v (cell_on Row r c) ≡ w (cell_on Row r c) =
    λ r c hr hc. same_axis Row r (omega arith) (λ q hq. e.quarter (cell_on Row r q) hr hq ∙ sym (f.quarter (cell_on Row r q) hr hq)) c hc in
    let some : 0 < k = is_width-pos k width in
    same_listed (2 * k) blank one other (omega arith) e.size f.size
    (λ cell hr hc. same_axis Col cell.col hc (λ q hq. upper q cell.col hq hc) cell.row hr)
