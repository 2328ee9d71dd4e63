-- The quarters of an extended square: the square, and the recovery shares of its columns below it.
use Rattle.std.specs.Prelude.{◌≡◌, ◌<◌, ℕ, ◌-◌, ◌*◌, nat_lt, List, ◌++◌, map, take, drop, length, if◌then◌else◌}
use Rattle.namespace_id.specs.declared.shares.Share.{Share}
use Rattle.namespace_id.specs.Cells.{cell_in}
use Rattle.namespace_id.specs.Lists.{ascending}
use Rattle.leopard_code.specs.Codewords.{IsCodeword}
use Rattle.axis_roots.specs.Grids.{share_at}

-- the k shares of a column of a quarter
abbrev pub quarter_column : ℕ → List Share → ℕ → List Share
quarter_column k quarter col = map (λ row. share_at k quarter (cell_in row col)) (ascending 0 k)

-- the lower left quarter of the extension of a square: each column of the square, followed by that of the
-- quarter, is a codeword
pub record IsLowerLeft (k : ℕ) (square quarter : List Share) : Type 0 where
  pub count : length quarter ≡ k * k
  pub codewords : (col : ℕ) → col < k → IsCodeword k (quarter_column k square col ++ quarter_column k quarter col)

-- the k shares of a row of a quarter
abbrev pub quarter_row : ℕ → List Share → ℕ → List Share
quarter_row k quarter row = take k (drop (row * k) quarter)

-- the left half of a row of the extension: a row of the square or of the lower left quarter
abbrev pub left_half : ℕ → List Share → List Share → ℕ → List Share
left_half k square quarter row =
    if nat_lt row k then quarter_row k square row else quarter_row k quarter (row - k)
