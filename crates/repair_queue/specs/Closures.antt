-- What follows from proved samples by the code: cells that are known, and their shares (docs/RULES.md, "Closures and
-- verdicts").
use Rattle.std.specs.Prelude.{◌≡◌, ℕ, ◌*◌, ◌<◌, List, length, true}
use Rattle.std.specs.List.{Contains}
use Rattle.namespace_id.specs.declared.cells.Cell.{Cell}
use Rattle.namespace_id.specs.declared.cells.Axis.{Axis}
use Rattle.namespace_id.specs.declared.shares.Share.{Share}
use Rattle.leopard_code.specs.Codewords.{are_positions, IsCodeword}
use Rattle.data_header.specs.Headers.{Roots}
use Rattle.axis_roots.specs.declared.message.messages.Message.{Message}
use Rattle.axis_roots.specs.Openings.{IsProved}
use Rattle.axis_roots.specs.Lines.{cell_on, entry}

-- k different positions on a row or a column of 2k cells, ascending
pub record AreChosen (k : ℕ) (chosen : List ℕ) : Type 0 where
  pub count : length chosen ≡ k
  pub positions : are_positions k chosen ≡ true

-- the recoverable cells, a closure by halves: the least set that holds the cells of proved samples and, with k cells
-- of a row or a column, all 2k of it
pub data Half (header : Roots) (ms : List Message) : Cell → Type 0 where
  seen : (m : Message) → Contains ms m → IsProved header m → Half header ms m.cell
  filled : (axis : Axis) (i : ℕ) (chosen : List ℕ) (pos : ℕ) → i < 2 * header.k → AreChosen header.k chosen
      → ((p : ℕ) → Contains chosen p → Half header ms (cell_on axis i p)) → pos < 2 * header.k
      → Half header ms (cell_on axis i pos)

-- the facts: the least set of cells with shares that holds those of proved samples and, with k shares of a codeword
-- along a row or a column, all 2k of it
pub data Fact (header : Roots) (ms : List Message) : Cell → Share → Type 0 where
  shown : (m : Message) → Contains ms m → IsProved header m → Fact header ms m.cell m.share
  rebuilt : (axis : Axis) (i : ℕ) (word : List Share) (chosen : List ℕ) (pos : ℕ) → i < 2 * header.k
      → IsCodeword header.k word → AreChosen header.k chosen
      → ((p : ℕ) → Contains chosen p → Fact header ms (cell_on axis i p) (entry word p)) → pos < 2 * header.k
      → Fact header ms (cell_on axis i pos) (entry word pos)

-- a row or a column is decided: at least k of its cells are recoverable
pub record IsDecided (header : Roots) (ms : List Message) (axis : Axis) (i : ℕ) : Type 0 where
  pub within : i < 2 * header.k
  pub chosen : List ℕ
  pub are_chosen : AreChosen header.k chosen
  pub halves : (p : ℕ) → Contains chosen p → Half header ms (cell_on axis i p)

-- each proved sample of the first list stands in the second
abbrev pub Covers : Roots → List Message → List Message → Type 0
Covers header ms others = (m : Message) → Contains ms m → IsProved header m → Contains others m
