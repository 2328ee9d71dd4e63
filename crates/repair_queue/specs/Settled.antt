-- Lists of samples under which every decided row and column has its root (docs/RULES.md, "Closures and verdicts").
use Rattle.std.specs.Prelude.{◌≡◌, ◌↔◌, ℕ, ◌*◌, ◌<◌, List, map, length, Some}
use Rattle.std.specs.List.{Contains}
use Rattle.namespace_id.specs.declared.cells.Cell.{Cell}
use Rattle.namespace_id.specs.declared.cells.Axis.{Axis}
use Rattle.namespace_id.specs.declared.shares.Share.{Share}
use Rattle.leopard_code.specs.Codewords.{IsCodeword}
use Rattle.data_header.specs.Headers.{Roots, root_of}
use Rattle.axis_roots.specs.declared.message.messages.Message.{Message}
use Rattle.axis_roots.specs.Messages.{index}
use Rattle.axis_roots.specs.Openings.{IsProved}
use Rattle.axis_roots.specs.Lines.{cell_on, line_strict_root, entry}
use Rattle.axis_roots.specs.Grids.{axis_cells}
use Rattle.repair_queue.specs.Closures.{Fact, IsDecided}

-- the facts hold exactly one share at each cell of a row or a column, and the strict root of these is the header's
pub record IsLineSettled (header : Roots) (ms : List Message) (axis : Axis) (i : ℕ) : Type 0 where
  pub shares : List Share
  pub count : length shares ≡ 2 * header.k
  pub only : (pos : ℕ) → pos < 2 * header.k → (share : Share)
      → Fact header ms (cell_on axis i pos) share ↔ (share ≡ entry shares pos)
  pub root : line_strict_root header.k axis i shares ≡ Some (root_of header axis i)

-- each decided row and column is settled
abbrev pub IsSettled : Roots → List Message → Type 0
IsSettled header ms = (axis : Axis) (i : ℕ) → IsDecided header ms axis i → IsLineSettled header ms axis i

-- a list of shares for each decided row and column
abbrev pub Lines : Roots → List Message → Type 0
Lines header ms = (axis : Axis) (i : ℕ) → IsDecided header ms axis i → List Share

-- they fit: each is a codeword with the header's strict root, two have one share where they cross, and each proved
-- sample on one shows its share
pub record Fits (header : Roots) (ms : List Message) (lines : Lines header ms) : Type 0 where
  pub codeword : (axis : Axis) (i : ℕ) (d : IsDecided header ms axis i) → IsCodeword header.k (lines axis i d)
  pub root : (axis : Axis) (i : ℕ) (d : IsDecided header ms axis i)
      → line_strict_root header.k axis i (lines axis i d) ≡ Some (root_of header axis i)
  pub cross : (axis other : Axis) (i j p q : ℕ) (d : IsDecided header ms axis i) (e : IsDecided header ms other j)
      → p < 2 * header.k → q < 2 * header.k → cell_on axis i p ≡ cell_on other j q
      → entry (lines axis i d) p ≡ entry (lines other j e) q
  pub shown : (axis : Axis) (i pos : ℕ) (d : IsDecided header ms axis i) (m : Message) → Contains ms m
      → IsProved header m → pos < 2 * header.k → m.cell ≡ cell_on axis i pos → m.share ≡ entry (lines axis i d) pos

-- the shares along a row or a column, where each cell has its share
abbrev pub along : ℕ → (Cell → Share) → Axis → ℕ → List Share
along k shares axis i = map shares (axis_cells k axis i)

-- a share for each cell fits: each decided row and column is a codeword with the header's strict root, and each proved
-- sample on one shows its cell's share
pub record CellsFit (header : Roots) (ms : List Message) (shares : Cell → Share) : Type 0 where
  pub codeword : (axis : Axis) (i : ℕ) → IsDecided header ms axis i → IsCodeword header.k (along header.k shares axis i)
  pub root : (axis : Axis) (i : ℕ) → IsDecided header ms axis i
      → line_strict_root header.k axis i (along header.k shares axis i) ≡ Some (root_of header axis i)
  pub shown : (axis : Axis) (m : Message) → Contains ms m → IsProved header m
      → IsDecided header ms axis (index axis m.cell) → m.share ≡ shares m.cell
