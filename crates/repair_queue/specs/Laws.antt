-- What is proved of recoverable cells, facts, settled lists and answers (docs/RULES.md, "Closures and verdicts").
use Rattle.std.specs.Prelude.{◌≡◌, ◌<◌, ◌*◌, ◌↔◌, ℕ, List, Bool, true}
use Rattle.std.specs.List.{Contains}
use Rattle.namespace_id.specs.declared.cells.Cell.{Cell}
use Rattle.namespace_id.specs.declared.cells.Axis.{Axis}
use Rattle.namespace_id.specs.declared.shares.Share.{Share}
use Rattle.namespace_id.specs.Cells.{is_in_square, is_original}
use Rattle.leopard_code.specs.Codewords.{IsCodeword}
use Rattle.data_header.specs.Headers.{Roots, AreRoots}
use Rattle.square_layout.specs.Blocks.{SquareShares, IsSquare}
use Rattle.axis_roots.specs.declared.message.messages.Message.{Message}
use Rattle.axis_roots.specs.Openings.{IsProved}
use Rattle.axis_roots.specs.Lines.{cell_on, entry}
use Rattle.axis_roots.specs.Grids.{share_at, IsHeaderOf}
use Rattle.axis_roots.specs.Own.{NamesClash}
use Rattle.repair_queue.specs.Closures.{AreChosen, Half, Fact, IsDecided}
use Rattle.repair_queue.specs.Settled.{IsSettled, Lines, Fits}
use Rattle.repair_queue.specs.Verdicts.{VerdictParts, whole, IsVerdict, IsOwnVerdict}

-- a set that holds proved samples' cells and, with k cells of a row or column, all of it holds the recoverable cells
abbrev pub HalfIsLeast : Type 0
HalfIsLeast = (header : Roots) (ms : List Message) (set : Cell → Bool)
    → ((m : Message) → Contains ms m → IsProved header m → set m.cell ≡ true)
    → ((axis : Axis) (index : ℕ) (chosen : List ℕ) (pos : ℕ) → index < 2 * header.k → AreChosen header.k chosen
    → ((p : ℕ) → Contains chosen p → set (cell_on axis index p) ≡ true) → pos < 2 * header.k
    → set (cell_on axis index pos) ≡ true)
    → (cell : Cell) → Half header ms cell → set cell ≡ true

-- a set that holds proved samples and, with k shares of a codeword along a row or column, all of it holds the facts
abbrev pub FactIsLeast : Type 0
FactIsLeast = (header : Roots) (ms : List Message) (set : Cell → Share → Bool)
    → ((m : Message) → Contains ms m → IsProved header m → set m.cell m.share ≡ true)
    → ((axis : Axis) (index : ℕ) (word : List Share) (chosen : List ℕ) (pos : ℕ) → index < 2 * header.k
    → IsCodeword header.k word → AreChosen header.k chosen
    → ((p : ℕ) → Contains chosen p → set (cell_on axis index p) (entry word p) ≡ true) → pos < 2 * header.k
    → set (cell_on axis index pos) (entry word pos) ≡ true)
    → (cell : Cell) (share : Share) → Fact header ms cell share → set cell share ≡ true

-- shares that fit are what the facts hold along the decided rows and columns
abbrev pub LinesAreFacts : Type 0
LinesAreFacts = (header : Roots) (ms : List Message) (lines : Lines header ms) → Fits header ms lines
    → (axis : Axis) (index pos : ℕ) (d : IsDecided header ms axis index) → pos < 2 * header.k → (share : Share)
    → Fact header ms (cell_on axis index pos) share ↔ (share ≡ entry (lines axis index d) pos)

-- where all cells are recoverable and the list is settled, the square that the facts hold is an answer
abbrev pub FactsAreWhole : Type 0
FactsAreWhole = (header : Roots) (ms : List Message) (square : SquareShares) → AreRoots header → IsSquare square
    → square.k ≡ header.k → ((cell : Cell) → is_in_square header.k cell ≡ true → Half header ms cell)
    → IsSettled header ms
    → ((cell : Cell) → is_original header.k cell ≡ true → Fact header ms cell (share_at header.k square.shares cell))
    → IsVerdict header ms (whole square)

-- where no proved sample and the square name a collision, only the square and missing cells are answers
abbrev pub OwnUnlessNamed : Type 0
OwnUnlessNamed = (header : Roots) (square : SquareShares) (ms : List Message) → IsHeaderOf header square
    → ((m : Message) → Contains ms m → IsProved header m → NamesClash m square → ⊥)
    → IsSettled header ms
    × (((cell : Cell) → is_in_square header.k cell ≡ true → Half header ms cell) → IsVerdict header ms (whole square))
    × ((verdict : VerdictParts) → IsVerdict header ms verdict → IsOwnVerdict square verdict)
