-- What repair may answer for a header and a list of samples (docs/RULES.md, "Closures and verdicts").
use Rattle.std.specs.Prelude.{◌≡◌, ◌≢◌, ◌↔◌, ℕ, ◌*◌, ◌<◌, List, [], length, true, Some}
use Rattle.std.specs.List.{AllByRecursion, Contains}
use Rattle.namespace_id.specs.declared.cells.Cell.{Cell}
use Rattle.namespace_id.specs.declared.cells.Axis.{Axis}
use Rattle.namespace_id.specs.declared.shares.Share.{Share}
use Rattle.namespace_id.specs.Cells.{is_in_square, is_original, CellList, AreCells}
use Rattle.nmt_proofs.specs.Parts.{Part}
use Rattle.nmt_proofs.specs.Clashes.{IsClash, clash_at}
use Rattle.data_header.specs.Headers.{Roots, root_of}
use Rattle.square_layout.specs.Blocks.{SquareShares}
use Rattle.axis_roots.specs.declared.message.messages.Message.{Message}
use Rattle.axis_roots.specs.Messages.{index}
use Rattle.axis_roots.specs.Openings.{IsProved}
use Rattle.axis_roots.specs.Lines.{cell_on, line_root, line_tree, entry}
use Rattle.axis_roots.specs.Grids.{share_at, IsHeaderOf}
use Rattle.axis_roots.specs.Own.{opened_by}
use Rattle.axis_roots.specs.Claims.{ClaimParts, Accepts}
use Rattle.repair_queue.specs.Closures.{Half, Fact}
use Rattle.repair_queue.specs.Settled.{IsSettled}

-- an answer: the square, the cells that are missing, a fraud claim, or two strings with one SHA-256 digest
pub data VerdictParts : Type 0 where
  whole : (square : SquareShares) → VerdictParts
  missing : (cells : CellList) → VerdictParts
  fraud : (claim : ClaimParts) → VerdictParts
  clash : (left right : List ℕ) → VerdictParts

-- all cells are recoverable, the list is settled, the square is the upper left quarter of what the facts hold, and the
-- header is the square's
pub record IsWhole (header : Roots) (ms : List Message) (square : SquareShares) : Type 0 where
  pub all : (cell : Cell) → is_in_square header.k cell ≡ true → Half header ms cell
  pub settled : IsSettled header ms
  pub facts : (cell : Cell) → is_original header.k cell ≡ true → Fact header ms cell (share_at header.k square.shares cell)
  pub own : IsHeaderOf header square

-- the list is settled, and the cells, of which there are some, are exactly those of the square that aren't recoverable
pub record IsMissing (header : Roots) (ms : List Message) (cells : CellList) : Type 0 where
  pub settled : IsSettled header ms
  pub width : cells.k ≡ header.k
  pub row_major : AreCells cells
  pub some : cells.list ≢ []
  pub missing : (cell : Cell)
      → Contains cells.list cell ↔ ((is_in_square header.k cell ≡ true) × (Half header ms cell → ⊥))

-- the claim is accepted under the header, and its cells with their shares are facts
pub record IsFraud (header : Roots) (ms : List Message) (claim : ClaimParts) : Type 0 where
  pub accepts : Accepts header claim
  pub facts : AllByRecursion (λ m. Fact header ms m.cell m.share) claim.cells

-- the trees that are known under the header's root of a row or a column: what a proved sample opens, and the tree over
-- a line of facts that has this root
pub data IsKnownTree (header : Roots) (ms : List Message) (axis : Axis) (i : ℕ) : Part → Type 0 where
  of_message : (m : Message) → Contains ms m → IsProved header m → m.axis ≡ axis → index axis m.cell ≡ i
      → IsKnownTree header ms axis i (opened_by header.k m)
  of_line : (line : List Share) → length line ≡ 2 * header.k
      → ((pos : ℕ) → pos < 2 * header.k → Fact header ms (cell_on axis i pos) (entry line pos))
      → line_root header.k axis i line ≡ root_of header axis i
      → IsKnownTree header ms axis i (line_tree header.k axis i line)

-- the two strings are a collision, named by two trees that are known of one row or column
pub record IsFoundClash (header : Roots) (ms : List Message) (left right : List ℕ) : Type 0 where
  pub is_clash : IsClash left right
  pub axis : Axis
  pub i : ℕ
  pub within : i < 2 * header.k
  pub one : Part
  pub other : Part
  pub one_known : IsKnownTree header ms axis i one
  pub other_known : IsKnownTree header ms axis i other
  pub found : clash_at one other ≡ Some (left, right)

-- an answer that repair may give
abbrev pub IsVerdict : Roots → List Message → VerdictParts → Type 0
IsVerdict header ms (whole square) = IsWhole header ms square
IsVerdict header ms (missing cells) = IsMissing header ms cells
IsVerdict header ms (fraud claim) = IsFraud header ms claim
IsVerdict header ms (clash left right) = IsFoundClash header ms left right

-- an answer for a square's own header: this square, or cells that are missing
abbrev pub IsOwnVerdict : SquareShares → VerdictParts → Type 0
IsOwnVerdict square (whole other) = other ≡ square
IsOwnVerdict square (missing cells) = Unit {0}
IsOwnVerdict square (fraud claim) = ⊥
IsOwnVerdict square (clash left right) = ⊥

-- two answers of one kind, with one square or the same missing cells; a collision goes with any answer
abbrev pub AreAlike : VerdictParts → VerdictParts → Type 0
AreAlike (whole square) (whole other) = square ≡ other
AreAlike (whole square) (missing cells) = ⊥
AreAlike (whole square) (fraud claim) = ⊥
AreAlike (whole square) (clash left right) = Unit {0}
AreAlike (missing cells) (whole square) = ⊥
AreAlike (missing cells) (missing others) = cells ≡ others
AreAlike (missing cells) (fraud claim) = ⊥
AreAlike (missing cells) (clash left right) = Unit {0}
AreAlike (fraud claim) (whole square) = ⊥
AreAlike (fraud claim) (missing cells) = ⊥
AreAlike (fraud claim) (fraud other) = Unit {0}
AreAlike (fraud claim) (clash left right) = Unit {0}
AreAlike (clash left right) verdict = Unit {0}
