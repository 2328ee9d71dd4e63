-- The state of a session, and what its calls answer.
use Rattle.std.specs.Prelude.{◌≡◌, ◌↔◌, ◌*◌, List, length, true}
use Rattle.std.specs.List.{Contains}
use Rattle.namespace_id.specs.declared.cells.Cell.{Cell}
use Rattle.namespace_id.specs.declared.shares.Share.{Share}
use Rattle.namespace_id.specs.Cells.{is_in_square, is_original, CellList, AreCells}
use Rattle.axis_roots.specs.Grids.{share_at}
use Rattle.data_header.specs.Headers.{Roots}
use Rattle.axis_roots.specs.declared.message.messages.Message.{Message}
use Rattle.repair_queue.specs.declared.boards.Board.{Board}
use Rattle.repair_queue.specs.declared.sessions.SessionState.{SessionState}
use Rattle.repair_queue.specs.declared.sessions.SessionState.TheVariants as state
use Rattle.repair_queue.specs.declared.verdict.Verdict.{Verdict}
use Rattle.repair_queue.specs.declared.verdict.Verdict.TheVariants.{Whole, Fraud, Missing, Clash}
use Rattle.repair_queue.specs.Closures.{Half}
use Rattle.repair_queue.specs.Boards.{given_of, decided_of, shared_of, is_found}
use Rattle.repair_queue.specs.SessionParts.{SessionParts, SessionEnd, going, accused, collided}

-- the state with what ended a session
abbrev pub state_by : SessionEnd → SessionState
state_by going = state.Open
state_by (accused claim) = state.Fraud
state_by (collided left right) = state.Clash

-- the state of a session
abbrev pub session_state : SessionParts → SessionState
session_state s = state_by s.ended

-- the cells of the square that aren't recoverable, row-major
pub record AreLeft (header : Roots) (ms : List Message) (cells : CellList) : Type 0 where
  pub width : cells.k ≡ header.k
  pub row_major : AreCells cells
  pub left : (cell : Cell) → Contains cells.list cell ↔ ((is_in_square header.k cell ≡ true) × (Half header ms cell → ⊥))

-- a cell of the square isn't known
abbrev pub IsNotFound : Board → Cell → Type 0
IsNotFound b cell = (is_in_square b.grid.k cell ≡ true) × (is_found (given_of b) (decided_of b) cell ≡ true → ⊥)

-- the cells that aren't, row-major
pub record AreNotFound (b : Board) (cells : CellList) : Type 0 where
  pub width : cells.k ≡ b.grid.k
  pub row_major : AreCells cells
  pub left : (cell : Cell) → Contains cells.list cell ↔ IsNotFound b cell

-- the shares of the original cells, row-major
pub record AreOriginals (b : Board) (shares : List Share) : Type 0 where
  pub count : length shares ≡ b.grid.k * b.grid.k
  pub are : (cell : Cell) → is_original b.grid.k cell ≡ true → share_at b.grid.k shares cell ≡ shared_of b cell

-- an answer goes with a state: a square or missing cells with an open one
abbrev pub IsOfState : SessionState → Verdict → Type 0
IsOfState state.Open (Whole square) = Unit {0}
IsOfState state.Open (Missing cells) = Unit {0}
IsOfState state.Open (Fraud proof) = ⊥
IsOfState state.Open (Clash pair) = ⊥
IsOfState state.Fraud (Fraud proof) = Unit {0}
IsOfState state.Fraud (Whole square) = ⊥
IsOfState state.Fraud (Missing cells) = ⊥
IsOfState state.Fraud (Clash pair) = ⊥
IsOfState state.Clash (Clash pair) = Unit {0}
IsOfState state.Clash (Whole square) = ⊥
IsOfState state.Clash (Missing cells) = ⊥
IsOfState state.Clash (Fraud proof) = ⊥
