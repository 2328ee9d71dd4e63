-- What is accepted under a square's own header.
use Rattle.std.specs.Prelude.{◌≡◌, ◌⊎◌, ◌*◌, ℕ, List, Some, None}
use Rattle.namespace_id.specs.declared.cells.Axis.{Axis}
use Rattle.namespace_id.specs.declared.shares.Share.{Share}
use Rattle.data_header.specs.Headers.{Roots}
use Rattle.nmt_tree.specs.Roots.{halvings}
use Rattle.nmt_proofs.specs.Parts.{Part}
use Rattle.nmt_proofs.specs.Openings.{opened}
use Rattle.nmt_proofs.specs.Clashes.{IsClash, clash_at, Agree}
use Rattle.square_layout.specs.Blocks.{SquareShares}
use Rattle.axis_roots.specs.declared.message.messages.Message.{Message}
use Rattle.axis_roots.specs.Messages.{index, shown_by}
use Rattle.axis_roots.specs.Grids.{Extends, share_at, axis_tree, IsHeaderOf}

-- a partial tree and the square's tree of a row or a column name a collision: the first two strings
-- in which they differ
pub record NamesAt (part : Part) (square : SquareShares) (axis : Axis) (i : ℕ) : Type 0 where
  pub grid : List Share
  pub extends : Extends square.k square.shares grid
  pub left : List ℕ
  pub right : List ℕ
  pub found : clash_at part (axis_tree square.k grid axis i) ≡ Some (left, right)
  pub clash : IsClash left right

-- a partial tree agrees with the square's tree of a row or a column, and they name no collision
pub record AgreesAt (part : Part) (square : SquareShares) (axis : Axis) (i : ℕ) : Type 0 where
  pub grid : List Share
  pub extends : Extends square.k square.shares grid
  pub same : Agree part (axis_tree square.k grid axis i)
  pub alike : clash_at part (axis_tree square.k grid axis i) ≡ None

-- the tree that a sample opens in a square of width k, of which one leaf and the nodes are told
abbrev pub opened_by : ℕ → Message → Part
opened_by k m = opened (halvings (2 * k)) 0 (shown_by k m) m.path

-- the sample shows the share that the square's extension has at its cell, and no collision is named:
-- the tree that it opens and the square's tree of that row or column differ in no string
pub record ShowsOwn (m : Message) (square : SquareShares) : Type 0 where
  pub grid : List Share
  pub extends : Extends square.k square.shares grid
  pub share : m.share ≡ share_at (2 * square.k) grid m.cell
  pub alike : clash_at (opened_by square.k m)
      (axis_tree square.k grid m.axis (index m.axis m.cell)) ≡ None

-- the sample and the square name a collision: the first two strings in which the tree that the
-- sample opens and the square's tree of that row or column differ
abbrev pub NamesClash : Message → SquareShares → Type 0
NamesClash m square = NamesAt (opened_by square.k m) square m.axis (index m.axis m.cell)

-- under the header of a square a sample shows the square's own share, or they name a collision
abbrev pub IsOwn : Roots → Message → Type 0
IsOwn header m =
    (square : SquareShares) → IsHeaderOf header square → ShowsOwn m square ⊎ NamesClash m square
