-- Squares of whose extension the left half is kept, with the digests of the leaves over all cells.
use Rattle.std.specs.Prelude.{◌≡◌, ◌*◌, ℕ, List, true}
use Rattle.namespace_id.specs.declared.shares.Share.{Share}
use Rattle.namespace_id.specs.declared.digests.Digest.{Digest}
use Rattle.namespace_id.specs.Shares.{AreShares}
use Rattle.data_header.specs.Headers.{Roots}
use Rattle.square_layout.specs.Blocks.{SquareShares}
use Rattle.axis_roots.specs.Grids.{IsHeaderOf, AreLeafDigests, are_ordered_axes}
use Rattle.axis_roots.specs.Quarters.{IsLowerLeft}
use Rattle.axis_roots.specs.declared.halves.HalfParts.{HalfParts}

-- a square and its header
pub record HeadedSquare : Type 0 where
  pub square : SquareShares
  pub header : Roots

-- the digests of the leaves over all cells of a grid along whose rows and columns no namespaces fall
pub record AreOrderedLeaves (k : ℕ) (leaves : List Digest) : Type 0 where
  pub grid : List Share
  pub shares : AreShares grid
  pub ordered : are_ordered_axes k grid ≡ true
  pub digests : AreLeafDigests k grid leaves

-- the lower left quarter of the extension of a square, with a room for its code and a tree for the leaves along an axis
pub record AreHalfParts (square : SquareShares) (parts : HalfParts) : Type 0 where
  pub lower : IsLowerLeft square.k square.shares parts.quarter.items
  pub width : parts.room ≡ square.k
  pub count : parts.tree.count ≡ 2 * square.k

-- those of a square with its header, beside the digests of the leaves over all cells
pub record IsLeftHalf (half : HeadedSquare) (parts : HalfParts) : Type 0 where
  pub own : IsHeaderOf half.header half.square
  pub kept : AreHalfParts half.square parts
  pub digests : AreLeafDigests half.square.k own.grid parts.leaves.items
