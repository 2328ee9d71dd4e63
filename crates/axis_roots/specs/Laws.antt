-- What parts of trees say under the header of a square, and what samples open that are made of a grid.
use Rattle.std.specs.Prelude.{◌≡◌, ◌<◌, ◌*◌, ◌⊎◌, ℕ, List, true}
use Rattle.namespace_id.specs.declared.cells.Axis.{Axis}
use Rattle.nmt_tree.specs.Roots.{halvings}
use Rattle.nmt_proofs.specs.Parts.{Part, digest_of}
use Rattle.nmt_proofs.specs.Clashes.{HasDepth, IsSized}
use Rattle.data_header.specs.Headers.{Roots, root_of}
use Rattle.square_layout.specs.Blocks.{SquareShares}
use Rattle.axis_roots.specs.Own.{AgreesAt, NamesAt}
use Rattle.axis_roots.specs.Grids.{IsHeaderOf, IsGrid, axis_root, is_ordered_axis}
use Rattle.namespace_id.specs.Cells.{is_in_square}
use Rattle.axis_roots.specs.Messages.{index}
use Rattle.axis_roots.specs.Openings.{OpensAt}
use Rattle.namespace_id.specs.declared.cells.Cell.{Cell}
use Rattle.namespace_id.specs.declared.shares.Share.{Share}
use Rattle.namespace_id.specs.Shares.{AreShares}
use Rattle.axis_roots.specs.Trees.{message_at}

-- a part of a tree under a root of a square's header agrees with the square's tree, or they name a collision
abbrev pub OwnOrNamed : Type 0
OwnOrNamed = (header : Roots) (square : SquareShares) (axis : Axis) (index : ℕ) (part : Part)
    → IsHeaderOf header square → index < 2 * square.k → HasDepth (halvings (2 * square.k)) part → IsSized part
    → digest_of part ≡ root_of header axis index
    → AgreesAt part square axis index ⊎ NamesAt part square axis index

-- a sample that is made of a grid opens under the strict root of its axis there
abbrev pub MadeOpens : Type 0
MadeOpens = (k : ℕ) (shares : List Share) (cell : Cell) (axis : Axis)
    → IsGrid (record { k = k; shares = shares }) → AreShares shares → is_in_square k cell ≡ true
    → is_ordered_axis k shares axis (index axis cell) ≡ true
    → OpensAt k (message_at k shares cell axis) (axis_root k shares axis (index axis cell))
