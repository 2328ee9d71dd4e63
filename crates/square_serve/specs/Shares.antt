-- The shares of a namespace in a square (Celestia specifications, "Data Structures").
use Rattle.std.specs.Prelude.{ℕ, List, map, Bool}
use Rattle.std.specs.List.{filter, flat_map}
use Rattle.std.specs.Str.{bytes_eq}
use Rattle.namespace_id.specs.declared.cells.Cell.{Cell}
use Rattle.namespace_id.specs.declared.cells.Axis.TheVariants.{Row}
use Rattle.namespace_id.specs.declared.namespaces.Namespace.{Namespace}
use Rattle.namespace_id.specs.declared.shares.Share.{Share}
use Rattle.namespace_id.specs.Shares.{name_in}
use Rattle.namespace_id.specs.Lists.{ascending}
use Rattle.square_layout.specs.Blocks.{SquareShares}
use Rattle.axis_roots.specs.Lines.{cell_on}
use Rattle.axis_roots.specs.Grids.{share_at}

-- whether a share begins with a namespace
abbrev pub is_named : Namespace → Share → Bool
is_named name share = bytes_eq (name_in share).0 name.0

-- a cell of a square, and its share
abbrev pub cell_share : SquareShares → Cell → Cell × Share
cell_share square cell = (cell, share_at square.k square.shares cell)

-- those of a row of the square whose share begins with a namespace, left to right
abbrev pub row_shares : SquareShares → Namespace → ℕ → List (Cell × Share)
row_shares square name row =
    filter (λ p. is_named name p.1) (map (λ col. cell_share square (cell_on Row row col)) (ascending 0 square.k))

-- the shares of a namespace, each with its cell, row-major
abbrev pub namespace_shares : SquareShares → Namespace → List (Cell × Share)
namespace_shares square name = flat_map (row_shares square name) (ascending 0 square.k)
