-- What a node that holds a square answers.
use Rattle.std.specs.Prelude.{◌≡◌, ℕ, ◌*◌, ◌==◌, List, map, take, drop, length, get_or, Some, if◌then◌else◌}
use Rattle.std.specs.List.{filter}
use Rattle.std.specs.Str.{bytes_eq}
use Rattle.namespace_id.specs.declared.cells.Axis.TheVariants.{Row}
use Rattle.namespace_id.specs.declared.namespaces.Namespace.{Namespace}
use Rattle.namespace_id.specs.declared.shares.Share.{Share}
use Rattle.namespace_id.specs.Shares.{AreShares}
use Rattle.namespace_id.specs.Names.{is_below}
use Rattle.namespace_id.specs.Digests.{no_digest}
use Rattle.nmt_proofs.specs.Making.{leaf_nodes, range_nodes}
use Rattle.data_header.specs.Headers.{Roots}
use Rattle.square_layout.specs.Blocks.{SquareShares, IsSquare}
use Rattle.axis_roots.specs.declared.answers.Found.{Found}
use Rattle.axis_roots.specs.declared.answers.Found.TheVariants.{Range, Absence}
use Rattle.axis_roots.specs.declared.answers.NsEntry.{NsEntry}
use Rattle.axis_roots.specs.Grids.{IsGrid, Extends, axis_names, axis_shares, header_of_grid}
use Rattle.axis_roots.specs.Trees.{axis_leaves}
use Rattle.square_serve.specs.Answers.{wanted_rows}

-- ---- held squares

-- a held square as contracts see it: its width k, the 4 * k * k shares of its extension, row-major, and their header
pub record HeldParts : Type 0 where
  pub k : ℕ
  pub grid : List Share
  pub header : Roots

-- the header is that of the grid
pub record IsHeld (held : HeldParts) : Type 0 where
  pub grid : IsGrid (record { k = held.k; shares = held.grid })
  pub shares : AreShares held.grid
  pub roots : header_of_grid held.k held.grid ≡ Some held.header

-- the grid is the extension of a square, and the header is the square's
pub record Holds (held : HeldParts) (square : SquareShares) : Type 0 where
  pub whole : IsSquare square
  pub width : held.k ≡ square.k
  pub extends : Extends square.k square.shares held.grid
  pub roots : header_of_grid held.k held.grid ≡ Some held.header

-- ---- the answer to a namespace request

-- how many of the namespaces are below one
abbrev pub count_below : Namespace → List Namespace → ℕ
count_below name names = length (filter (λ n. is_below n name) names)

-- how many of the namespaces are this one
abbrev pub count_same : Namespace → List Namespace → ℕ
count_same name names = length (filter (λ n. bytes_eq n.0 name.0) names)

-- the range of so many leaves from a column on, or the absence at that column where there are none
abbrev pub found_at : ℕ → List Share → ℕ → ℕ → ℕ → Found
found_at k grid row start count =
    if count == 0
    then Absence start (get_or (axis_leaves k grid Row row) start no_digest)
    (leaf_nodes (2 * k) (axis_leaves k grid Row row) start)
    else Range start (take count (drop start (axis_shares k grid Row row)))
    (range_nodes (2 * k) (axis_leaves k grid Row row) start count)

-- what is found of a namespace in a row whose namespaces never fall
abbrev pub found_in : ℕ → List Share → Namespace → ℕ → Found
found_in k grid name row =
    found_at k grid row (count_below name (axis_names k grid Row row)) (count_same name (axis_names k grid Row row))

-- the entry of a row
abbrev pub row_entry : ℕ → List Share → Namespace → ℕ → NsEntry
row_entry k grid name row = record { row = row; found = found_in k grid name row }

-- the answer: an entry for each row that may hold the namespace, in their order
abbrev pub answer_for : HeldParts → Namespace → List NsEntry
answer_for held name = map (row_entry held.k held.grid name) (wanted_rows held.header name)
