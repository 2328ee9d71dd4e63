-- The namespaces of the roots of a square's rows, which tell the rows that may hold one.
use Rattle.std.specs.Prelude.{ℕ, ◌&&◌, Bool, List, map}
use Rattle.namespace_id.specs.declared.cells.Axis.TheVariants.{Row}
use Rattle.namespace_id.specs.declared.namespaces.Namespace.{Namespace}
use Rattle.namespace_id.specs.declared.shares.Share.{Share}
use Rattle.namespace_id.specs.declared.digests.Digest.{Digest}
use Rattle.namespace_id.specs.Names.{is_at_most}
use Rattle.namespace_id.specs.Digests.{least_of, greatest_of}
use Rattle.namespace_id.specs.Lists.{ascending}
use Rattle.axis_roots.specs.Grids.{axis_root}
use Rattle.square_serve.specs.declared.rows.RowNames.{RowNames}

-- the least and the greatest of a root
abbrev pub names_in : Digest → RowNames
names_in root = record { least = least_of root; greatest = greatest_of root }

-- those of the root of a row
abbrev pub names_of : ℕ → List Share → ℕ → RowNames
names_of k grid row = names_in (axis_root k grid Row row)

-- those of the rows of the original square, from the first down
abbrev pub row_names : ℕ → List Share → List RowNames
row_names k grid = map (names_of k grid) (ascending 0 k)

-- whether a namespace lies between them
abbrev pub lies_between : RowNames → Namespace → Bool
lies_between names name = is_at_most names.least name && is_at_most name names.greatest
