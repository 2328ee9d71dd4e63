-- What is found in a row of a held square, whose shares stand where they are.
use Rattle.std.specs.Prelude.{ℕ, ◌+◌, ◌<◌, ◌≤◌, List, take, drop, ⊤}
use Rattle.namespace_id.specs.declared.cells.Axis.TheVariants.{Row}
use Rattle.namespace_id.specs.declared.shares.Share.{Share}
use Rattle.axis_roots.specs.declared.answers.Found.{Found}
use Rattle.axis_roots.specs.declared.answers.Found.TheVariants as found
use Rattle.axis_roots.specs.Grids.{axis_shares}
use Rattle.square_serve.specs.declared.finding.RowFound.{RowFound}
use Rattle.square_serve.specs.declared.finding.RowFound.TheVariants.{Range, Absence}

-- what is found, with the shares of its columns among those of a row
abbrev pub found_among : List Share → RowFound → Found
found_among shares (Range start count nodes) = found.Range start (take count (drop start shares)) nodes
found_among shares (Absence pos leaf nodes) = found.Absence pos leaf nodes

-- what is found in a row of an extended square
abbrev pub found_on : ℕ → List Share → ℕ → RowFound → Found
found_on k grid row place = found_among (axis_shares k grid Row row) place

-- the columns of a range are among so many, and there is one
abbrev pub HasColumns : ℕ → RowFound → Type 0
HasColumns k (Range start count nodes) = (0 < count) × (start + count ≤ k)
HasColumns k (Absence pos leaf nodes) = ⊤
