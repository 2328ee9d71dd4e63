-- The bytes that each field of a payload is written as.
use Rattle.std.specs.Prelude.{ℕ, List, ◌∷◌, length, ◌++◌}
use Rattle.std.specs.Int.{Width, w16, to_be_bytes}
use Rattle.namespace_id.specs.declared.cells.Cell.{Cell}
use Rattle.namespace_id.specs.declared.digests.Digest.{Digest}
use Rattle.std.specs.List.{flat_map}
use Rattle.namespace_id.specs.declared.cells.Axis.{Axis}
use Rattle.namespace_id.specs.declared.cells.Axis.TheVariants.{Row, Col}

-- the bytes of digests, one after another
abbrev pub digest_bytes : List Digest → List ℕ
digest_bytes digests = flat_map (λ d. d.0) digests

-- nodes behind their count in a byte
abbrev pub path_bytes : List Digest → List ℕ
path_bytes nodes = length nodes ∷ digest_bytes nodes

-- the byte of an axis: 0 for a row, 1 for a column
abbrev pub axis_byte : Axis → ℕ
axis_byte Row = 0
axis_byte Col = 1

-- a cell: its row and its column, in two bytes each
abbrev pub cell_bytes : Cell → List ℕ
cell_bytes cell = to_be_bytes w16 cell.row ++ to_be_bytes w16 cell.col

-- a byte string behind its length in a number of this width
abbrev pub text_bytes : Width → List ℕ → List ℕ
text_bytes w text = to_be_bytes w (length text) ++ text

-- values behind their count in a number of this width
abbrev pub list_bytes : {A : Type 0} → Width → (A → List ℕ) → List A → List ℕ
list_bytes w bytes_of values = to_be_bytes w (length values) ++ flat_map bytes_of values

-- digests behind their count in two bytes
abbrev pub digest_list : List Digest → List ℕ
digest_list digests = list_bytes w16 (λ d. d.0) digests
