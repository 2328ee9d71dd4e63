-- The payloads of requests: for the sample of a cell, and for the shares of a namespace (docs/FORMATS.md,
-- "Payloads").
use Rattle.std.specs.Prelude.{ℕ, List, [], ◌∷◌, length, Option, Some, None, if◌then◌else◌, ◌==◌, ◌++◌}
use Rattle.namespace_id.specs.declared.cells.Cell.{Cell}
use Rattle.namespace_id.specs.declared.cells.Axis.{Axis}
use Rattle.namespace_id.specs.declared.namespaces.Namespace.{Namespace}
use Rattle.namespace_id.specs.Sizes.{namespace_size}
use Rattle.frame_fields.specs.Fields.{◌>>=◌, axis_at, cell_at}
use Rattle.frame_payloads.specs.codec.Texts.{axis_byte, cell_bytes}

-- a cell and an axis
abbrev pub sample_payload : Cell → Axis → List ℕ
sample_payload cell axis = cell_bytes cell ++ axis_byte axis ∷ []

-- a namespace
abbrev pub request_payload : Namespace → List ℕ
request_payload name = name.0

-- a cell and an axis that are all of the bytes
unfoldable pub sample_at : List ℕ → Option (Cell × Axis)
sample_at bytes = do
  cell ← cell_at bytes
  axis ← axis_at cell.1
  if length axis.1 == 0 then Some (cell.0, axis.0) else None

-- a namespace that is all of the bytes
unfoldable pub request_at : List ℕ → Option Namespace
request_at bytes = if length bytes == namespace_size then Some (record { 0 = bytes }) else None
