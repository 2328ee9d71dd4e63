-- The payload of missing cells (docs/FORMATS.md, "Payloads").
use Rattle.std.specs.Prelude.{ℕ, ◌*◌, List, ◌∷◌, length, Option, Some, None, if◌then◌else◌, not, ◌==◌, ◌||◌, ◌&&◌, Bool, ◌++◌}
use Rattle.std.specs.Int.{w16, w32, to_be_bytes}
use Rattle.namespace_id.specs.declared.cells.Cell.{Cell}
use Rattle.std.specs.List.{flat_map, list_all}
use Rattle.namespace_id.specs.Cells.{are_cells, CellList, is_in_square, is_before}
use Rattle.frame_fields.specs.Fields.{◌>>=◌, big_endian_at, cells_of}
use Rattle.namespace_id.specs.Lists.{holds_along}
use Rattle.frame_payloads.specs.codec.Texts.{cell_bytes}

-- a width, and cells behind their count
abbrev pub missing_payload : CellList → List ℕ
missing_payload cells =
    to_be_bytes w16 cells.k ++ to_be_bytes w32 (length cells.list) ++ flat_map cell_bytes cells.list

-- a width k, a count from 1 on, so many cells of its square, strictly ascending in row-major order
unfoldable pub missing_at : List ℕ → Option CellList
missing_at bytes = do
  k ← big_endian_at w16 bytes
  count ← big_endian_at w32 k.1
  if (count.0 == 0) || not (length count.1 == 4 * count.0) then None else
      if are_cells k.0 (cells_of count.0 count.1)
      then Some (record { k = k.0; list = cells_of count.0 count.1 })
      else None

-- whether a cell of the square of width k comes after another
abbrev pub is_next : ℕ → Cell → Cell → Bool
is_next k before cell = is_in_square k cell && is_before before cell

-- whether cells go on after one
abbrev pub are_next : ℕ → Cell → List Cell → Bool
are_next k before cells = list_all (is_in_square k) cells && holds_along is_before (before ∷ cells)
