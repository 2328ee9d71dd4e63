-- Samples that are those of a whole row, and the left half of the row.
use Rattle.std.specs.Prelude.{ℕ, suc, ◌*◌, ◌/◌, ◌==◌, ◌&&◌, nat_lt, Bool, Vec, List, [], ◌∷◌, length, take, Some, None, option_map, option_and_then, if◌then◌else◌}
use Rattle.std.specs.declared.option.Option.{Option}
use Rattle.std.specs.declared.alloc.Global.{Global}
use Rattle.std.specs.List.{filter_map}
use Rattle.namespace_id.specs.declared.cells.Axis.TheVariants.{Row}
use Rattle.namespace_id.specs.declared.shares.Share.{Share}
use Rattle.namespace_id.specs.Cells.{is_width}
use Rattle.axis_roots.specs.declared.message.messages.Message.{Message}
use Rattle.axis_roots.specs.Sets.{is_along}
use Rattle.celestia_pb.specs.declared.half_row.Side.TheVariants.{Left}
use Rattle.celestia_pb.specs.HalfRows.{HalfParts}
use Rattle.da_wire.specs.Spelling.{message_kind}
use Rattle.da_wire.specs.Single.{message_of}
use Rattle.da_wire.specs.Values.{values_of}

-- the samples of a file of them
abbrev pub file_samples : List ℕ → List Message
file_samples bytes = filter_map message_of (values_of (message_kind ∷ []) bytes)

-- whether a sample is that of this cell along its row
abbrev pub is_at : ℕ → ℕ → Message → Bool
is_at row col m = is_along Row m && ((m.cell.row == row) && (m.cell.col == col))

-- the shares of samples of a row, from a column on; none where one isn't that of the next column
unfoldable pub shares_along : ℕ → ℕ → List Message → Option (List Share)
shares_along row col [] = Some []
shares_along row col (m ∷ messages) =
    if is_at row col m then option_map (λ shares. m.share ∷ shares) (shares_along row (suc col) messages) else None

-- the row that the first sample is of
abbrev pub row_named : List Message → ℕ
row_named [] = 0
row_named (m ∷ messages) = m.cell.row

-- a list, if there is one
abbrev pub list_there : Option (Vec Share Global) → Option (List Share)
list_there None = None
list_there (Some v) = Some v.items

-- the left half of these shares of a row, where they are 2k for a width k, and the row is below 2k
abbrev pub left_half_of : ℕ → List Share → Option HalfParts
left_half_of row shares =
    if nat_lt row (length shares) && (is_width (length shares / 2) && (length shares == 2 * (length shares / 2)))
    then Some (record { side = Left; shares = take (length shares / 2) shares })
    else None

-- the left half of the row of which samples are all, from column 0
abbrev pub half_of : List Message → Option HalfParts
half_of messages = option_and_then (left_half_of (row_named messages)) (shares_along (row_named messages) 0 messages)
