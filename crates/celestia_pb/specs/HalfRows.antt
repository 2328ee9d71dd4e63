-- Half a row as Celestia's message Row: its shares, as messages of their own, in fields 1, and its side in field 2. The row isn't in
-- it: it is that of the request.
use Rattle.std.specs.Prelude.{◌≡◌, ℕ, ◌==◌, ◌&&◌, true, List, ◌++◌, length, map, Option, Some, None, option_and_then, Result, Ok, Err, if◌then◌else◌}
use Rattle.namespace_id.specs.declared.shares.Share.{Share}
use Rattle.namespace_id.specs.Bytes.{AreBytes}
use Rattle.namespace_id.specs.Cells.{is_width}
use Rattle.namespace_id.specs.Shares.{AreShares}
use Rattle.namespace_id.specs.Sizes.{greatest_width}
use Rattle.proto_fields.specs.Canonical.{number_text, canonical_number}
use Rattle.proto_fields.specs.Fields.{FieldParts, fields_of, all_bytes, last_number}
use Rattle.celestia_pb.specs.declared.half_row.Side.{Side}
use Rattle.celestia_pb.specs.declared.half_row.Side.TheVariants.{Left, Right}
use Rattle.celestia_pb.specs.Reading.{then_read, or_left, with_offset}
use Rattle.celestia_pb.specs.Samples.{share_message}
use Rattle.celestia_pb.specs.RowShares.{shares_text, shares_at}

-- half a row: which one, and its shares
pub record HalfParts : Type 0 where
  pub side : Side
  pub shares : List Share

-- there are k shares for a width k
pub record IsHalf (half : HalfParts) : Type 0 where
  pub width : is_width (length half.shares) ≡ true

-- ---- written

-- the number of a side
abbrev pub side_number : Side → ℕ
side_number Left = 0
side_number Right = 1

-- the message of half a row
abbrev pub half_row_text : HalfParts → List ℕ
half_row_text half = shares_text half.shares ++ number_text 2 (side_number half.side)

-- ---- read

-- the side that a number is
abbrev pub side_of : ℕ × List ℕ → Option (Side × List ℕ)
side_of read = if read.0 == 0 then Some (Left, read.1) else (if read.0 == 1 then Some (Right, read.1) else None)

-- the side at the front, and what follows
abbrev pub side_at : List ℕ → Option (Side × List ℕ)
side_at bytes = option_and_then side_of (canonical_number 2 bytes)

-- the half of these, where nothing follows
abbrev pub half_row_end : List Share → Side → List ℕ → Result HalfParts ℕ
half_row_end shares side rest =
    if (length rest == 0) && is_width (length shares) then Ok (record { side = side; shares = shares }) else Err (length rest)

-- where the shares were read
abbrev pub half_row_side : List Share → List ℕ → Result HalfParts ℕ
half_row_side shares bytes = then_read (half_row_end shares) (or_left bytes (side_at bytes))

-- the half of a row that a message is, or how many bytes are left from the first field that is wrong on
abbrev pub half_row_left : List ℕ → Result HalfParts ℕ
half_row_left bytes = then_read half_row_side (shares_at greatest_width bytes)

-- the half of a row that a message is, or the offset of the first field that is wrong
abbrev pub half_row_value : List ℕ → Result HalfParts ℕ
half_row_value bytes = with_offset (length bytes) (half_row_left bytes)

-- ---- what is promised of all of them

-- the message of half a row is read as the half
abbrev pub HalfRowIsRead : Type 0
HalfRowIsRead = (half : HalfParts) → IsHalf half → AreShares half.shares → half_row_value (half_row_text half) ≡ Ok half

-- what is read as half a row is one, and the bytes are its message
abbrev pub ReadIsHalfRow : Type 0
ReadIsHalfRow = (bytes : List ℕ) (half : HalfParts) → AreBytes bytes → half_row_value bytes ≡ Ok half
    → (IsHalf half × AreShares half.shares) × (bytes ≡ half_row_text half)

-- lenient reading has the messages of its shares in fields 1, and no other of these, and the number of its side
abbrev pub HalfRowIsCommon : Type 0
HalfRowIsCommon = (bytes : List ℕ) (half : HalfParts) → AreBytes bytes → half_row_value bytes ≡ Ok half
    → (fields : List FieldParts) × (fields_of bytes ≡ Some fields)
    × (all_bytes 1 fields ≡ map share_message half.shares) × (last_number 2 fields ≡ side_number half.side)
