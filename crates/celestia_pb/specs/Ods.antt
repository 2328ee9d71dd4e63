-- An original square as its shares alone, row by row, as nodes send and store it: k * k of 512 bytes, and nothing else.
use Rattle.std.specs.Prelude.{◌≡◌, ℕ, ◌*◌, ◌/◌, ◌%◌, ◌==◌, nat_lt, List, length, Option, Some, None, Result, Ok, Err, if◌then◌else◌}
use Rattle.namespace_id.specs.Bytes.{AreBytes}
use Rattle.namespace_id.specs.Shares.{AreShares, share_bytes}
use Rattle.namespace_id.specs.Sizes.{share_size, most_shares}
use Rattle.square_layout.specs.Blocks.{SquareShares, IsSquare}
use Rattle.square_layout.specs.Layout.{holding_from}
use Rattle.celestia_pb.specs.ShareLists.{shares_behind}

-- ---- written

-- the bytes of a square
abbrev pub ods_text : SquareShares → List ℕ
ods_text square = share_bytes square.shares

-- ---- read

-- the width of the least square that holds so many shares
abbrev pub least_width : ℕ → ℕ
least_width count = holding_from 9 1 count

-- the width of the square that has so many shares: the least that holds them, if they fill it
abbrev pub square_width : ℕ → Option ℕ
square_width count = if least_width count * least_width count == count then Some (least_width count) else None

-- the square of this width; where there is none, the end of the bytes
abbrev pub ods_of : List ℕ → Option ℕ → Result SquareShares ℕ
ods_of bytes None = Err (length bytes)
ods_of bytes (Some k) = Ok (record { k = k; shares = shares_behind 0 (k * k) bytes })

-- the square that bytes are, or the offset of what is wrong: of a share behind the most that a square has, of a share that
-- the bytes run out in, or of the end
abbrev pub ods_value : List ℕ → Result SquareShares ℕ
ods_value bytes =
    if nat_lt (share_size * most_shares) (length bytes) then Err (share_size * most_shares) else
    (if length bytes % share_size == 0 then ods_of bytes (square_width (length bytes / share_size)) else Err (share_size * (length bytes / share_size)))

-- ---- what is promised of all of them

-- the bytes of a square are read as the square
abbrev pub OdsIsRead : Type 0
OdsIsRead = (square : SquareShares) → IsSquare square → AreShares square.shares → ods_value (ods_text square) ≡ Ok square

-- what is read as a square is one, and the bytes are its own
abbrev pub ReadIsOds : Type 0
ReadIsOds = (bytes : List ℕ) (square : SquareShares) → AreBytes bytes → ods_value bytes ≡ Ok square
    → (IsSquare square × AreShares square.shares) × (bytes ≡ ods_text square)
