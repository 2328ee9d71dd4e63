-- A header as Celestia's message DataAvailabilityHeader: its row roots in fields 1, its column roots in fields 2.
use Rattle.std.specs.Prelude.{ℕ, ◌*◌, ◌/◌, ◌==◌, ◌&&◌, Bool, List, ◌++◌, length, Result, Ok, Err, if◌then◌else◌}
use Rattle.namespace_id.specs.declared.digests.Digest.{Digest}
use Rattle.namespace_id.specs.Cells.{is_width}
use Rattle.namespace_id.specs.Sizes.{greatest_width}
use Rattle.data_header.specs.Headers.{Roots}
use Rattle.celestia_pb.specs.Reading.{then_read, with_offset}
use Rattle.celestia_pb.specs.Digests.{digests_text, digests_at}

-- the message of a header
abbrev pub dah_text : Roots → List ℕ
dah_text header = digests_text 1 header.rows ++ digests_text 2 header.cols

-- whether these are 2k and 2k for a width k
abbrev pub has_counts : ℕ → ℕ → Bool
has_counts rows cols = is_width (rows / 2) && ((rows == 2 * (rows / 2)) && (cols == rows))

-- the header of these roots, where nothing follows them
abbrev pub dah_end : List Digest → List Digest → List ℕ → Result Roots ℕ
dah_end rows cols rest =
    if (length rest == 0) && has_counts (length rows) (length cols)
    then Ok (record { k = length rows / 2; rows = rows; cols = cols })
    else Err (length rest)

-- the header of these row roots and of the column roots that follow, at most as many
abbrev pub dah_cols : List Digest → List ℕ → Result Roots ℕ
dah_cols rows bytes = then_read (dah_end rows) (digests_at 2 (length rows) bytes)

-- the header that a message is, or how many bytes are left from the first field that is wrong on
abbrev pub dah_left : List ℕ → Result Roots ℕ
dah_left bytes = then_read dah_cols (digests_at 1 (2 * greatest_width) bytes)

-- the header that a message is, or the offset of the first field that is wrong
abbrev pub dah_value : List ℕ → Result Roots ℕ
dah_value bytes = with_offset (length bytes) (dah_left bytes)
