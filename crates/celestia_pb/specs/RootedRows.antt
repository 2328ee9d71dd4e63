-- The message RowProof of one row: its root in field 1, a message Proof that leads from this to the data root in field 2, and the row
-- in fields 4 and 5, as the first and the last. Proof is the plain Merkle proof of one of the 4k roots: 4k in field 1, the row in
-- field 2, the leaf's hash (RFC 6962, 2.1) in field 3, and the hashes that lead upwards in fields 4. No root stands in field 3.
use Rattle.std.specs.Prelude.{ℕ, ◌*◌, ◌/◌, ◌==◌, ◌&&◌, ◌||◌, nat_lt, Bool, true, List, ◌++◌, length, Option, Some, None, option_map, option_and_then, Result, Ok, Err, if◌then◌else◌}
use Rattle.std.specs.Str.{bytes_eq}
use Rattle.namespace_id.specs.declared.digests.Digest.{Digest}
use Rattle.namespace_id.specs.Cells.{is_width, cell_in, is_original}
use Rattle.namespace_id.specs.Sizes.{hash_size}
use Rattle.data_header.specs.DataRoots.{leaf_hash}
use Rattle.data_header.specs.Paths.{most_hashes}
use Rattle.proto_fields.specs.Spelled.{bytes_field}
use Rattle.proto_fields.specs.Canonical.{number_text, parts_text, canonical_part}
use Rattle.celestia_pb.specs.declared.rooted_row.ShareFacts.{ShareFacts}
use Rattle.celestia_pb.specs.declared.rooted_row.RowPath.{RowPath}
use Rattle.celestia_pb.specs.declared.rooted_row.RootedRow.{RootedRow}
use Rattle.celestia_pb.specs.Reading.{then_read}
use Rattle.celestia_pb.specs.Digests.{digest_field}
use Rattle.celestia_pb.specs.Messages.{number_left, optional_message}
use Rattle.celestia_pb.specs.Inclusions.{is_place_stated}
use Rattle.celestia_pb.specs.Aunts.{optional_at, aunts_at}

-- ---- written

-- the message Proof of a row's root
abbrev pub row_path_text : ℕ → ℕ → Digest → List (List ℕ) → List ℕ
row_path_text k row root up = number_text 1 (4 * k) ++ (number_text 2 row ++ (bytes_field 3 (leaf_hash root) ++ parts_text 4 up))

-- the message RowProof
abbrev pub rooted_row_text : ℕ → ℕ → Digest → List (List ℕ) → List ℕ
rooted_row_text k row root up = bytes_field 1 root.0 ++ (bytes_field 2 (row_path_text k row root up) ++ (number_text 4 row ++ number_text 5 row))

-- ---- which numbers may be there, by what is told of the share

-- whether a square of width k has the share's column; right of the original square only the namespace of parity shares is a leaf's
abbrev pub has_column : Option ShareFacts → ℕ → Bool
has_column None k = true
has_column (Some told) k = nat_lt told.col (2 * k) && (nat_lt told.col k || told.parity)

-- whether the leaf in a row may have the share's namespace
abbrev pub has_names : Option ShareFacts → ℕ → ℕ → Bool
has_names None k row = true
has_names (Some told) k row = if is_original k (cell_in row told.col) then told.own else told.parity

-- whether a number is that of the roots of a square that has the column
abbrev pub is_total : Option ShareFacts → ℕ → Bool
is_total told total = is_width (total / 4) && ((total == 4 * (total / 4)) && has_column told (total / 4))

-- whether a number is a row of the square of so many roots, where the leaf may have the namespace
abbrev pub is_row : Option ShareFacts → ℕ → ℕ → Bool
is_row told total row = nat_lt row (2 * (total / 4)) && has_names told (total / 4) row

-- the same, or there is no such field
abbrev pub may_total : Option ShareFacts → ℕ → Bool
may_total told total = (total == 0) || is_total told total

abbrev pub may_row : Option ShareFacts → ℕ → ℕ → Bool
may_row told total row = (row == 0) || ((total == 0) || is_row told total row)

-- ---- the message Proof, read

-- bytes that were read, where they are the hash of the leaf of this root; where that isn't known, where they are a hash
abbrev pub is_leaf : Option Digest → List ℕ → Bool
is_leaf None bytes = length bytes == hash_size
is_leaf (Some root) bytes = bytes_eq bytes (leaf_hash root)

abbrev pub if_leaf : Option Digest → List ℕ × List ℕ → Option (Bool × List ℕ)
if_leaf root read = if is_leaf root read.0 then Some (true, read.1) else None

-- that hash at the front, and what follows
abbrev pub leaf_at : Option Digest → List ℕ → Option (Bool × List ℕ)
leaf_at root bytes = option_and_then (if_leaf root) (canonical_part 3 bytes)

-- the path of these, where all are there and nothing follows
abbrev pub row_path_end : Option ShareFacts → ℕ → ℕ → Option Bool → List (List ℕ) → List ℕ → Result RowPath ℕ
row_path_end told total row None up rest = Err (length rest)
row_path_end told total row (Some leaf) up rest =
    if (length rest == 0) && (is_total told total && is_row told total row)
    then Ok (record { k = total / 4; row = row; up = up })
    else Err (length rest)

-- where the leaf's hash was read
abbrev pub row_path_aunts : Option ShareFacts → ℕ → ℕ → Option Bool → List ℕ → Result RowPath ℕ
row_path_aunts told total row leaf bytes = then_read (row_path_end told total row leaf) (aunts_at 4 most_hashes bytes)

-- where the row was read
abbrev pub row_path_leaf : Option ShareFacts → Option Digest → ℕ → ℕ → List ℕ → Result RowPath ℕ
row_path_leaf told root total row bytes = then_read (row_path_aunts told total row) (optional_at (leaf_at root) 3 bytes)

-- where the number of roots was read
abbrev pub row_path_row : Option ShareFacts → Option Digest → ℕ → List ℕ → Result RowPath ℕ
row_path_row told root total bytes = then_read (row_path_leaf told root total) (number_left (may_row told total) 2 bytes)

-- the width, the row and the hashes that a message Proof has, by what is told and the root in front of it
abbrev pub row_path_left : Option ShareFacts → Option Digest → List ℕ → Result RowPath ℕ
row_path_left told root bytes = then_read (row_path_row told root) (number_left (may_total told) 1 bytes)

-- ---- the message RowProof, read

-- the row of a path, if it is known
abbrev pub row_in : Option RowPath → Option ℕ
row_in path = option_map (λ (p : RowPath). p.row) path

-- the row of these, where all are there and nothing follows
abbrev pub rooted_end : Option Digest → Option RowPath → ℕ → ℕ → List ℕ → Result RootedRow ℕ
rooted_end None path first last rest = Err (length rest)
rooted_end (Some root) None first last rest = Err (length rest)
rooted_end (Some root) (Some path) first last rest =
    if (length rest == 0) && ((first == path.row) && (last == path.row))
    then Ok (record { root = root; path = path })
    else Err (length rest)

-- where the first row was read
abbrev pub rooted_last : Option Digest → Option RowPath → ℕ → List ℕ → Result RootedRow ℕ
rooted_last root path first bytes = then_read (rooted_end root path first) (number_left (is_place_stated (row_in path)) 5 bytes)

-- where the path was read
abbrev pub rooted_first : Option Digest → Option RowPath → List ℕ → Result RootedRow ℕ
rooted_first root path bytes = then_read (rooted_last root path) (number_left (is_place_stated (row_in path)) 4 bytes)

-- where the root was read
abbrev pub rooted_path : Option ShareFacts → Option Digest → List ℕ → Result RootedRow ℕ
rooted_path told root bytes = then_read (rooted_first root) (optional_message (λ rest part. row_path_left told root part) 2 bytes)

-- the row with its root that a message RowProof has, by what is told
abbrev pub rooted_row_left : Option ShareFacts → List ℕ → Result RootedRow ℕ
rooted_row_left told bytes = then_read (rooted_path told) (optional_at (digest_field 1) 1 bytes)
