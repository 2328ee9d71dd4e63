-- Fields of a payload, read from the front of a byte string. A field that is read is a value and the
-- bytes after it.
use Rattle.std.specs.Prelude.{ℕ, zero, suc, ◌*◌, List, [], ◌∷◌, length, take, drop, nat_lt, Option, Some, None, if◌then◌else◌, ◌==◌}
use Rattle.std.specs.Option.{option_map_or}
use Rattle.std.specs.Int.{Width, w16, byte_len, from_be_bytes}
use Rattle.namespace_id.specs.declared.cells.Cell.{Cell}
use Rattle.namespace_id.specs.declared.digests.Digest.{Digest}
use Rattle.namespace_id.specs.declared.shares.Share.{Share}
use Rattle.namespace_id.specs.declared.cells.Axis.{Axis}
use Rattle.namespace_id.specs.declared.cells.Axis.TheVariants.{Row, Col}
use Rattle.namespace_id.specs.Sizes.{share_size, digest_size, hash_size}
use Rattle.namespace_id.specs.Shares.{share_of}
use Rattle.data_header.specs.Paths.{most_hashes}

-- ---- fields

-- a reader, and what is read after it; none where the first reads none
infixl 10 ◌>>=◌
abbrev pub ◌>>=◌ : {A B : Type 0} → Option A → (A → Option B) → Option B
None >>= f = None
(Some x) >>= f = f x

-- a byte string of this length
abbrev pub string_at : ℕ → List ℕ → Option (List ℕ × List ℕ)
string_at size bytes = if nat_lt (length bytes) size then None else Some (take size bytes, drop size bytes)

-- a big-endian number
abbrev pub big_endian_at : Width → List ℕ → Option (ℕ × List ℕ)
big_endian_at w bytes =
    if nat_lt (length bytes) (byte_len w) then None else
    Some (from_be_bytes w (take (byte_len w) bytes), drop (byte_len w) bytes)

-- a byte
abbrev pub byte_at : List ℕ → Option (ℕ × List ℕ)
byte_at [] = None
byte_at (byte ∷ rest) = Some (byte, rest)

-- so many values of one length, one after another
unfoldable pub split_into : {A : Type 0} → (List ℕ → A) → ℕ → ℕ → List ℕ → List A
split_into value size zero bytes = []
split_into value size (suc count) bytes = value (take size bytes) ∷ split_into value size count (drop size bytes)

-- the digest that bytes are
abbrev pub digest : List ℕ → Digest
digest bytes = record { 0 = bytes }

-- so many digests, one after another
abbrev pub digests_of : ℕ → List ℕ → List Digest
digests_of count bytes = split_into digest digest_size count bytes

-- so many shares, one after another
abbrev pub shares_of : ℕ → List ℕ → List Share
shares_of count bytes = split_into share_of share_size count bytes

-- so many values of one length at the front, and the bytes after them
abbrev pub values_at : {A : Type 0} → (List ℕ → A) → ℕ → ℕ → List ℕ → Option (List A × List ℕ)
values_at value size count bytes =
    if nat_lt (length bytes) (size * count) then None else
    Some (split_into value size count (take (size * count) bytes), drop (size * count) bytes)

-- so many digests at the front, and the bytes after them
abbrev pub digests_at : ℕ → List ℕ → Option (List Digest × List ℕ)
digests_at count bytes = values_at digest digest_size count bytes

-- so many shares at the front, and the bytes after them
abbrev pub shares_at : ℕ → List ℕ → Option (List Share × List ℕ)
shares_at count bytes = values_at share_of share_size count bytes

-- so many cells, one after another
unfoldable pub cells_of : ℕ → List ℕ → List Cell
cells_of zero bytes = []
cells_of (suc count) bytes =
    record { row = from_be_bytes w16 (take 2 bytes); col = from_be_bytes w16 (take 2 (drop 2 bytes)) }
    ∷ cells_of count (drop 4 bytes)

-- an axis in one byte: 0 for a row, 1 for a column
unfoldable pub axis_at : List ℕ → Option (Axis × List ℕ)
axis_at bytes = do
  byte ← byte_at bytes
  if byte.0 == 0 then Some (Row, byte.1) else
      if byte.0 == 1 then Some (Col, byte.1) else None

-- a cell: its row and its column, in two bytes each
unfoldable pub cell_at : List ℕ → Option (Cell × List ℕ)
cell_at bytes = do
  row ← big_endian_at w16 bytes
  col ← big_endian_at w16 row.1
  Some (record { row = row.0; col = col.0 }, col.1)

-- a count in one byte, at most the limit, and so many digests
unfoldable pub path_at : ℕ → List ℕ → Option (List Digest × List ℕ)
path_at limit bytes = do
  count ← byte_at bytes
  if nat_lt limit count.0 then None else digests_at count.0 count.1

-- a count in one byte, and so many hashes
unfoldable pub hashes_at : List ℕ → Option (List (List ℕ) × List ℕ)
hashes_at bytes = do
  count ← byte_at bytes
  if nat_lt most_hashes count.0 then None else values_at (λ hash. hash) hash_size count.0 count.1

-- ---- values whose lengths differ

-- a count or a length of this width, at most the limit
unfoldable pub count_at : Width → ℕ → List ℕ → Option (ℕ × List ℕ)
count_at w limit bytes = do
  count ← big_endian_at w bytes
  if nat_lt limit count.0 then None else Some count

-- a count of two bytes, at most the limit, and so many digests
unfoldable pub digest_list_at : ℕ → List ℕ → Option (List Digest × List ℕ)
digest_list_at limit bytes = do
  count ← count_at w16 limit bytes
  digests_at count.0 count.1

-- a byte string behind its length, which has this width and is at most the limit
unfoldable pub text_at : Width → ℕ → List ℕ → Option (List ℕ × List ℕ)
text_at w limit bytes = do
  size ← count_at w limit bytes
  string_at size.0 size.1

-- so many values, each read where the one before ended
unfoldable pub many_at : {A : Type 0} → (List ℕ → Option (A × List ℕ)) → ℕ → List ℕ → Option (List A × List ℕ)
many_at one zero bytes = Some ([], bytes)
many_at one (suc count) bytes = do
  first ← one bytes
  others ← many_at one count first.1
  Some (first.0 ∷ others.0, others.1)

-- a count of this width, at most the limit, and so many values
unfoldable pub list_at : {A : Type 0} → Width → ℕ → (List ℕ → Option (A × List ℕ)) → List ℕ → Option (List A × List ℕ)
list_at w limit one bytes = do
  count ← count_at w limit bytes
  many_at one count.0 count.1

-- the values that were read, no values where none could be
abbrev pub read_items : {A : Type 0} → Option (List A × List ℕ) → List A
read_items read = option_map_or (λ x. x.0) read []
