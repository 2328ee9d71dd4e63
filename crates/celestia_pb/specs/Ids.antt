-- The identifiers by which Celestia's nodes ask: numbers behind one another, the highest byte first (CIP-19).
use Rattle.std.specs.Prelude.{◌≡◌, ℕ, ◌==◌, ◌&&◌, nat_le, List, ◌++◌, length, take, drop, Option, Some, None, Result, Ok, Err, if◌then◌else◌}
use Rattle.std.specs.Int.{w16, w64, to_be_bytes, from_be_bytes}
use Rattle.std.specs.Str.{bytes_eq}
use Rattle.namespace_id.specs.declared.cells.Cell.{Cell}
use Rattle.namespace_id.specs.declared.namespaces.Namespace.{Namespace}
use Rattle.namespace_id.specs.Bytes.{AreBytes}
use Rattle.namespace_id.specs.Names.{IsNamespace}
use Rattle.namespace_id.specs.Sizes.{namespace_size}
use Rattle.celestia_pb.specs.Reading.{then_read, or_left, with_offset}
use Rattle.namespace_id.specs.Cells.{IsCell}

-- ---- written

-- SampleID: a height, a row and a column
abbrev pub sample_id_text : ℕ → Cell → List ℕ
sample_id_text height cell = to_be_bytes w64 height ++ (to_be_bytes w16 cell.row ++ to_be_bytes w16 cell.col)

-- NamespaceDataID: a height and a namespace
abbrev pub namespace_id_text : ℕ → Namespace → List ℕ
namespace_id_text height name = to_be_bytes w64 height ++ name.0

-- ---- read

-- what follows a height, where it is this one
abbrev pub behind_height : ℕ → List ℕ → Option (List ℕ)
behind_height height bytes =
    if nat_le 8 (length bytes) && bytes_eq (take 8 bytes) (to_be_bytes w64 height) then Some (drop 8 bytes) else None

-- a number of two bytes, and what follows
abbrev pub short_at : List ℕ → Option (ℕ × List ℕ)
short_at bytes = if nat_le 2 (length bytes) then Some (from_be_bytes w16 (take 2 bytes), drop 2 bytes) else None

-- a namespace, and what follows
abbrev pub name_front : List ℕ → Option (Namespace × List ℕ)
name_front bytes =
    if nat_le namespace_size (length bytes) then Some (record { 0 = take namespace_size bytes }, drop namespace_size bytes) else None

-- what was read, where nothing follows it
abbrev pub id_end : {A : Type 0} → A → List ℕ → Result A ℕ
id_end value rest = if length rest == 0 then Ok value else Err (length rest)

-- what is read behind a height
abbrev pub after_height : {A : Type 0} → (List ℕ → Result A ℕ) → List ℕ → Option (List ℕ) → Result A ℕ
after_height next bytes None = Err (length bytes)
after_height next bytes (Some rest) = next rest

-- the cell of this row and of this column
abbrev pub id_cell : ℕ → ℕ → List ℕ → Result Cell ℕ
id_cell row col rest = id_end (record { row = row; col = col }) rest

-- the cell of this row and of the column that follows
abbrev pub id_col : ℕ → List ℕ → Result Cell ℕ
id_col row bytes = then_read (id_cell row) (or_left bytes (short_at bytes))

-- the cell of the row and the column that follow
abbrev pub id_row : List ℕ → Result Cell ℕ
id_row bytes = then_read id_col (or_left bytes (short_at bytes))

-- the namespace that follows
abbrev pub id_name : List ℕ → Result Namespace ℕ
id_name bytes = then_read id_end (or_left bytes (name_front bytes))

-- the cell that a SampleID of this height names, or how many bytes are left from the number that is wrong on
abbrev pub sample_id_left : ℕ → List ℕ → Result Cell ℕ
sample_id_left height bytes = after_height id_row bytes (behind_height height bytes)

-- the namespace that a NamespaceDataID of this height names, or how many bytes are left
abbrev pub namespace_id_left : ℕ → List ℕ → Result Namespace ℕ
namespace_id_left height bytes = after_height id_name bytes (behind_height height bytes)

-- the same, with the offset of the number that is wrong
abbrev pub sample_id_value : ℕ → List ℕ → Result Cell ℕ
sample_id_value height bytes = with_offset (length bytes) (sample_id_left height bytes)

abbrev pub namespace_id_value : ℕ → List ℕ → Result Namespace ℕ
namespace_id_value height bytes = with_offset (length bytes) (namespace_id_left height bytes)

-- ---- what is promised of all

-- the identifier of a cell is read as the cell
abbrev pub SampleIdIsRead : Type 0
SampleIdIsRead = (height : ℕ) (cell : Cell) → IsCell cell → sample_id_value height (sample_id_text height cell) ≡ Ok cell

-- what is read as a cell is one, and the bytes are its identifier
abbrev pub ReadIsSampleId : Type 0
ReadIsSampleId = (height : ℕ) (bytes : List ℕ) (cell : Cell) → AreBytes bytes → sample_id_value height bytes ≡ Ok cell
    → IsCell cell × (bytes ≡ sample_id_text height cell)

-- the identifier of a namespace is read as the namespace
abbrev pub NamespaceIdIsRead : Type 0
NamespaceIdIsRead = (height : ℕ) (name : Namespace) → IsNamespace name → namespace_id_value height (namespace_id_text height name) ≡ Ok name

-- what is read as a namespace is one, and the bytes are its identifier
abbrev pub ReadIsNamespaceId : Type 0
ReadIsNamespaceId = (height : ℕ) (bytes : List ℕ) (name : Namespace) → AreBytes bytes → namespace_id_value height bytes ≡ Ok name
    → IsNamespace name × (bytes ≡ namespace_id_text height name)
