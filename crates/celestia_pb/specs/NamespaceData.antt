-- What is found of a namespace in rows as a stream of messages RowNamespaceData, each behind its length, to the end of the bytes. The
-- rows aren't in it: they are those of a list, the first message that of the first row.
use Rattle.std.specs.Prelude.{◌≡◌, ℕ, ◌+◌, ◌==◌, ◌&&◌, nat_le, Bool, List, [], ◌∷◌, length, map, flat_map, Result, Ok, Err, if◌then◌else◌}
use Rattle.std.specs.List.{AllByRecursion, list_all}
use Rattle.namespace_id.specs.Bytes.{AreBytes}
use Rattle.namespace_id.specs.Sizes.{greatest_width}
use Rattle.proto_fields.specs.Spelled.{text}
use Rattle.proto_fields.specs.Canonical.{part_at}
use Rattle.axis_roots.specs.declared.answers.NsEntry.{NsEntry}
use Rattle.celestia_pb.specs.Reading.{then_read, or_left, with_offset}
use Rattle.celestia_pb.specs.RowData.{found_has_message, found_message, row_left}
use Rattle.celestia_pb.specs.RowDataLaws.{FoundHasMessage}

-- ---- written

-- the message of an entry behind its length
abbrev pub ns_entry_text : NsEntry → List ℕ
ns_entry_text entry = text (found_message entry.found)

-- the messages of entries, one after another
abbrev pub namespace_data_text : List NsEntry → List ℕ
namespace_data_text answer = flat_map ns_entry_text answer

-- whether an entry has a message
abbrev pub has_part : NsEntry → Bool
has_part entry = found_has_message entry.found

-- whether entries have a stream: at most as many as the widest square has rows, and each has a message
abbrev pub has_stream : List NsEntry → Bool
has_stream answer = nat_le (length answer) greatest_width && list_all has_part answer

-- ---- read

-- an entry, and what follows its message; where a field in the message is wrong, what follows is left besides
abbrev pub entry_before : List ℕ → Result NsEntry ℕ → Result (NsEntry × List ℕ) ℕ
entry_before rest (Ok entry) = Ok (entry, rest)
entry_before rest (Err left) = Err (left + length rest)

-- the entry of a row whose message is in front, and what follows it
abbrev pub entry_at : ℕ → List ℕ → Result (NsEntry × List ℕ) ℕ
entry_at row bytes = then_read (λ part rest. entry_before rest (row_left row part)) (or_left bytes (part_at bytes))

-- an entry in front of others
abbrev pub with_entry : NsEntry → Result (List NsEntry) ℕ → Result (List NsEntry) ℕ
with_entry entry (Ok entries) = Ok (entry ∷ entries)
with_entry entry (Err left) = Err left

-- the entries of these rows, or how many bytes are left from the first field that is wrong on; a length counts as a field
unfoldable pub entries_left : List ℕ → List ℕ → Result (List NsEntry) ℕ
entries_left [] bytes = if length bytes == 0 then Ok [] else Err (length bytes)
entries_left (row ∷ rows) bytes = then_read (λ entry rest. with_entry entry (entries_left rows rest)) (entry_at row bytes)

-- the entries of these rows that a stream is, or the offset of the first field that is wrong
abbrev pub namespace_data_value : List ℕ → List ℕ → Result (List NsEntry) ℕ
namespace_data_value rows bytes = with_offset (length bytes) (entries_left rows bytes)

-- ---- what is promised of all of them

-- the rows of entries
abbrev pub rows_of : List NsEntry → List ℕ
rows_of answer = map (λ (entry : NsEntry). entry.row) answer

-- each of these is made of shares, digests and a place, and has a message
abbrev pub HaveMessages : List NsEntry → Type 0
HaveMessages answer = AllByRecursion (λ (entry : NsEntry). FoundHasMessage entry.found) answer

-- the stream of entries is read as these, under their rows
abbrev pub NamespaceDataIsRead : Type 0
NamespaceDataIsRead = (answer : List NsEntry) → HaveMessages answer
    → namespace_data_value (rows_of answer) (namespace_data_text answer) ≡ Ok answer

-- what is read as entries are those of the rows, one each, and the bytes are their stream
abbrev pub ReadIsNamespaceData : Type 0
ReadIsNamespaceData = (rows bytes : List ℕ) (answer : List NsEntry) → AreBytes bytes → namespace_data_value rows bytes ≡ Ok answer
    → (rows_of answer ≡ rows) × HaveMessages answer × (bytes ≡ namespace_data_text answer)
