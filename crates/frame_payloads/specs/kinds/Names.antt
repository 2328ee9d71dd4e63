-- The payload of a namespace answer (docs/FORMATS.md, "Payloads").
use Rattle.std.specs.Prelude.{◌≡◌, ◌≤◌, ⊤, ℕ, ◌*◌, List, ◌∷◌, length, map, nat_lt, Option, Some, None, if◌then◌else◌, ◌==◌, ◌||◌, Bool, false, ◌++◌}
use Rattle.std.specs.Int.{w16, to_be_bytes}
use Rattle.std.specs.List.{list_any}
use Rattle.std.specs.Option.{option_map}
use Rattle.namespace_id.specs.declared.namespaces.Namespace.{Namespace}
use Rattle.namespace_id.specs.Sizes.{namespace_size, share_size, digest_size, greatest_width, most_nodes}
use Rattle.namespace_id.specs.declared.shares.Share.{Share}
use Rattle.axis_roots.specs.declared.answers.Found.{Found}
use Rattle.axis_roots.specs.declared.answers.Found.TheVariants.{Range, Absence}
use Rattle.axis_roots.specs.declared.answers.NsEntry.{NsEntry}
use Rattle.frame_payloads.specs.declared.kinds.names.FoundFields.{FoundFields}
use Rattle.frame_payloads.specs.declared.kinds.names.FoundFields.TheVariants as fields
use Rattle.frame_payloads.specs.declared.shown.FoundPlace.{FoundPlace}
use Rattle.frame_payloads.specs.declared.shown.FoundPlace.TheVariants as place
use Rattle.frame_payloads.specs.declared.shown.EntryPlace.{EntryPlace}
use Rattle.frame_fields.specs.Fields.{◌>>=◌, big_endian_at, byte_at, string_at, count_at, list_at, path_at, shares_at, shares_of, digests_of, digest}
use Rattle.frame_payloads.specs.codec.Texts.{path_bytes, list_bytes}

-- ---- limits

-- the most entries of an answer, a row each
abbrev pub most_entries : ℕ
most_entries = greatest_width

-- the most shares of a range, all of the original half of a row
abbrev pub most_shares_shown : ℕ
most_shares_shown = greatest_width

-- whether what is found has more shares than can be written
abbrev pub is_long_found : Found → Bool
is_long_found (Range start shares nodes) = nat_lt most_shares_shown (length shares)
is_long_found (Absence pos leaf nodes) = false

-- whether an entry has more shares than can be written
abbrev pub is_long_entry : NsEntry → Bool
is_long_entry entry = is_long_found entry.found

-- whether an answer has more entries than can be written, or more shares in one of them
abbrev pub is_long_answer : List NsEntry → Bool
is_long_answer entries = nat_lt most_entries (length entries) || list_any is_long_entry entries

-- ---- what is written

-- shares behind their count in two bytes
abbrev pub share_list_bytes : List Share → List ℕ
share_list_bytes shares = list_bytes w16 (λ s. s.0) shares

-- what is found in a row: 0, where a range starts, its shares and nodes; or 1, a place, the digest of the
-- leaf there, and nodes
abbrev pub found_bytes : Found → List ℕ
found_bytes (Range start shares nodes) =
    0 ∷ to_be_bytes w16 start ++ share_list_bytes shares ++ path_bytes nodes
found_bytes (Absence pos leaf nodes) = 1 ∷ to_be_bytes w16 pos ++ leaf.0 ++ path_bytes nodes

-- a row, and what is found in it
abbrev pub entry_bytes : NsEntry → List ℕ
entry_bytes entry = to_be_bytes w16 entry.row ++ found_bytes entry.found

-- a namespace, and entries behind their count in two bytes
abbrev pub names_payload : Namespace → List NsEntry → List ℕ
names_payload name entries = name.0 ++ list_bytes w16 entry_bytes entries

-- ---- what is read

-- shares behind their count
unfoldable pub share_list_at : List ℕ → Option (List Share × List ℕ)
share_list_at bytes = do
  count ← count_at w16 most_shares_shown bytes
  shares_at count.0 count.1

-- a range behind its tag
unfoldable pub range_at : List ℕ → Option (Found × List ℕ)
range_at bytes = do
  start ← big_endian_at w16 bytes
  shares ← share_list_at start.1
  nodes ← path_at most_nodes shares.1
  Some (Range start.0 shares.0 nodes.0, nodes.1)

-- an absence behind its tag
unfoldable pub absence_at : List ℕ → Option (Found × List ℕ)
absence_at bytes = do
  pos ← big_endian_at w16 bytes
  leaf ← string_at digest_size pos.1
  nodes ← path_at most_nodes leaf.1
  Some (Absence pos.0 (digest leaf.0) nodes.0, nodes.1)

-- what is found in a row: a range behind the tag 0, an absence behind the tag 1
unfoldable pub found_at : List ℕ → Option (Found × List ℕ)
found_at bytes = do
  tag ← byte_at bytes
  if tag.0 == 0 then range_at tag.1 else if tag.0 == 1 then absence_at tag.1 else None

-- a row, and what is found in it
unfoldable pub entry_at : List ℕ → Option (NsEntry × List ℕ)
entry_at bytes = do
  row ← big_endian_at w16 bytes
  found ← found_at row.1
  Some (record { row = row.0; found = found.0 }, found.1)

-- entries behind their count
abbrev pub entries_at : List ℕ → Option (List NsEntry × List ℕ)
entries_at bytes = list_at w16 most_entries entry_at bytes

-- a namespace and entries that are all of the bytes
unfoldable pub names_at : List ℕ → Option (Namespace × List NsEntry)
names_at bytes = do
  name ← string_at namespace_size bytes
  entries ← entries_at name.1
  if length entries.1 == 0 then Some (record { 0 = name.0 }, entries.0) else None

-- ---- where something is found

-- the place of what is found in a row
abbrev pub found_place : Found → FoundPlace
found_place (Range start shares nodes) = place.Range start (length shares)
found_place (Absence pos leaf nodes) = place.Absence pos

-- the row of an entry, and the place of what is found in it
abbrev pub entry_place : NsEntry → EntryPlace
entry_place entry = record { row = entry.row; found = found_place entry.found }

-- a namespace, and the places of the entries that answer for it
abbrev pub answer_places : Namespace × List NsEntry → Namespace × List EntryPlace
answer_places names = (names.0, map entry_place names.1)

-- the place of an entry, and the bytes after it
abbrev pub place_at : List ℕ → Option (EntryPlace × List ℕ)
place_at bytes = option_map (λ entry. (entry_place entry.0, entry.1)) (entry_at bytes)

-- ---- what was found where it lies

-- what is found in a row, of whose shares and nodes the bytes are known
abbrev pub found_seen : FoundFields → Found
found_seen (fields.Range start count shares node_count nodes) =
    Range start (shares_of count shares.now) (digests_of node_count nodes.now)
found_seen (fields.Absence pos leaf node_count nodes) = Absence pos leaf (digests_of node_count nodes.now)

-- the bytes of a range's shares are all there
abbrev pub HasShares : FoundFields → Type 0
HasShares (fields.Range start count shares node_count nodes) = length shares.now ≡ share_size * count
HasShares (fields.Absence pos leaf node_count nodes) = ⊤

-- there are no more nodes than a proof has
abbrev pub HasFewNodes : FoundFields → Type 0
HasFewNodes (fields.Range start count shares node_count nodes) = node_count ≤ most_nodes
HasFewNodes (fields.Absence pos leaf node_count nodes) = node_count ≤ most_nodes

-- the bytes of the nodes are all there
abbrev pub HasNodeBytes : FoundFields → Type 0
HasNodeBytes (fields.Range start count shares node_count nodes) = length nodes.now ≡ digest_size * node_count
HasNodeBytes (fields.Absence pos leaf node_count nodes) = length nodes.now ≡ digest_size * node_count
