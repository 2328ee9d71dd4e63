-- A root proof along a row as Celestia's message ShareProof of one share: the share in field 1, its proof under the root of its row as
-- a message NMTProof in field 2, the id of the leaf's namespace in field 3, the row's proof under the data root as a message RowProof
-- in field 4, and the version of the leaf's namespace in field 5.
use Rattle.std.specs.Prelude.{ℕ, ◌==◌, ◌&&◌, ◌||◌, Bool, true, false, List, ◌++◌, length, drop, slice_index, Option, Some, None, option_map, option_and_then, Result, Ok, Err, if◌then◌else◌}
use Rattle.std.specs.Str.{bytes_eq}
use Rattle.namespace_id.specs.declared.cells.Axis.{Axis}
use Rattle.namespace_id.specs.declared.cells.Axis.TheVariants.{Row, Col}
use Rattle.namespace_id.specs.declared.namespaces.Namespace.{Namespace}
use Rattle.namespace_id.specs.declared.shares.Share.{Share}
use Rattle.namespace_id.specs.Cells.{cell_in, leaf_namespace}
use Rattle.namespace_id.specs.Names.{parity}
use Rattle.namespace_id.specs.Shares.{name_in}
use Rattle.blob_commit.specs.Proofs.{RootedParts}
use Rattle.blob_commit.specs.Refusals.{has_rooted_shape}
use Rattle.proto_fields.specs.Spelled.{bytes_field}
use Rattle.proto_fields.specs.Canonical.{number_text, canonical_part}
use Rattle.celestia_pb.specs.declared.share_path.SharePath.{SharePath}
use Rattle.celestia_pb.specs.declared.rooted_row.ShareFacts.{ShareFacts}
use Rattle.celestia_pb.specs.declared.rooted_row.RootedRow.{RootedRow}
use Rattle.celestia_pb.specs.declared.share_proof.Names.{Names}
use Rattle.celestia_pb.specs.declared.share_proof.Front.{Front}
use Rattle.celestia_pb.specs.Reading.{then_read, with_offset}
use Rattle.celestia_pb.specs.Messages.{number_left, optional_message}
use Rattle.celestia_pb.specs.BefpEntries.{data_at}
use Rattle.celestia_pb.specs.Inclusions.{is_place_stated}
use Rattle.celestia_pb.specs.Aunts.{optional_at}
use Rattle.celestia_pb.specs.SharePaths.{share_path_text, share_path_left}
use Rattle.celestia_pb.specs.RootedRows.{row_path_text, rooted_row_text, rooted_row_left}

-- whether an axis is a row
abbrev pub is_along_row : Axis → Bool
is_along_row Row = true
is_along_row Col = false

-- whether a root proof has a message: it is along a row, and has a width and a cell in its square
abbrev pub has_share_proof : RootedParts → Bool
has_share_proof proof = is_along_row proof.message.axis && has_rooted_shape proof

-- the namespace of the leaf that is proved: that of its share in the original square, and PARITY outside
abbrev pub name_of : RootedParts → Namespace
name_of proof = leaf_namespace proof.k proof.message.cell proof.message.share

-- the id and the version of a namespace
abbrev pub id_in : Namespace → List ℕ
id_in name = drop 1 name.0

abbrev pub name_version : Namespace → ℕ
name_version name = slice_index name.0 0

-- ---- written

-- the message NMTProof of a root proof's share
abbrev pub share_part : RootedParts → List ℕ
share_part proof = share_path_text proof.message.cell.col proof.message.path

-- the message Proof of the root of its row
abbrev pub path_part : RootedParts → List ℕ
path_part proof = row_path_text proof.k proof.message.cell.row proof.root proof.up

-- the message RowProof of its row
abbrev pub row_part : RootedParts → List ℕ
row_part proof = rooted_row_text proof.k proof.message.cell.row proof.root proof.up

-- the message of a root proof along a row
abbrev pub share_proof_text : RootedParts → List ℕ
share_proof_text proof =
    bytes_field 1 proof.message.share.0
    ++ (bytes_field 2 (share_part proof)
    ++ (bytes_field 3 (id_in (name_of proof))
    ++ (bytes_field 4 (row_part proof) ++ number_text 5 (name_version (name_of proof)))))

-- ---- read

-- whether an id is that of a share's own namespace; where the share isn't known, whether it is one
abbrev pub is_own : Option Share → List ℕ → Bool
is_own None id = length id == 28
is_own (Some share) id = bytes_eq id (id_in (name_in share))

-- an id that was read, where it is that of the share's own namespace or of that of parity shares
abbrev pub if_names : Option Share → List ℕ × List ℕ → Option (Names × List ℕ)
if_names share read =
    if is_own share read.0 || bytes_eq read.0 (id_in parity)
    then Some (record { own = is_own share read.0; parity = bytes_eq read.0 (id_in parity) }, read.1)
    else None

-- whose id is at the front, and what follows
abbrev pub names_at : Option Share → List ℕ → Option (Names × List ℕ)
names_at share bytes = option_and_then (if_names share) (canonical_part 3 bytes)

-- what stands in front of the row's proof, where all of it is there
abbrev pub front_of : Option Share → Option SharePath → Option Names → Option Front
front_of None path names = None
front_of (Some share) None names = None
front_of (Some share) (Some path) None = None
front_of (Some share) (Some path) (Some names) = Some (record { share = share; path = path; names = names })

-- where the id was read
abbrev pub front_end : Option Share → Option SharePath → Option Names → List ℕ → Result (Option Front × List ℕ) ℕ
front_end share path names rest = Ok (front_of share path names, rest)

-- where the share's proof was read
abbrev pub front_names : Option Share → Option SharePath → List ℕ → Result (Option Front × List ℕ) ℕ
front_names share path bytes = then_read (front_end share path) (optional_at (names_at share) 3 bytes)

-- where the share was read
abbrev pub front_path : Option Share → List ℕ → Result (Option Front × List ℕ) ℕ
front_path share bytes = then_read (front_names share) (optional_message (λ rest part. share_path_left part) 2 bytes)

-- what stands in front of the row's proof, and that
abbrev pub front_left : List ℕ → Result (Option Front × List ℕ) ℕ
front_left bytes = then_read front_path (data_at bytes)

-- what it tells of the row's proof
abbrev pub facts_by : Option Front → Option ShareFacts
facts_by None = None
facts_by (Some front) = Some (record { col = front.path.col; own = front.names.own; parity = front.names.parity })

-- the root proof of these
abbrev pub proof_of : Front → RootedRow → RootedParts
proof_of front row = record {
  k = row.path.k;
  message = record { cell = cell_in row.path.row front.path.col; axis = Row; share = front.share; path = front.path.nodes };
  root = row.root;
  up = row.path.up;
}

-- where both are there
abbrev pub proof_by : Option Front → Option RootedRow → Option RootedParts
proof_by None row = None
proof_by (Some front) None = None
proof_by (Some front) (Some row) = Some (proof_of front row)

-- the version of its leaf's namespace
abbrev pub proved_version : Option RootedParts → Option ℕ
proved_version proof = option_map (λ (p : RootedParts). name_version (name_of p)) proof

-- the root proof, where it is there, with its version, and nothing follows
abbrev pub share_proof_end : Option RootedParts → ℕ → List ℕ → Result RootedParts ℕ
share_proof_end None version rest = Err (length rest)
share_proof_end (Some proof) version rest =
    if (length rest == 0) && (version == name_version (name_of proof)) then Ok proof else Err (length rest)

-- where the row's proof was read
abbrev pub share_proof_version : Option Front → Option RootedRow → List ℕ → Result RootedParts ℕ
share_proof_version front row bytes =
    then_read (share_proof_end (proof_by front row)) (number_left (is_place_stated (proved_version (proof_by front row))) 5 bytes)

-- where what stands in front of it was read
abbrev pub share_proof_row : Option Front → List ℕ → Result RootedParts ℕ
share_proof_row front bytes = then_read (share_proof_version front) (optional_message (λ rest part. rooted_row_left (facts_by front) part) 4 bytes)

-- the root proof that a message is, or how many bytes are left from the first field that is wrong on
abbrev pub share_proof_left : List ℕ → Result RootedParts ℕ
share_proof_left bytes = then_read share_proof_row (front_left bytes)

-- the root proof that a message is, or the offset of the first field that is wrong
abbrev pub share_proof_value : List ℕ → Result RootedParts ℕ
share_proof_value bytes = with_offset (length bytes) (share_proof_left bytes)
