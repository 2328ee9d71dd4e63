-- How long root proofs along a row are.
use Rattle.std.proofs.Common.{◌≡◌, ◌∙◌, ℕ, ◌+◌, ◌*◌, Bool, true, false, cond, List, ◌++◌, length, take, ap, arith, length-append, length-drop, length-take-le}
use Rattle.std.specs.List.{AllByRecursion}
use Rattle.namespace_id.specs.declared.digests.Digest.{Digest}
use Rattle.namespace_id.specs.declared.shares.Share.{Share}
use Rattle.namespace_id.specs.Bytes.{IsString}
use Rattle.namespace_id.specs.Cells.{is_original}
use Rattle.namespace_id.specs.Names.{parity}
use Rattle.namespace_id.specs.Shares.{name_in}
use Rattle.data_header.specs.DataRoots.{leaf_hash}
use Rattle.blob_commit.specs.Proofs.{RootedParts}
use Rattle.proto_fields.specs.Spelled.{bytes_field, field_size}
use Rattle.proto_fields.specs.Canonical.{number_text, parts_text}
use Rattle.proto_fields.proofs.WrittenLemmas.{size_is_length}
use Rattle.celestia_pb.specs.SharePaths.{share_path_text}
use Rattle.celestia_pb.specs.RootedRows.{row_path_text, rooted_row_text}
use Rattle.celestia_pb.specs.ShareProofs.{name_of, id_in, name_version, share_proof_text}
use Rattle.celestia_pb.proofs.AuntLemmas.{aunt_length, length_aunts}
use Rattle.celestia_pb.proofs.RootedRowLemmas.{leaf_string}

-- the parts of a path
pub length_row_path : (k row : ℕ) (root : Digest) (up : List (List ℕ)) → AllByRecursion (IsString 32) up
    → length (row_path_text k row root up) ≡ length (number_text 1 (4 * k)) + (length (number_text 2 row) + (34 + 34 * length up))
length_row_path k row root up all =
    let t4 : List ℕ = parts_text 4 up in
    let t3 : List ℕ = bytes_field 3 (leaf_hash root) ++ t4 in
    omega (
      arith,
      length-append (number_text 1 (4 * k)) (number_text 2 row ++ t3),
      length-append (number_text 2 row) t3,
      length-append (bytes_field 3 (leaf_hash root)) t4,
      aunt_length 3 (leaf_hash root) (omega arith) (leaf_string root).size_is,
      length_aunts 4 up (omega arith) all,
    )

-- those of a row
pub length_rooted_row : (k row : ℕ) (root : Digest) (up : List (List ℕ)) → length root.0 ≡ 90
    → length (rooted_row_text k row root up)
    ≡ field_size 1 90 + (field_size 2 (length (row_path_text k row root up)) + (length (number_text 4 row) + length (number_text 5 row)))
length_rooted_row k row root up size =
    let path : List ℕ = row_path_text k row root up in
    let rows : List ℕ = number_text 4 row ++ number_text 5 row in
    omega (
      arith,
      length-append (bytes_field 1 root.0) (bytes_field 2 path ++ rows),
      length-append (bytes_field 2 path) rows,
      length-append (number_text 4 row) (number_text 5 row),
      size_is_length 1 root.0 ∙ ap (field_size 1) size,
      size_is_length 2 path,
    )

-- an id has 28 bytes
pub id_length : (b : Bool) (share : Share) → length share.0 ≡ 512 → length (id_in (cond b (name_in share) parity)) ≡ 28
id_length true share size = omega (arith, length-drop 1 (take 29 share.0), length-take-le 29 share.0)
id_length false share size = omega arith

-- those of a root proof
pub length_share_proof : (p : RootedParts) → length p.message.share.0 ≡ 512
    → length (share_proof_text p)
    ≡ field_size 1 512
    + (field_size 2 (length (share_path_text p.message.cell.col p.message.path))
    + (field_size 3 28 + (field_size 4 (length (rooted_row_text p.k p.message.cell.row p.root p.up)) + length (number_text 5 (name_version (name_of p))))))
length_share_proof p size =
    let t5 : List ℕ = number_text 5 (name_version (name_of p)) in
    let row : List ℕ = rooted_row_text p.k p.message.cell.row p.root p.up in
    let path : List ℕ = share_path_text p.message.cell.col p.message.path in
    let id : List ℕ = id_in (name_of p) in
    let t4 : List ℕ = bytes_field 4 row ++ t5 in
    let t3 : List ℕ = bytes_field 3 id ++ t4 in
    let t2 : List ℕ = bytes_field 2 path ++ t3 in
    omega (
      arith,
      length-append (bytes_field 1 p.message.share.0) t2,
      length-append (bytes_field 2 path) t3,
      length-append (bytes_field 3 id) t4,
      length-append (bytes_field 4 row) t5,
      size_is_length 1 p.message.share.0 ∙ ap (field_size 1) size,
      size_is_length 2 path,
      size_is_length 3 id ∙ ap (field_size 3) (id_length (is_original p.k p.message.cell) p.message.share size),
      size_is_length 4 row,
    )
