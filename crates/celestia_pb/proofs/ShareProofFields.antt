-- What lenient reading has of a share proof.
use Rattle.std.proofs.Common.{◌≡◌, ◌∙◌, ℕ, ◌+◌, ◌*◌, ◌^◌, ◌<◌, ◌≤◌, List, [], ◌∷◌, ◌++◌, length, map, Some, Ok, refl, sym, ap, ap₂, arith, append-nil}
use Rattle.std.specs.List.{AllByRecursion}
use Rattle.namespace_id.specs.declared.digests.Digest.{Digest}
use Rattle.namespace_id.specs.Bytes.{AreBytes, IsString}
use Rattle.namespace_id.specs.Cells.{is_original}
use Rattle.namespace_id.specs.Digests.{IsDigest, AreDigests}
use Rattle.data_header.specs.DataRoots.{leaf_hash}
use Rattle.blob_commit.specs.Proofs.{RootedParts}
use Rattle.proto_fields.specs.Fields.{FieldParts, fields_of, last_of, all_bytes, all_numbers, last_number}
use Rattle.proto_fields.specs.Spelled.{bytes_field}
use Rattle.proto_fields.specs.Canonical.{number_text, number_fields, part_field, parts_text}
use Rattle.proto_fields.proofs.FieldLemmas.{no_fields, all_bytes_in_a_row, all_numbers_in_a_row}
use Rattle.proto_fields.proofs.CanonicalLemmas.{number_fields_of, part_fields_of}
use Rattle.celestia_pb.specs.Laws.{bytes_of_all}
use Rattle.celestia_pb.specs.SharePaths.{share_path_text}
use Rattle.celestia_pb.specs.RootedRows.{row_path_text, rooted_row_text}
use Rattle.celestia_pb.specs.ShareProofs.{name_of, id_in, name_version, share_proof_text, share_proof_value}
use Rattle.celestia_pb.specs.ShareProofLaws.{IsShareProof}
use Rattle.celestia_pb.specs.Digests.{digests_text}
use Rattle.celestia_pb.proofs.CommonLemmas.{number_bytes, own_number, other_number}
use Rattle.celestia_pb.proofs.ProofFields.{flagged_is_common}
use Rattle.celestia_pb.proofs.SharePathLemmas.{share_path_few}
use Rattle.celestia_pb.proofs.RootedRowLemmas.{leaf_string, row_path_few, rooted_row_few}
use Rattle.celestia_pb.proofs.RootedSizes.{id_length}
use Rattle.celestia_pb.proofs.ShareProofLemmas.{version_fits, read_is_share_proof}

-- ---- numbers at the end

-- a number is one field or none
number_last : (n value : ℕ) → 0 < n → n < 16 → value < 2 ^ 64 → fields_of (number_text n value) ≡ Some (number_fields n value ++ [])
number_last n value some few lt =
    ap fields_of (sym (append-nil (number_text n value))) ∙ number_fields_of n value [] [] some few lt no_fields

-- it has no bytes
last_bytes : (m n value : ℕ) → all_bytes m (number_fields n value ++ []) ≡ []
last_bytes m n value = all_bytes_in_a_row m (number_fields n value) [] ∙ ap (λ (l : List (List ℕ)). l ++ []) (number_bytes n m value)

-- and is its own number
own_last : (n value : ℕ) → last_number n (number_fields n value ++ []) ≡ value
own_last n value = ap (last_of 0) (all_numbers_in_a_row n (number_fields n value) [] ∙ append-nil (all_numbers n (number_fields n value))) ∙ own_number n value

-- ---- the proof of the share

-- the message has both columns, the nodes, and no leaf hash
pub share_path_is_common : (col : ℕ) (nodes : List Digest) → col + 1 < 2 ^ 64 → AreDigests nodes
    → (fields : List FieldParts) × (fields_of (share_path_text col nodes) ≡ Some fields)
    × (last_number 1 fields ≡ col) × (last_number 2 fields ≡ col + 1)
    × (all_bytes 3 fields ≡ bytes_of_all nodes) × (all_bytes 4 fields ≡ [])
share_path_is_common col nodes lt all =
    let has = flagged_is_common 0 col nodes (omega arith) lt all in
    let same : digests_text 3 nodes ≡ digests_text 3 nodes ++ [] = sym (append-nil (digests_text 3 nodes)) in (
      has.0,
      ap (λ (l : List ℕ). fields_of (number_text 1 col ++ (number_text 2 (col + 1) ++ l))) same ∙ has.1,
      has.2,
      has.3,
      has.4,
      has.5,
    )

-- ---- the path of the row

-- the fields of hashes
abbrev aunt_fields : List (List ℕ) → List FieldParts
aunt_fields up = map (part_field 4) up

aunt_fields_of : (up : List (List ℕ)) → AllByRecursion (IsString 32) up → fields_of (parts_text 4 up) ≡ Some (aunt_fields up)
aunt_fields_of [] all = no_fields
aunt_fields_of (hash ∷ up) all =
    let size : length hash ≡ 32 = all.0.size_is in
    part_fields_of 4 hash (parts_text 4 up) (aunt_fields up) (omega arith) (omega arith) (omega arith) (aunt_fields_of up all.1)

-- they are all hashes
own_aunts : (up : List (List ℕ)) → all_bytes 4 (aunt_fields up) ≡ up
own_aunts [] = refl
own_aunts (hash ∷ up) = ap (λ (l : List (List ℕ)). hash ∷ l) (own_aunts up)

-- no leaf's hash
other_aunts : (up : List (List ℕ)) → all_bytes 3 (aunt_fields up) ≡ []
other_aunts [] = refl
other_aunts (hash ∷ up) = other_aunts up

-- and no number
aunt_totals : (up : List (List ℕ)) → all_numbers 1 (aunt_fields up) ≡ []
aunt_totals [] = refl
aunt_totals (hash ∷ up) = aunt_totals up

aunt_rows : (up : List (List ℕ)) → all_numbers 2 (aunt_fields up) ≡ []
aunt_rows [] = refl
aunt_rows (hash ∷ up) = aunt_rows up

-- the fields of a path
abbrev path_fields : ℕ → ℕ → List ℕ → List (List ℕ) → List FieldParts
path_fields total row hash up = number_fields 1 total ++ (number_fields 2 row ++ (part_field 3 hash ∷ aunt_fields up))

-- the numbers in them
path_numbers : (m total row : ℕ) (hash : List ℕ) (up : List (List ℕ)) (a b : List ℕ) → all_numbers m (number_fields 1 total) ≡ a
    → all_numbers m (number_fields 2 row) ≡ b → all_numbers m (part_field 3 hash ∷ aunt_fields up) ≡ []
    → all_numbers m (path_fields total row hash up) ≡ a ++ (b ++ [])
path_numbers m total row hash up a b is_a is_b none =
    let f3 : List FieldParts = part_field 3 hash ∷ aunt_fields up in
    all_numbers_in_a_row m (number_fields 1 total) (number_fields 2 row ++ f3)
    ∙ ap₂ (λ (x y : List ℕ). x ++ y) is_a (
    all_numbers_in_a_row m (number_fields 2 row) f3
    ∙ ap₂ (λ (x y : List ℕ). x ++ y) is_b none)

-- the bytes in them
path_bytes : (m total row : ℕ) (hash : List ℕ) (up : List (List ℕ)) → all_bytes m (path_fields total row hash up) ≡ all_bytes m (part_field 3 hash ∷ aunt_fields up)
path_bytes m total row hash up =
    let f3 : List FieldParts = part_field 3 hash ∷ aunt_fields up in
    all_bytes_in_a_row m (number_fields 1 total) (number_fields 2 row ++ f3)
    ∙ ap₂ (λ (x y : List (List ℕ)). x ++ y) (number_bytes 1 m total) (
    all_bytes_in_a_row m (number_fields 2 row) f3
    ∙ ap (λ (x : List (List ℕ)). x ++ all_bytes m f3) (number_bytes 2 m row))

-- the message has the number of roots, the row, the leaf's hash, and the hashes upwards
pub row_path_is_common : (k row : ℕ) (root : Digest) (up : List (List ℕ)) → 4 * k < 2 ^ 64 → row < 2 ^ 64 → AllByRecursion (IsString 32) up
    → (fields : List FieldParts) × (fields_of (row_path_text k row root up) ≡ Some fields)
    × (last_number 1 fields ≡ 4 * k) × (last_number 2 fields ≡ row)
    × (all_bytes 3 fields ≡ leaf_hash root ∷ []) × (all_bytes 4 fields ≡ up)
row_path_is_common k row root up small lt all =
    let total : ℕ = 4 * k in
    let hash : List ℕ = leaf_hash root in
    let size : length hash ≡ 32 = (leaf_string root).size_is in
    let t3 : List ℕ = bytes_field 3 hash ++ parts_text 4 up in
    let f3 : List FieldParts = part_field 3 hash ∷ aunt_fields up in (
      path_fields total row hash up,
      number_fields_of 1 total (number_text 2 row ++ t3) (number_fields 2 row ++ f3) (omega arith) (omega arith) small
          (number_fields_of 2 row t3 f3 (omega arith) (omega arith) lt
          (part_fields_of 3 hash (parts_text 4 up) (aunt_fields up) (omega arith) (omega arith) (omega arith) (aunt_fields_of up all))),
      ap (last_of 0) (
          path_numbers 1 total row hash up (all_numbers 1 (number_fields 1 total)) [] refl (other_number 2 1 row refl) (aunt_totals up)
          ∙ append-nil (all_numbers 1 (number_fields 1 total)))
          ∙ own_number 1 total,
      ap (last_of 0) (
          path_numbers 2 total row hash up [] (all_numbers 2 (number_fields 2 row)) (other_number 1 2 total refl) refl (aunt_rows up)
          ∙ append-nil (all_numbers 2 (number_fields 2 row)))
          ∙ own_number 2 row,
      path_bytes 3 total row hash up ∙ ap (λ (l : List (List ℕ)). hash ∷ l) (other_aunts up),
      path_bytes 4 total row hash up ∙ own_aunts up,
    )

-- ---- the row

-- no bytes are in the fields of both rows
rows_bytes : (m row : ℕ) → all_bytes m (number_fields 4 row ++ (number_fields 5 row ++ [])) ≡ []
rows_bytes m row =
    all_bytes_in_a_row m (number_fields 4 row) (number_fields 5 row ++ [])
    ∙ ap₂ (λ (x y : List (List ℕ)). x ++ y) (number_bytes 4 m row) (last_bytes m 5 row)

-- the first one is the row
rows_first : (row : ℕ) → last_number 4 (number_fields 4 row ++ (number_fields 5 row ++ [])) ≡ row
rows_first row =
    ap (last_of 0) (
    all_numbers_in_a_row 4 (number_fields 4 row) (number_fields 5 row ++ [])
    ∙ ap (λ (l : List ℕ). all_numbers 4 (number_fields 4 row) ++ l) (
    all_numbers_in_a_row 4 (number_fields 5 row) [] ∙ ap (λ (l : List ℕ). l ++ []) (other_number 5 4 row refl))
    ∙ append-nil (all_numbers 4 (number_fields 4 row)))
    ∙ own_number 4 row

-- so is the last one
rows_last : (row : ℕ) → last_number 5 (number_fields 4 row ++ (number_fields 5 row ++ [])) ≡ row
rows_last row =
    ap (last_of 0) (
    all_numbers_in_a_row 5 (number_fields 4 row) (number_fields 5 row ++ [])
    ∙ ap (λ (l : List ℕ). l ++ all_numbers 5 (number_fields 5 row ++ [])) (other_number 4 5 row refl))
    ∙ own_last 5 row

-- the message has one root, one path, no root beside it, and both rows
pub rooted_row_is_common : (k row : ℕ) (root : Digest) (up : List (List ℕ)) → row < 2 ^ 64 → IsDigest root → AllByRecursion (IsString 32) up → length up ≤ 11
    → (fields : List FieldParts) × (fields_of (rooted_row_text k row root up) ≡ Some fields)
    × (all_bytes 1 fields ≡ root.0 ∷ []) × (all_bytes 2 fields ≡ row_path_text k row root up ∷ []) × (all_bytes 3 fields ≡ [])
    × (last_number 4 fields ≡ row) × (last_number 5 fields ≡ row)
rooted_row_is_common k row root up lt is all few =
    let path : List ℕ = row_path_text k row root up in
    let size : length root.0 ≡ 90 = is.size_is in
    let rows : List ℕ = number_text 4 row ++ number_text 5 row in
    let f4 : List FieldParts = number_fields 4 row ++ (number_fields 5 row ++ []) in (
      part_field 1 root.0 ∷ part_field 2 path ∷ f4,
      part_fields_of 1 root.0 (bytes_field 2 path ++ rows) (part_field 2 path ∷ f4) (omega arith) (omega arith) (omega arith)
          (part_fields_of 2 path rows f4 (omega arith) (omega arith) (omega (arith, row_path_few k row root up all))
          (number_fields_of 4 row (number_text 5 row) (number_fields 5 row ++ []) (omega arith) (omega arith) lt
          (number_last 5 row (omega arith) (omega arith) lt))),
      ap (λ (l : List (List ℕ)). root.0 ∷ l) (rows_bytes 1 row),
      ap (λ (l : List (List ℕ)). path ∷ l) (rows_bytes 2 row),
      rows_bytes 3 row,
      rows_first row,
      rows_last row,
    )

-- ---- the whole

-- the message has one share, one proof of it, one id, one row, and the version
text_common : (p : RootedParts) → IsShareProof p
    → (fields : List FieldParts) × (fields_of (share_proof_text p) ≡ Some fields)
    × (all_bytes 1 fields ≡ p.message.share.0 ∷ [])
    × (all_bytes 2 fields ≡ share_path_text p.message.cell.col p.message.path ∷ [])
    × (all_bytes 3 fields ≡ id_in (name_of p) ∷ [])
    × (all_bytes 4 fields ≡ rooted_row_text p.k p.message.cell.row p.root p.up ∷ [])
    × (last_number 5 fields ≡ name_version (name_of p))
text_common p is =
    let m = is.is.message in
    let share : List ℕ = p.message.share.0 in
    let path : List ℕ = share_path_text p.message.cell.col p.message.path in
    let id : List ℕ = id_in (name_of p) in
    let row : List ℕ = rooted_row_text p.k p.message.cell.row p.root p.up in
    let version : ℕ = name_version (name_of p) in
    let t5 : List ℕ = number_text 5 version in
    let t4 : List ℕ = bytes_field 4 row ++ t5 in
    let t3 : List ℕ = bytes_field 3 id ++ t4 in
    let f5 : List FieldParts = number_fields 5 version ++ [] in
    let f4 : List FieldParts = part_field 4 row ∷ f5 in
    let f3 : List FieldParts = part_field 3 id ∷ f4 in
    let size : length share ≡ 512 = m.share.size_is in
    let few : length p.message.path ≤ 10 = m.few in
    let hashes : length p.up ≤ 11 = is.few in
    let id_few : length id ≡ 28 = id_length (is_original p.k p.message.cell) p.message.share m.share.size_is in
    let byte : version < 256 = version_fits (is_original p.k p.message.cell) p.message.share m.share in (
      part_field 1 share ∷ part_field 2 path ∷ f3,
      part_fields_of 1 share (bytes_field 2 path ++ t3) (part_field 2 path ∷ f3) (omega arith) (omega arith) (omega arith)
          (part_fields_of 2 path t3 f3 (omega arith) (omega arith) (omega (arith, share_path_few p.message.cell.col p.message.path m.nodes))
          (part_fields_of 3 id t4 f4 (omega arith) (omega arith) (omega arith)
          (part_fields_of 4 row t5 f5 (omega arith) (omega arith) (omega (arith, rooted_row_few p.k p.message.cell.row p.root p.up is.is.root is.is.up))
          (number_last 5 version (omega arith) (omega arith) (omega arith))))),
      ap (λ (l : List (List ℕ)). share ∷ l) (last_bytes 1 5 version),
      ap (λ (l : List (List ℕ)). path ∷ l) (last_bytes 2 5 version),
      ap (λ (l : List (List ℕ)). id ∷ l) (last_bytes 3 5 version),
      ap (λ (l : List (List ℕ)). row ∷ l) (last_bytes 4 5 version),
      own_last 5 version,
    )

pub share_proof_is_common : (bytes : List ℕ) (p : RootedParts) → AreBytes bytes → share_proof_value bytes ≡ Ok p
    → (fields : List FieldParts) × (fields_of bytes ≡ Some fields)
    × (all_bytes 1 fields ≡ p.message.share.0 ∷ [])
    × (all_bytes 2 fields ≡ share_path_text p.message.cell.col p.message.path ∷ [])
    × (all_bytes 3 fields ≡ id_in (name_of p) ∷ [])
    × (all_bytes 4 fields ≡ rooted_row_text p.k p.message.cell.row p.root p.up ∷ [])
    × (last_number 5 fields ≡ name_version (name_of p))
share_proof_is_common bytes p fits e =
    let read = read_is_share_proof bytes p fits e in
    let has = text_common p read.0 in
    (has.0, ap fields_of read.1 ∙ has.1, has.2, has.3, has.4, has.5, has.6)
