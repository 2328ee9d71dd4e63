-- A root proof along a row has one message, and the message says the same to every reader of protobuf.
use Rattle.std.specs.Prelude.{◌≡◌, ℕ, ◌+◌, ◌*◌, ◌<◌, ◌≤◌, ◌^◌, true, List, [], ◌∷◌, length, Some, Ok}
use Rattle.std.specs.List.{AllByRecursion}
use Rattle.namespace_id.specs.declared.digests.Digest.{Digest}
use Rattle.namespace_id.specs.Bytes.{AreBytes, IsString}
use Rattle.namespace_id.specs.Digests.{IsDigest, AreDigests}
use Rattle.namespace_id.specs.Sizes.{hash_size}
use Rattle.data_header.specs.DataRoots.{leaf_hash}
use Rattle.data_header.specs.Paths.{most_hashes}
use Rattle.blob_commit.specs.Proofs.{RootedParts, IsRooted}
use Rattle.proto_fields.specs.Fields.{FieldParts, fields_of, all_bytes, last_number}
use Rattle.celestia_pb.specs.Laws.{bytes_of_all}
use Rattle.celestia_pb.specs.SharePaths.{share_path_text}
use Rattle.celestia_pb.specs.RootedRows.{row_path_text, rooted_row_text}
use Rattle.celestia_pb.specs.ShareProofs.{has_share_proof, name_of, share_part, row_part, id_in, name_version, share_proof_text, share_proof_value}

-- a root proof has a sample, a digest and hashes of their lengths, no more hashes than its type holds, and a message
pub record IsShareProof (proof : RootedParts) : Type 0 where
  pub is : IsRooted proof
  pub few : length proof.up ≤ most_hashes
  pub has : has_share_proof proof ≡ true

-- the message of a root proof is read as the root proof
abbrev pub ShareProofIsRead : Type 0
ShareProofIsRead = (proof : RootedParts) → IsShareProof proof → share_proof_value (share_proof_text proof) ≡ Ok proof

-- what is read as a root proof is one, and the bytes are its message
abbrev pub ReadIsShareProof : Type 0
ReadIsShareProof = (bytes : List ℕ) (proof : RootedParts) → AreBytes bytes → share_proof_value bytes ≡ Ok proof
    → IsShareProof proof × (bytes ≡ share_proof_text proof)

-- lenient reading has one share, one proof of it, one id, one proof of the row, and the version
abbrev pub ShareProofIsCommon : Type 0
ShareProofIsCommon = (bytes : List ℕ) (proof : RootedParts) → AreBytes bytes → share_proof_value bytes ≡ Ok proof
    → (fields : List FieldParts) × (fields_of bytes ≡ Some fields)
    × (all_bytes 1 fields ≡ proof.message.share.0 ∷ [])
    × (all_bytes 2 fields ≡ share_part proof ∷ [])
    × (all_bytes 3 fields ≡ id_in (name_of proof) ∷ [])
    × (all_bytes 4 fields ≡ row_part proof ∷ [])
    × (last_number 5 fields ≡ name_version (name_of proof))

-- of the message of the share's proof it has both columns, the nodes, and no leaf hash
abbrev pub SharePathIsCommon : Type 0
SharePathIsCommon = (col : ℕ) (nodes : List Digest) → col + 1 < 2 ^ 64 → AreDigests nodes
    → (fields : List FieldParts) × (fields_of (share_path_text col nodes) ≡ Some fields)
    × (last_number 1 fields ≡ col) × (last_number 2 fields ≡ col + 1)
    × (all_bytes 3 fields ≡ bytes_of_all nodes) × (all_bytes 4 fields ≡ [])

-- of that of the row's proof the root, one proof of it, no root of the data, and the row, as the first and the last
abbrev pub RootedRowIsCommon : Type 0
RootedRowIsCommon = (k row : ℕ) (root : Digest) (up : List (List ℕ)) → row < 2 ^ 64 → IsDigest root → AllByRecursion (IsString hash_size) up
    → length up ≤ most_hashes
    → (fields : List FieldParts) × (fields_of (rooted_row_text k row root up) ≡ Some fields)
    × (all_bytes 1 fields ≡ root.0 ∷ []) × (all_bytes 2 fields ≡ row_path_text k row root up ∷ []) × (all_bytes 3 fields ≡ [])
    × (last_number 4 fields ≡ row) × (last_number 5 fields ≡ row)

-- of that of the root's proof the number of roots, the row, the leaf's hash, and the hashes that lead upwards
abbrev pub RowPathIsCommon : Type 0
RowPathIsCommon = (k row : ℕ) (root : Digest) (up : List (List ℕ)) → 4 * k < 2 ^ 64 → row < 2 ^ 64 → AllByRecursion (IsString hash_size) up
    → (fields : List FieldParts) × (fields_of (row_path_text k row root up) ≡ Some fields)
    × (last_number 1 fields ≡ 4 * k) × (last_number 2 fields ≡ row)
    × (all_bytes 3 fields ≡ leaf_hash root ∷ []) × (all_bytes 4 fields ≡ up)
