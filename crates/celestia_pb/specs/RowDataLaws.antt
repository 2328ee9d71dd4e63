-- What is found in a row has one message, and the message says the same to every reader of protobuf.
use Rattle.std.specs.Prelude.{◌≡◌, ℕ, ◌+◌, ◌<◌, ◌^◌, true, List, [], ◌∷◌, length, map, Some, Ok}
use Rattle.namespace_id.specs.declared.digests.Digest.{Digest}
use Rattle.namespace_id.specs.Bytes.{AreBytes}
use Rattle.namespace_id.specs.Digests.{AreDigests}
use Rattle.proto_fields.specs.Fields.{FieldParts, fields_of, all_bytes, last_number}
use Rattle.axis_roots.specs.declared.answers.Found.{Found}
use Rattle.axis_roots.specs.declared.answers.Found.TheVariants.{Range, Absence}
use Rattle.axis_roots.specs.declared.answers.NsEntry.{NsEntry}
use Rattle.axis_roots.specs.Answers.{IsFound}
use Rattle.celestia_pb.specs.Laws.{bytes_of_all}
use Rattle.celestia_pb.specs.Samples.{share_message}
use Rattle.celestia_pb.specs.RowProofs.{leaf_count, row_proof_text}
use Rattle.celestia_pb.specs.RowData.{found_has_message, found_message, row_value}

-- what is found is made of shares, digests and a place, and has a message
pub record FoundHasMessage (found : Found) : Type 0 where
  pub is : IsFound found
  pub has : found_has_message found ≡ true

-- the message of what is found is read as that, in whatever row
abbrev pub RowIsRead : Type 0
RowIsRead = (row : ℕ) (found : Found) → FoundHasMessage found → row_value row (found_message found) ≡ Ok (record { row = row; found = found })

-- what is read as an entry is one of the row, and the bytes are its message
abbrev pub ReadIsRow : Type 0
ReadIsRow = (row : ℕ) (bytes : List ℕ) (entry : NsEntry) → AreBytes bytes → row_value row bytes ≡ Ok entry
    → (entry.row ≡ row) × FoundHasMessage entry.found × (bytes ≡ found_message entry.found)

-- the messages of the shares that are found
abbrev pub share_messages : Found → List (List ℕ)
share_messages (Range start shares nodes) = map share_message shares
share_messages (Absence pos leaf nodes) = []

-- that of the proof
abbrev pub proof_message : Found → List ℕ
proof_message (Range start shares nodes) = row_proof_text start (length shares) nodes []
proof_message (Absence pos leaf nodes) = row_proof_text pos 0 nodes (leaf ∷ [])

-- lenient reading has these shares and one proof
abbrev pub RowIsCommon : Type 0
RowIsCommon = (row : ℕ) (bytes : List ℕ) (entry : NsEntry) → AreBytes bytes → row_value row bytes ≡ Ok entry
    → (fields : List FieldParts) × (fields_of bytes ≡ Some fields)
    × (all_bytes 1 fields ≡ share_messages entry.found)
    × (all_bytes 2 fields ≡ proof_message entry.found ∷ [])

-- of the message of a proof it has both places, the nodes, the leaf hashes, and the flag
abbrev pub RowProofIsCommon : Type 0
RowProofIsCommon = (start count : ℕ) (nodes hashes : List Digest) → start + leaf_count count < 2 ^ 64 → AreDigests nodes → AreDigests hashes
    → (fields : List FieldParts) × (fields_of (row_proof_text start count nodes hashes) ≡ Some fields)
    × (last_number 1 fields ≡ start) × (last_number 2 fields ≡ start + leaf_count count)
    × (all_bytes 3 fields ≡ bytes_of_all nodes) × (all_bytes 4 fields ≡ bytes_of_all hashes) × (last_number 5 fields ≡ 1)
