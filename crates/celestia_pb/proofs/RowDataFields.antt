-- What lenient reading has of what is found in a row and was written.
use Rattle.std.proofs.Common.{◌≡◌, ◌∙◌, ℕ, List, [], ◌∷◌, ◌++◌, length, map, Some, Ok, refl, sym, ap, arith, append-nil}
use Rattle.namespace_id.specs.declared.digests.Digest.{Digest}
use Rattle.namespace_id.specs.declared.shares.Share.{Share}
use Rattle.namespace_id.specs.Bytes.{AreBytes}
use Rattle.namespace_id.specs.Shares.{AreShares}
use Rattle.proto_fields.specs.Fields.{FieldParts, fields_of, all_bytes}
use Rattle.proto_fields.specs.Spelled.{bytes_field}
use Rattle.proto_fields.specs.Canonical.{part_field}
use Rattle.proto_fields.proofs.FieldLemmas.{no_fields, all_bytes_in_a_row}
use Rattle.proto_fields.proofs.CanonicalLemmas.{part_fields_of}
use Rattle.axis_roots.specs.declared.answers.NsEntry.{NsEntry}
use Rattle.celestia_pb.specs.Samples.{share_message}
use Rattle.celestia_pb.specs.RowShares.{shares_text}
use Rattle.celestia_pb.specs.RowProofs.{row_proof_text}
use Rattle.celestia_pb.specs.RowData.{row_text, row_left, row_value}
use Rattle.celestia_pb.specs.RowDataLaws.{share_messages, proof_message}
use Rattle.celestia_pb.proofs.Steps.{placed_ok}
use Rattle.celestia_pb.proofs.MessageLemmas.{field_few}
use Rattle.celestia_pb.proofs.ShareLemmas.{shares_text-next}
use Rattle.celestia_pb.proofs.RowDataLemmas.{AreParts, found_is, proof_small, parts_back}

-- the fields that shares are
abbrev share_fields : List Share → List FieldParts
share_fields shares = map (λ (share : Share). part_field 1 (share_message share)) shares

-- shares that were written are these fields, and then those that follow
share_fields_of : (shares : List Share) (rest : List ℕ) (fields : List FieldParts) → AreShares shares → fields_of rest ≡ Some fields
    → fields_of (shares_text shares ++ rest) ≡ Some (share_fields shares ++ fields)
share_fields_of [] rest fields all others = others
share_fields_of (share ∷ shares) rest fields all others =
    let size : length share.0 ≡ 512 = all.0.size_is in
    ap fields_of (shares_text-next share shares rest)
    ∙ part_fields_of 1 (share_message share) (shares_text shares ++ rest) (share_fields shares ++ fields) (omega arith) (omega arith) (omega (arith, field_few 1 share.0))
    (share_fields_of shares rest fields all.1 others)

-- those of their number are all of them
own_shares : (shares : List Share) → all_bytes 1 (share_fields shares) ≡ map share_message shares
own_shares [] = refl
own_shares (share ∷ shares) = ap (λ (x : List (List ℕ)). share_message share ∷ x) (own_shares shares)

-- and of another number there is none
other_shares : (shares : List Share) → all_bytes 2 (share_fields shares) ≡ []
other_shares [] = refl
other_shares (share ∷ shares) = other_shares shares

-- the fields of what is found
abbrev fields_in : List Share → ℕ → List Digest → List Digest → List FieldParts
fields_in shares start nodes hashes = share_fields shares ++ part_field 2 (row_proof_text start (length shares) nodes hashes) ∷ []

-- the message is its fields
text_fields : (shares : List Share) (start : ℕ) (nodes hashes : List Digest) → AreParts shares start nodes hashes
    → fields_of (row_text shares start nodes hashes) ≡ Some (fields_in shares start nodes hashes)
text_fields shares start nodes hashes are =
    let proof : List ℕ = row_proof_text start (length shares) nodes hashes in
    share_fields_of shares (bytes_field 2 proof) (part_field 2 proof ∷ []) are.shares_are
    (ap fields_of (sym (append-nil (bytes_field 2 proof)))
    ∙ part_fields_of 2 proof [] [] (omega arith) (omega arith) (proof_small shares start nodes hashes are) no_fields)

-- lenient reading has the messages of the shares, and one proof
pub row_is_common : (row : ℕ) (bytes : List ℕ) (entry : NsEntry) → AreBytes bytes → row_value row bytes ≡ Ok entry
    → (fields : List FieldParts) × (fields_of bytes ≡ Some fields)
    × (all_bytes 1 fields ≡ share_messages entry.found) × (all_bytes 2 fields ≡ proof_message entry.found ∷ [])
row_is_common row bytes entry fits e =
    let was = parts_back row bytes entry fits (placed_ok (length bytes) (row_left row bytes) entry e) in
    let is = found_is was.shares was.start was.nodes was.hashes was.are in
    let proof : List ℕ = row_proof_text was.start (length was.shares) was.nodes was.hashes in
    let fields : List FieldParts = fields_in was.shares was.start was.nodes was.hashes in (
      fields,
      ap fields_of was.parts ∙ text_fields was.shares was.start was.nodes was.hashes was.are,
      all_bytes_in_a_row 1 (share_fields was.shares) (part_field 2 proof ∷ [])
          ∙ append-nil (all_bytes 1 (share_fields was.shares))
          ∙ own_shares was.shares
          ∙ is.messages
          ∙ ap (λ (x : NsEntry). share_messages x.found) was.entry_is,
      all_bytes_in_a_row 2 (share_fields was.shares) (part_field 2 proof ∷ [])
          ∙ ap (λ (l : List (List ℕ)). l ++ proof ∷ []) (other_shares was.shares)
          ∙ ap (λ (l : List ℕ). l ∷ []) is.proof
          ∙ ap (λ (x : NsEntry). proof_message x.found ∷ []) was.entry_is,
    )
