-- What lenient reading has of the proof of a row's shares, or of an absence, that was written.
use Rattle.std.proofs.Common.{◌≡◌, ◌∙◌, ℕ, ◌+◌, ◌<◌, ◌^◌, List, [], ◌++◌, Some, refl, sym, ap, ap₂, arith, append-nil}
use Rattle.namespace_id.specs.declared.digests.Digest.{Digest}
use Rattle.namespace_id.specs.Digests.{AreDigests}
use Rattle.proto_fields.specs.Fields.{FieldParts, fields_of, last_of, all_bytes, all_numbers, last_number}
use Rattle.proto_fields.specs.Canonical.{number_text, number_fields}
use Rattle.proto_fields.proofs.FieldLemmas.{no_fields, all_bytes_in_a_row, all_numbers_in_a_row}
use Rattle.proto_fields.proofs.CanonicalLemmas.{number_fields_of}
use Rattle.celestia_pb.specs.Digests.{digests_text}
use Rattle.celestia_pb.specs.Laws.{bytes_of_all}
use Rattle.celestia_pb.specs.RowProofs.{leaf_count, row_proof_text}
use Rattle.celestia_pb.proofs.CommonLemmas.{digest_fields, digest_fields_of, own_digests, other_digests, number_bytes, digest_numbers, own_number, other_number}

-- the fields of a proof
abbrev fields_in : ℕ → ℕ → List Digest → List Digest → List FieldParts
fields_in start stop nodes hashes =
    number_fields 1 start ++ (number_fields 2 stop ++ (digest_fields 3 nodes ++ (digest_fields 4 hashes ++ (number_fields 5 1 ++ []))))

-- the message is its fields
text_fields : (start count : ℕ) (nodes hashes : List Digest) → start + leaf_count count < 2 ^ 64 → AreDigests nodes → AreDigests hashes
    → fields_of (row_proof_text start count nodes hashes) ≡ Some (fields_in start (start + leaf_count count) nodes hashes)
text_fields start count nodes hashes lt all leaves =
    let stop : ℕ = start + leaf_count count in
    let t5 : List ℕ = number_text 5 1 in
    let t4 : List ℕ = digests_text 4 hashes ++ t5 in
    let t3 : List ℕ = digests_text 3 nodes ++ t4 in
    let f5 : List FieldParts = number_fields 5 1 ++ [] in
    let f4 : List FieldParts = digest_fields 4 hashes ++ f5 in
    let f3 : List FieldParts = digest_fields 3 nodes ++ f4 in
    let flag : fields_of t5 ≡ Some f5 =
    ap fields_of (sym (append-nil (number_text 5 1))) ∙ number_fields_of 5 1 [] [] (omega arith) (omega arith) (omega arith) no_fields in
    number_fields_of 1 start (number_text 2 stop ++ t3) (number_fields 2 stop ++ f3) (omega arith) (omega arith) (omega arith)
    (number_fields_of 2 stop t3 f3 (omega arith) (omega arith) lt
    (digest_fields_of 3 nodes t4 f4 (omega arith) (omega arith) all (digest_fields_of 4 hashes t5 f5 (omega arith) (omega arith) leaves flag)))

-- the numbers in them
numbers_in : (m start stop : ℕ) (nodes hashes : List Digest) (a b d : List ℕ) → all_numbers m (number_fields 1 start) ≡ a → all_numbers m (number_fields 2 stop) ≡ b
    → all_numbers m (number_fields 5 1) ≡ d → all_numbers m (fields_in start stop nodes hashes) ≡ a ++ (b ++ (d ++ []))
numbers_in m start stop nodes hashes a b d is_a is_b is_d =
    let f5 : List FieldParts = number_fields 5 1 ++ [] in
    let f4 : List FieldParts = digest_fields 4 hashes ++ f5 in
    let f3 : List FieldParts = digest_fields 3 nodes ++ f4 in
    all_numbers_in_a_row m (number_fields 1 start) (number_fields 2 stop ++ f3)
    ∙ ap₂ (λ (x y : List ℕ). x ++ y) is_a (
    all_numbers_in_a_row m (number_fields 2 stop) f3
    ∙ ap₂ (λ (x y : List ℕ). x ++ y) is_b (
    all_numbers_in_a_row m (digest_fields 3 nodes) f4
    ∙ ap₂ (λ (x y : List ℕ). x ++ y) (digest_numbers 3 m nodes) (
    all_numbers_in_a_row m (digest_fields 4 hashes) f5
    ∙ ap₂ (λ (x y : List ℕ). x ++ y) (digest_numbers 4 m hashes) (all_numbers_in_a_row m (number_fields 5 1) [] ∙ ap (λ (x : List ℕ). x ++ []) is_d))))

-- the bytes in them
bytes_in : (m start stop : ℕ) (nodes hashes : List Digest) (c d : List (List ℕ)) → all_bytes m (digest_fields 3 nodes) ≡ c → all_bytes m (digest_fields 4 hashes) ≡ d
    → all_bytes m (fields_in start stop nodes hashes) ≡ c ++ (d ++ [])
bytes_in m start stop nodes hashes c d is_c is_d =
    let f5 : List FieldParts = number_fields 5 1 ++ [] in
    let f4 : List FieldParts = digest_fields 4 hashes ++ f5 in
    let f3 : List FieldParts = digest_fields 3 nodes ++ f4 in
    all_bytes_in_a_row m (number_fields 1 start) (number_fields 2 stop ++ f3)
    ∙ ap₂ (λ (x y : List (List ℕ)). x ++ y) (number_bytes 1 m start) (
    all_bytes_in_a_row m (number_fields 2 stop) f3
    ∙ ap₂ (λ (x y : List (List ℕ)). x ++ y) (number_bytes 2 m stop) (
    all_bytes_in_a_row m (digest_fields 3 nodes) f4
    ∙ ap₂ (λ (x y : List (List ℕ)). x ++ y) is_c (
    all_bytes_in_a_row m (digest_fields 4 hashes) f5
    ∙ ap₂ (λ (x y : List (List ℕ)). x ++ y) is_d (all_bytes_in_a_row m (number_fields 5 1) [] ∙ ap (λ (x : List (List ℕ)). x ++ []) (number_bytes 5 m 1)))))

-- the message of a proof has both places, the nodes, the leaf hashes, and the flag
pub row_proof_is_common : (start count : ℕ) (nodes hashes : List Digest) → start + leaf_count count < 2 ^ 64 → AreDigests nodes → AreDigests hashes
    → (fields : List FieldParts) × (fields_of (row_proof_text start count nodes hashes) ≡ Some fields)
    × (last_number 1 fields ≡ start) × (last_number 2 fields ≡ start + leaf_count count)
    × (all_bytes 3 fields ≡ bytes_of_all nodes) × (all_bytes 4 fields ≡ bytes_of_all hashes) × (last_number 5 fields ≡ 1)
row_proof_is_common start count nodes hashes lt all leaves =
    let stop : ℕ = start + leaf_count count in (
      fields_in start stop nodes hashes,
      text_fields start count nodes hashes lt all leaves,
      ap (last_of 0) (numbers_in 1 start stop nodes hashes _ [] [] refl (other_number 2 1 stop refl) (other_number 5 1 1 refl) ∙ append-nil (all_numbers 1 (number_fields 1 start)))
          ∙ own_number 1 start,
      ap (last_of 0) (numbers_in 2 start stop nodes hashes [] _ [] (other_number 1 2 start refl) refl (other_number 5 2 1 refl) ∙ append-nil (all_numbers 2 (number_fields 2 stop)))
          ∙ own_number 2 stop,
      bytes_in 3 start stop nodes hashes (bytes_of_all nodes) [] (own_digests 3 nodes) (other_digests 4 3 hashes refl) ∙ append-nil (bytes_of_all nodes),
      bytes_in 4 start stop nodes hashes [] (bytes_of_all hashes) (other_digests 3 4 nodes refl) (own_digests 4 hashes) ∙ append-nil (bytes_of_all hashes),
      ap (last_of 0) (numbers_in 5 start stop nodes hashes [] [] _ (other_number 1 5 start refl) (other_number 2 5 stop refl) refl ∙ append-nil (all_numbers 5 (number_fields 5 1)))
          ∙ own_number 5 1,
    )
