-- What lenient reading has of a proof that was written.
use Rattle.std.proofs.Common.{◌≡◌, ◌∙◌, ℕ, ◌+◌, ◌<◌, ◌^◌, List, [], ◌++◌, Some, refl, sym, ap, ap₂, arith, append-nil}
use Rattle.namespace_id.specs.declared.digests.Digest.{Digest}
use Rattle.namespace_id.specs.Digests.{AreDigests}
use Rattle.proto_fields.specs.Fields.{FieldParts, fields_of, last_of, all_bytes, all_numbers, last_number}
use Rattle.proto_fields.specs.Canonical.{number_text, number_fields}
use Rattle.proto_fields.proofs.FieldLemmas.{no_fields, all_bytes_in_a_row, all_numbers_in_a_row}
use Rattle.proto_fields.proofs.CanonicalLemmas.{number_fields_of}
use Rattle.celestia_pb.specs.Digests.{digests_text}
use Rattle.celestia_pb.specs.Laws.{bytes_of_all}
use Rattle.celestia_pb.specs.Inclusions.{inclusion_text}
use Rattle.celestia_pb.specs.BefpEntries.{proof_text}
use Rattle.celestia_pb.proofs.CommonLemmas.{digest_fields, digest_fields_of, own_digests, other_digests, number_bytes, digest_numbers, own_number, other_number}

-- the message of both places, of nodes and of a flag
abbrev marked_text : ℕ → ℕ → List Digest → ℕ → List ℕ
marked_text start stop nodes flag = number_text 1 start ++ (number_text 2 stop ++ (digests_text 3 nodes ++ number_text 5 flag))

-- its fields
abbrev fields_in : ℕ → ℕ → List Digest → ℕ → List FieldParts
fields_in start stop nodes flag = number_fields 1 start ++ (number_fields 2 stop ++ (digest_fields 3 nodes ++ (number_fields 5 flag ++ [])))

-- the message is its fields
text_fields : (start stop : ℕ) (nodes : List Digest) (flag : ℕ) → start < 2 ^ 64 → stop < 2 ^ 64 → flag < 2 ^ 64 → AreDigests nodes
    → fields_of (marked_text start stop nodes flag) ≡ Some (fields_in start stop nodes flag)
text_fields start stop nodes flag first lt last all =
    let t5 : List ℕ = number_text 5 flag in
    let t3 : List ℕ = digests_text 3 nodes ++ t5 in
    let f5 : List FieldParts = number_fields 5 flag ++ [] in
    let f3 : List FieldParts = digest_fields 3 nodes ++ f5 in
    let marked : fields_of t5 ≡ Some f5 =
    ap fields_of (sym (append-nil (number_text 5 flag))) ∙ number_fields_of 5 flag [] [] (omega arith) (omega arith) last no_fields in
    number_fields_of 1 start (number_text 2 stop ++ t3) (number_fields 2 stop ++ f3) (omega arith) (omega arith) first
    (number_fields_of 2 stop t3 f3 (omega arith) (omega arith) lt (digest_fields_of 3 nodes t5 f5 (omega arith) (omega arith) all marked))

-- the numbers in them
numbers_in : (m start stop : ℕ) (nodes : List Digest) (flag : ℕ) (a b d : List ℕ) → all_numbers m (number_fields 1 start) ≡ a → all_numbers m (number_fields 2 stop) ≡ b
    → all_numbers m (number_fields 5 flag) ≡ d → all_numbers m (fields_in start stop nodes flag) ≡ a ++ (b ++ (d ++ []))
numbers_in m start stop nodes flag a b d is_a is_b is_d =
    let f5 : List FieldParts = number_fields 5 flag ++ [] in
    let f3 : List FieldParts = digest_fields 3 nodes ++ f5 in
    all_numbers_in_a_row m (number_fields 1 start) (number_fields 2 stop ++ f3)
    ∙ ap₂ (λ (x y : List ℕ). x ++ y) is_a (
    all_numbers_in_a_row m (number_fields 2 stop) f3
    ∙ ap₂ (λ (x y : List ℕ). x ++ y) is_b (
    all_numbers_in_a_row m (digest_fields 3 nodes) f5
    ∙ ap₂ (λ (x y : List ℕ). x ++ y) (digest_numbers 3 m nodes) (all_numbers_in_a_row m (number_fields 5 flag) [] ∙ ap (λ (x : List ℕ). x ++ []) is_d)))

-- the bytes in them
bytes_in : (m start stop : ℕ) (nodes : List Digest) (flag : ℕ) (c : List (List ℕ)) → all_bytes m (digest_fields 3 nodes) ≡ c
    → all_bytes m (fields_in start stop nodes flag) ≡ c ++ []
bytes_in m start stop nodes flag c is_c =
    let f5 : List FieldParts = number_fields 5 flag ++ [] in
    let f3 : List FieldParts = digest_fields 3 nodes ++ f5 in
    all_bytes_in_a_row m (number_fields 1 start) (number_fields 2 stop ++ f3)
    ∙ ap₂ (λ (x y : List (List ℕ)). x ++ y) (number_bytes 1 m start) (
    all_bytes_in_a_row m (number_fields 2 stop) f3
    ∙ ap₂ (λ (x y : List (List ℕ)). x ++ y) (number_bytes 2 m stop) (
    all_bytes_in_a_row m (digest_fields 3 nodes) f5
    ∙ ap₂ (λ (x y : List (List ℕ)). x ++ y) is_c (all_bytes_in_a_row m (number_fields 5 flag) [] ∙ ap (λ (x : List (List ℕ)). x ++ []) (number_bytes 5 m flag))))

-- the message has both places, the nodes, no leaf hash, and the flag
pub marked_is_common : (start stop : ℕ) (nodes : List Digest) (flag : ℕ) → start < 2 ^ 64 → stop < 2 ^ 64 → flag < 2 ^ 64 → AreDigests nodes
    → (fields : List FieldParts) × (fields_of (marked_text start stop nodes flag) ≡ Some fields)
    × (last_number 1 fields ≡ start) × (last_number 2 fields ≡ stop)
    × (all_bytes 3 fields ≡ bytes_of_all nodes) × (all_bytes 4 fields ≡ []) × (last_number 5 fields ≡ flag)
marked_is_common start stop nodes flag first lt last all = (
  fields_in start stop nodes flag,
  text_fields start stop nodes flag first lt last all,
  ap (last_of 0) (numbers_in 1 start stop nodes flag _ [] [] refl (other_number 2 1 stop refl) (other_number 5 1 flag refl) ∙ append-nil (all_numbers 1 (number_fields 1 start)))
      ∙ own_number 1 start,
  ap (last_of 0) (numbers_in 2 start stop nodes flag [] _ [] (other_number 1 2 start refl) refl (other_number 5 2 flag refl) ∙ append-nil (all_numbers 2 (number_fields 2 stop)))
      ∙ own_number 2 stop,
  bytes_in 3 start stop nodes flag (bytes_of_all nodes) (own_digests 3 nodes) ∙ append-nil (bytes_of_all nodes),
  bytes_in 4 start stop nodes flag [] (other_digests 3 4 nodes refl),
  ap (last_of 0) (numbers_in 5 start stop nodes flag [] [] _ (other_number 1 5 start refl) (other_number 2 5 stop refl) refl ∙ append-nil (all_numbers 5 (number_fields 5 flag)))
      ∙ own_number 5 flag,
)

-- that of a proof
pub proof_is_common : (start count : ℕ) (nodes : List Digest) → start + count < 2 ^ 64 → AreDigests nodes
    → (fields : List FieldParts) × (fields_of (inclusion_text start count nodes) ≡ Some fields)
    × (last_number 1 fields ≡ start) × (last_number 2 fields ≡ start + count)
    × (all_bytes 3 fields ≡ bytes_of_all nodes) × (all_bytes 4 fields ≡ []) × (last_number 5 fields ≡ 1)
proof_is_common start count nodes lt all = marked_is_common start (start + count) nodes 1 (omega arith) lt (omega arith) all

-- and that of a proof of one leaf with a flag
pub flagged_is_common : (flag start : ℕ) (nodes : List Digest) → flag < 2 ^ 64 → start + 1 < 2 ^ 64 → AreDigests nodes
    → (fields : List FieldParts) × (fields_of (proof_text flag start nodes) ≡ Some fields)
    × (last_number 1 fields ≡ start) × (last_number 2 fields ≡ start + 1)
    × (all_bytes 3 fields ≡ bytes_of_all nodes) × (all_bytes 4 fields ≡ []) × (last_number 5 fields ≡ flag)
flagged_is_common flag start nodes last lt all = marked_is_common start (start + 1) nodes flag (omega arith) lt last all
