-- How long fields are.
use Rattle.std.proofs.Common.{◌≡◌, ◌∙◌, ℕ, ◌+◌, ◌*◌, ◌<◌, List, ◌++◌, length, sym, ap, arith, append_assoc, length-append}
use Rattle.namespace_id.specs.declared.cells.Cell.{Cell}
use Rattle.namespace_id.specs.declared.shares.Share.{Share}
use Rattle.namespace_id.specs.declared.digests.Digest.{Digest}
use Rattle.namespace_id.specs.Digests.{AreDigests}
use Rattle.proto_fields.specs.Varints.{varint}
use Rattle.proto_fields.specs.Spelled.{bytes_field, field_size}
use Rattle.proto_fields.specs.Canonical.{number_text}
use Rattle.proto_fields.proofs.Varint.Bytes.{length-varint-low}
use Rattle.proto_fields.proofs.WrittenLemmas.{size_is_length}
use Rattle.proto_fields.proofs.CanonicalLemmas.{number_field-is, number_text-some}
use Rattle.celestia_pb.specs.declared.sample.Sample.{Sample}
use Rattle.celestia_pb.specs.Samples.{share_message, axis_number, place_on, sample_text}
use Rattle.celestia_pb.specs.Digests.{digests_text}
use Rattle.celestia_pb.specs.Messages.{field_front}
use Rattle.celestia_pb.specs.Inclusions.{inclusion_text}
use Rattle.celestia_pb.proofs.EntryLemmas.{length-digests_text}

-- a number that isn't 0 has a tag of one byte
pub length_number : (n value : ℕ) → n < 16 → 0 < value → length (number_text n value) ≡ 1 + length (varint value)
length_number n value few some = omega (arith, ap length (number_text-some n value some ∙ number_field-is n value few))

-- so have bytes
pub length_tag : (n : ℕ) → n < 16 → length (varint (8 * n + 2)) ≡ 1
length_tag n few = length-varint-low (8 * n + 2) (omega arith)

-- a tag and a length before as many bytes are their field
pub front_field : (n size : ℕ) (bytes : List ℕ) → size ≡ length bytes → field_front n size ++ bytes ≡ bytes_field n bytes
front_field n size bytes same =
    append_assoc (varint (8 * n + 2)) (varint size) bytes ∙ ap (λ (k : ℕ). varint (8 * n + 2) ++ (varint k ++ bytes)) same

-- the parts of a proof
pub length_inclusion : (start count : ℕ) (nodes : List Digest) → AreDigests nodes
    → length (inclusion_text start count nodes) ≡ length (number_text 1 start) + (length (number_text 2 (start + count)) + (92 * length nodes + length (number_text 5 1)))
length_inclusion start count nodes all =
    let behind : List ℕ = digests_text 3 nodes ++ number_text 5 1 in
    omega (
      arith,
      length-append (number_text 1 start) (number_text 2 (start + count) ++ behind),
      length-append (number_text 2 (start + count)) behind,
      length-append (digests_text 3 nodes) (number_text 5 1),
      length-digests_text 3 nodes (omega arith) all,
    )

-- a share as a message in its field
length_share : (share : Share) → length share.0 ≡ 512 → length (bytes_field 1 (share_message share)) ≡ field_size 1 (field_size 1 512)
length_share share size = size_is_length 1 (share_message share) ∙ ap (field_size 1) (size_is_length 1 share.0 ∙ ap (field_size 1) size)

-- the parts of a sample, as they are counted
pub sample_sized : (cell : Cell) (s : Sample) (inner share place proof field number : ℕ) → length s.share.0 ≡ 512 → inner ≡ field_size 1 512 → share ≡ field_size 1 inner
    → place ≡ place_on s.axis cell → proof ≡ length (inclusion_text place 1 s.path) → field ≡ field_size 2 proof
    → number ≡ length (number_text 3 (axis_number s.axis)) → share + (field + number) ≡ length (sample_text cell s)
sample_sized cell s inner share place proof field number size is_inner is_share is_place is_proof is_field is_number =
    let text : List ℕ = inclusion_text (place_on s.axis cell) 1 s.path in
    let behind : List ℕ = bytes_field 2 text ++ number_text 3 (axis_number s.axis) in
    let first : share ≡ length (bytes_field 1 (share_message s.share)) = is_share ∙ ap (field_size 1) is_inner ∙ sym (length_share s.share size) in
    let second : field ≡ length (bytes_field 2 text) =
    is_field ∙ ap (field_size 2) (is_proof ∙ ap (λ (p : ℕ). length (inclusion_text p 1 s.path)) is_place) ∙ sym (size_is_length 2 text) in
    omega (arith, first, second, is_number, length-append (bytes_field 1 (share_message s.share)) behind, length-append (bytes_field 2 text) (number_text 3 (axis_number s.axis)))
