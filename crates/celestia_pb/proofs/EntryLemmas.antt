-- Where digests lie: each 92 bytes behind the one before.
use Rattle.std.proofs.Common.{◌≡◌, ◌∙◌, ℕ, ◌+◌, ◌*◌, ◌<◌, List, [], ◌∷◌, ◌++◌, length, drop, refl, ap, arith, length-append}
use Rattle.std.proofs.lemmas.List.{take_at, drop_at}
use Rattle.namespace_id.specs.declared.digests.Digest.{Digest}
use Rattle.namespace_id.specs.Digests.{AreDigests}
use Rattle.proto_fields.specs.Varints.{varint}
use Rattle.proto_fields.specs.Spelled.{bytes_field}
use Rattle.proto_fields.proofs.Varint.Bytes.{varint-low}
use Rattle.proto_fields.proofs.CanonicalLemmas.{bytes_field-is}
use Rattle.celestia_pb.specs.Digests.{digests_text, entry_digest}

-- ---- one entry

-- a digest has its tag and its length before it
entry_is : (n : ℕ) (digest rest : List ℕ) → n < 16 → length digest ≡ 90 → bytes_field n digest ++ rest ≡ (8 * n + 2) ∷ 90 ∷ (digest ++ rest)
entry_is n digest rest few size =
    let front : varint (length digest) ≡ 90 ∷ [] = ap varint size ∙ varint-low 90 (omega arith) in
    ap (λ (l : List ℕ). l ++ rest) (bytes_field-is n digest few)
    ∙ ap (λ (l : List ℕ). (8 * n + 2) ∷ (l ++ digest) ++ rest) front

-- it is there
pub entry_digest-is : (n : ℕ) (digest : Digest) (rest : List ℕ) → n < 16 → length digest.0 ≡ 90 → entry_digest (bytes_field n digest.0 ++ rest) ≡ digest
entry_digest-is n digest rest few size =
    ap entry_digest (entry_is n digest.0 rest few size) ∙ ap (λ (l : List ℕ). record { 0 = l }) (take_at digest.0 rest 90 size)

-- it has 92 bytes
pub entry_rest : (n : ℕ) (digest rest : List ℕ) → n < 16 → length digest ≡ 90 → drop 92 (bytes_field n digest ++ rest) ≡ rest
entry_rest n digest rest few size = ap (drop 92) (entry_is n digest rest few size) ∙ drop_at digest rest 90 size

pub entry_length : (n : ℕ) (digest rest : List ℕ) → n < 16 → length digest ≡ 90 → length (bytes_field n digest ++ rest) ≡ 92 + length rest
entry_length n digest rest few size = omega (arith, ap length (entry_is n digest rest few size), length-append digest rest)

-- ---- of digests that were written

-- how long they are
pub length-digests_text : (n : ℕ) (digests : List Digest) → n < 16 → AreDigests digests → length (digests_text n digests) ≡ 92 * length digests
length-digests_text n [] few all = refl
length-digests_text n (digest ∷ digests) few all =
    omega (arith, entry_length n digest.0 (digests_text n digests) few all.0.size_is, length-digests_text n digests few all.1)
