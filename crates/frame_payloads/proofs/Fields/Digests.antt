-- Digests that are read are those that were written, and digests that were written are read.
use Rattle.std.proofs.Common.{◌≡◌, ℕ, ◌*◌, ◌≤◌, List, ◌++◌, length, Some, refl}
use Rattle.namespace_id.specs.declared.digests.Digest.{Digest}
use Rattle.namespace_id.specs.Bytes.{AreBytes}
use Rattle.namespace_id.specs.Digests.{AreDigests}
use Rattle.frame_fields.specs.Fields.{digest, digests_of, digests_at}
use Rattle.frame_payloads.specs.codec.Texts.{digest_bytes}
use Rattle.frame_payloads.proofs.Fields.Readers.{Takes}
use Rattle.frame_payloads.proofs.Fields.Split.{AreTexts, length-split_into, are_values_of, value_bytes-of, length-value_bytes, split_into-spelled, values_take, values_again}

-- the bytes of a digest
abbrev text : Digest → List ℕ
text d = d.0

-- a digest is its bytes
texts : AreTexts digest text
texts = record { there = λ bytes. refl; back = λ d. refl }

-- so many digests as were asked for are read
pub length-digests_of : (count : ℕ) (bytes : List ℕ) → length (digests_of count bytes) ≡ count
length-digests_of count bytes = length-split_into digest 90 count bytes

-- each digest that is read has 90 bytes
pub are_digests_of : (count : ℕ) (bytes : List ℕ) → AreBytes bytes → 90 * count ≤ length bytes → AreDigests (digests_of count bytes)
are_digests_of count bytes fits long = are_values_of digest text texts 90 count bytes fits long

-- the digests of bytes spell them
pub digest_bytes-of : (count : ℕ) (bytes : List ℕ) → length bytes ≡ 90 * count → digest_bytes (digests_of count bytes) ≡ bytes
digest_bytes-of count bytes len = value_bytes-of digest text texts 90 count bytes len

-- each digest is written in 90 bytes
pub length-digest_bytes : (digests : List Digest) → AreDigests digests → length (digest_bytes digests) ≡ 90 * length digests
length-digest_bytes digests all = length-value_bytes text 90 digests all

-- the digests of a spelling are those spelled
pub digests_of-spelled : (count : ℕ) (bytes : List ℕ) (digests : List Digest) → AreDigests digests → length digests ≡ count → bytes ≡ digest_bytes digests → digests_of count bytes ≡ digests
digests_of-spelled count bytes digests all len e = split_into-spelled digest text texts 90 count bytes digests all len e

-- ---- the field

-- digests that are read are those that were written
pub digests_take : (count : ℕ) (bytes : List ℕ) (digests : List Digest) (rest : List ℕ) → AreBytes bytes → digests_at count bytes ≡ Some (digests, rest)
    → Takes bytes (digest_bytes digests) rest × (length digests ≡ count) × AreDigests digests
digests_take count bytes digests rest fits e = values_take digest text texts 90 count bytes digests rest fits e

-- digests that were written are read, whatever follows them
pub digests_again : (digests : List Digest) (rest : List ℕ) → AreDigests digests → digests_at (length digests) (digest_bytes digests ++ rest) ≡ Some (digests, rest)
digests_again digests rest all = values_again digest text texts 90 digests rest all
