-- The loop that counts digests.
use Rattle.std.proofs.Common.{◌≡◌, ◌∙◌, ℕ, ◌+◌, ◌-◌, ◌<◌, true, List, [], ◌∷◌, length, drop, Some, Result, Ok, Err, refl, ap}
use Rattle.namespace_id.specs.declared.digests.Digest.{Digest}
use Rattle.proto_fields.specs.Canonical.{begins_part}
use Rattle.celestia_pb.specs.Digests.{digest_field, with_digest, digests_at, entry_digest}
use Rattle.celestia_pb.proofs.DigestLemmas.{read_is_digest, digests_at-more}
use Rattle.celestia_pb.proofs.EntryLemmas.{entry_digest-is, entry_rest, entry_length}
use Rattle.celestia_pb.proofs.ValueLoops.{with_values, IsCounting, counting_goes}

-- a digest before others is one of digests before others
with_digest-one : (digest : Digest) (r : Result (List Digest × List ℕ) ℕ) → with_digest digest r ≡ with_values (digest ∷ []) r
with_digest-one digest (Ok x) = refl
with_digest-one digest (Err left) = refl

-- so many of these bytes were counted, and the rest is left
abbrev pub IsCountingDigests : (n most : ℕ) (bytes : List ℕ) (count : ℕ) (rest : List ℕ) → Type 0
IsCountingDigests n most bytes count rest = IsCounting entry_digest 92 (digests_at n) most bytes count rest

-- one more is counted
pub digest_goes : (n most : ℕ) (bytes : List ℕ) (count : ℕ) (rest : List ℕ) → n < 16 → IsCountingDigests n most bytes count rest → count < most
    → begins_part n rest ≡ true → (digest : Digest) (after : List ℕ) → digest_field n rest ≡ Some (digest, after)
    → IsCountingDigests n most bytes (count + 1) after
digest_goes n most bytes count rest small at more there digest after e =
    let h = read_is_digest n rest digest after small at.fits e in
    let size : length digest.0 ≡ 90 = h.is.size_is in
    counting_goes entry_digest 92 (digests_at n) most bytes count rest at more digest after
    (digests_at-more n (most - (count + 1)) rest digest after there e ∙ with_digest-one digest (digests_at n (most - (count + 1)) after))
    (ap entry_digest h.parts ∙ entry_digest-is n digest after small size)
    (ap (drop 92) h.parts ∙ entry_rest n digest.0 after small size)
    (ap length h.parts ∙ entry_length n digest.0 after small size)
    h.fits
