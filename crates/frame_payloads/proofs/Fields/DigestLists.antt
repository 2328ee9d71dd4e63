-- Digests behind a count of two bytes that are read are those that were written, and digests that were written are read.
use Rattle.std.proofs.Common.{◌≡◌, ℕ, ◌^◌, ◌<◌, ◌≤◌, List, ◌++◌, length, Some, sym, subst}
use Rattle.std.specs.Int.{w16, to_be_bytes}
use Rattle.namespace_id.specs.declared.digests.Digest.{Digest}
use Rattle.namespace_id.specs.Bytes.{AreBytes}
use Rattle.namespace_id.specs.Digests.{AreDigests}
use Rattle.frame_fields.specs.Fields.{count_at, digest_list_at}
use Rattle.frame_payloads.specs.codec.Texts.{digest_bytes, digest_list}
use Rattle.frame_payloads.proofs.Fields.Readers.{bind_some, Takes, Takes-then}
use Rattle.frame_payloads.proofs.Fields.Numbers.{wide16, count_takes, count_again}
use Rattle.frame_payloads.proofs.Fields.Digests.{digests_take, digests_again}

-- digests that are read are those that were written, and aren't too many
pub digest_list_takes : (limit : ℕ) (bytes : List ℕ) (digests : List Digest) (rest : List ℕ) → AreBytes bytes → digest_list_at limit bytes ≡ Some (digests, rest)
    → Takes bytes (digest_list digests) rest × AreDigests digests × (length digests ≤ limit)
unfolding digest_list_at
digest_list_takes limit bytes digests rest fits e =
    let a = bind_some (count_at w16 limit bytes) _ (digests, rest) e in
    let t = count_takes w16 (2 ^ 16) wide16 limit bytes a.0.0 a.0.1 fits a.1 in
    let u = digests_take a.0.0 a.0.1 digests rest t.0.rest_fits a.2 in
    let both = Takes-then bytes (to_be_bytes w16 a.0.0) a.0.1 (digest_bytes digests) rest t.0 u.0 in
    (subst (λ (n : ℕ). Takes bytes (to_be_bytes w16 n ++ digest_bytes digests) rest) (sym u.1) both, u.2, subst (λ (n : ℕ). n ≤ limit) (sym u.1) t.1)

-- digests that were written are read, whatever follows them
pub digest_list_again : (limit : ℕ) (digests : List Digest) (rest : List ℕ) → AreDigests digests → length digests < 2 ^ 16 → length digests ≤ limit
    → digest_list_at limit (digest_list digests ++ rest) ≡ Some (digests, rest)
unfolding digest_list_at
digest_list_again limit digests rest all lt few =
    rw (count_again w16 (2 ^ 16) wide16 limit (length digests) (digest_bytes digests ++ rest) lt few) (digests_again digests rest all)
