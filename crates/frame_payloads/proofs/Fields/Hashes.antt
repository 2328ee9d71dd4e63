-- Hashes behind their count that are read are those that were written, and hashes that were written are read.
use Rattle.std.proofs.Common.{◌≡◌, ℕ, ◌+◌, ◌*◌, ◌≤◌, ltb, List, [], ◌∷◌, ◌++◌, length, Some, refl, sym, subst, arith, ltb-false, le-ltb}
use Rattle.std.specs.List.{flat_map, AllByRecursion}
use Rattle.namespace_id.specs.Bytes.{AreBytes, IsString}
use Rattle.data_header.specs.Paths.{most_hashes}
use Rattle.frame_fields.specs.Fields.{byte_at, values_at, hashes_at}
use Rattle.frame_payloads.specs.kinds.Commit.{hash_bytes}
use Rattle.frame_payloads.proofs.Fields.Readers.{bind_some, if_false, if_false_again, Takes, Takes-then}
use Rattle.frame_payloads.proofs.Fields.Strings.{byte_takes}
use Rattle.frame_payloads.proofs.Fields.Split.{AreTexts, length-value_bytes, values_take, values_again}

-- a hash as it is
abbrev text : List ℕ → List ℕ
text hash = hash

-- a hash is its bytes
texts : AreTexts text text
texts = record { there = λ bytes. refl; back = λ h. refl }

-- the count is written in one byte, and each hash in 32
pub length-hash_bytes : (hashes : List (List ℕ)) → AllByRecursion (IsString 32) hashes → length (hash_bytes hashes) ≡ 1 + 32 * length hashes
length-hash_bytes hashes all =
    let each : length (flat_map text hashes) ≡ 32 * length hashes = length-value_bytes text 32 hashes all in
    omega arith

-- hashes that are read are those that were written, and are within the limit
pub hashes_take : (bytes : List ℕ) (hashes : List (List ℕ)) (rest : List ℕ) → AreBytes bytes → hashes_at bytes ≡ Some (hashes, rest)
    → Takes bytes (hash_bytes hashes) rest × (length hashes ≤ most_hashes) × AllByRecursion (IsString 32) hashes
unfolding hashes_at
hashes_take bytes hashes rest fits e =
    let read : List (List ℕ) × List ℕ = (hashes, rest) in
    let a = bind_some (byte_at bytes) _ read e in
    let t = byte_takes bytes a.0.0 a.0.1 fits a.1 in
    let b = if_false (ltb most_hashes a.0.0) (values_at text 32 a.0.0 a.0.1) read a.2 in
    let h = values_take text text texts 32 a.0.0 a.0.1 hashes rest t.0.rest_fits b.1 in
    let few : a.0.0 ≤ most_hashes = ltb-false most_hashes a.0.0 b.0 in
    let both : Takes bytes (a.0.0 ∷ flat_map text hashes) rest = Takes-then bytes (a.0.0 ∷ []) a.0.1 (flat_map text hashes) rest t.0 h.0 in
    (subst (λ (n : ℕ). Takes bytes (n ∷ flat_map text hashes) rest) (sym h.1) both, omega (arith, h.1, few), h.2)

-- hashes within the limit that were written are read, whatever follows them
pub hashes_again : (hashes : List (List ℕ)) (rest : List ℕ) → length hashes ≤ most_hashes → AllByRecursion (IsString 32) hashes → hashes_at (hash_bytes hashes ++ rest) ≡ Some (hashes, rest)
unfolding hashes_at
hashes_again hashes rest few all =
    if_false_again (ltb most_hashes (length hashes)) (values_at text 32 (length hashes) (flat_map text hashes ++ rest)) (hashes, rest) (le-ltb _ _ few) (values_again text text texts 32 hashes rest all)
