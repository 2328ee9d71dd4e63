-- How many bytes a reader takes at most, whatever it reads.
use Rattle.std.proofs.Common.{◌≡◌, ℕ, zero, suc, ◌+◌, ◌*◌, ◌≤◌, ltb, List, [], ◌∷◌, length, take, drop, Option, Some, ap, subst, arith, ltb-false, length-drop}
use Rattle.std.specs.Int.{w16, from_be_bytes}
use Rattle.std.proofs.Math.Nat.{mul-suc, mul-le-mul_left}
use Rattle.std.proofs.lemmas.Option.{same_Some}
use Rattle.namespace_id.specs.Sizes.{digest_size}
use Rattle.frame_fields.specs.Fields.{byte_at, big_endian_at, split_into, digest, digests_at, path_at, count_at, many_at, list_at}
use Rattle.frame_payloads.proofs.Fields.Readers.{bind_some, if_false, front_at}

-- a reader takes so many bytes at most
abbrev pub TakesFew : {A : Type 0} → ℕ → (List ℕ → Option (A × List ℕ)) → Type 0
TakesFew {A} most read = (bytes : List ℕ) (r : A × List ℕ) → read bytes ≡ Some r → length bytes ≤ most + length r.1

-- what is left is what was read
pub left_of : {A : Type 0} (r s : A × List ℕ) → Some r ≡ Some s → length r.1 ≡ length s.1
left_of {A} r s e = ap (λ (x : A × List ℕ). length x.1) (same_Some r s e)

-- a byte
pub byte_few : TakesFew 1 byte_at
byte_few [] r e = absurd cc
byte_few (byte ∷ rest) r e = omega (arith, left_of (byte, rest) r e)

-- a field of a known length
pub front_few : {A : Type 0} (f : List ℕ → A) (size : ℕ) → TakesFew size (front_at f size)
front_few {A} f size bytes r e =
    let made : A × List ℕ = (f (take size bytes), drop size bytes) in
    let g = if_false (ltb (length bytes) size) (Some made) r e in
    omega (arith, left_of made r g.1, length-drop size bytes)

-- a number of two bytes
pub number_few : TakesFew 2 (big_endian_at w16)
number_few bytes r e = front_few (from_be_bytes w16) 2 bytes r e

-- so many digests
pub digests_few : (count : ℕ) → TakesFew (90 * count) (digests_at count)
digests_few count bytes r e = front_few (split_into digest digest_size count) (90 * count) bytes r e

-- the nodes of a proof
pub path_few : (limit : ℕ) → TakesFew (1 + 90 * limit) (path_at limit)
unfolding path_at
path_few limit bytes r e =
    let count = bind_some (byte_at bytes) _ r e in
    let few = if_false (ltb limit count.0.0) _ r count.2 in
    omega (arith, byte_few bytes count.0 count.1, ltb-false limit count.0.0 few.0, digests_few count.0.0 count.0.1 r few.1)

-- a count of two bytes is within its limit
pub counted_few : (limit : ℕ) (bytes : List ℕ) (r : ℕ × List ℕ) → count_at w16 limit bytes ≡ Some r → (r.0 ≤ limit) × (length bytes ≤ 2 + length r.1)
unfolding count_at
counted_few limit bytes r e =
    let count = bind_some (big_endian_at w16 bytes) _ r e in
    let few = if_false (ltb limit count.0.0) (Some count.0) r count.2 in
    let same : count.0 ≡ r = same_Some count.0 r few.1 in (
      subst (λ (x : ℕ × List ℕ). x.0 ≤ limit) same (ltb-false limit count.0.0 few.0),
      subst (λ (x : ℕ × List ℕ). length bytes ≤ 2 + length x.1) same (number_few bytes count.0 count.1),
    )

-- so many values
pub many_few : {A : Type 0} (most : ℕ) (one : List ℕ → Option (A × List ℕ)) → TakesFew most one → (count : ℕ) → TakesFew (most * count) (many_at one count)
unfolding many_at
many_few most one few zero bytes r e = omega (arith, left_of ([], bytes) r e)
many_few most one few (suc count) bytes r e =
    let first = bind_some (one bytes) _ r e in
    let others = bind_some (many_at one count first.0.1) _ r first.2 in
    omega (arith, few bytes first.0 first.1, many_few most one few count first.0.1 others.0 others.1, left_of _ r others.2, mul-suc most count)

-- a count and so many values
pub list_few : {A : Type 0} (most limit : ℕ) (one : List ℕ → Option (A × List ℕ)) → TakesFew most one → TakesFew (2 + most * limit) (list_at w16 limit one)
unfolding list_at
list_few most limit one few bytes r e =
    let count = bind_some (count_at w16 limit bytes) _ r e in
    let within = counted_few limit bytes count.0 count.1 in
    omega (arith, within.1, many_few most one few count.0.0 count.0.1 r count.2, mul-le-mul_left most within.0)
