-- Digests of 90 bytes in repeated fields of bytes.
use Rattle.std.specs.Prelude.{ℕ, zero, suc, ◌==◌, List, [], ◌∷◌, length, take, drop, flat_map, Option, Some, None, option_and_then, Result, Ok, Err, if◌then◌else◌}
use Rattle.namespace_id.specs.declared.digests.Digest.{Digest}
use Rattle.namespace_id.specs.Sizes.{digest_size}
use Rattle.proto_fields.specs.Spelled.{bytes_field}
use Rattle.proto_fields.specs.Canonical.{begins_part, canonical_part}
use Rattle.celestia_pb.specs.Reading.{or_left}
use Rattle.celestia_pb.specs.EntryLists.{entries}

-- ---- written

-- digests, each in a field of this number
abbrev pub digests_text : ℕ → List Digest → List ℕ
digests_text n digests = flat_map (λ (digest : Digest). bytes_field n digest.0) digests

-- ---- read

-- bytes that were read, where they are those of a digest
abbrev pub if_digest : List ℕ × List ℕ → Option (Digest × List ℕ)
if_digest read = if length read.0 == digest_size then Some (record { 0 = read.0 }, read.1) else None

-- the digest in a field of this number, and what follows
abbrev pub digest_field : ℕ → List ℕ → Option (Digest × List ℕ)
digest_field n bytes = option_and_then if_digest (canonical_part n bytes)

-- a digest before others
abbrev pub with_digest : Digest → Result (List Digest × List ℕ) ℕ → Result (List Digest × List ℕ) ℕ
with_digest digest (Ok others) = Ok (digest ∷ others.0, others.1)
with_digest digest (Err left) = Err left

-- a digest that was read, and the others
abbrev pub before_digests : (List ℕ → Result (List Digest × List ℕ) ℕ) → Result (Digest × List ℕ) ℕ → Result (List Digest × List ℕ) ℕ
before_digests others (Ok read) = with_digest read.0 (others read.1)
before_digests others (Err left) = Err left

-- the digests in fields of this number, as long as such a field is in front, at most so many, and what follows
unfoldable pub digests_at : ℕ → ℕ → List ℕ → Result (List Digest × List ℕ) ℕ
digests_at n zero bytes = Ok ([], bytes)
digests_at n (suc most) bytes =
    if begins_part n bytes
    then before_digests (digests_at n most) (or_left bytes (digest_field n bytes))
    else Ok ([], bytes)

-- ---- where they lie

-- the bytes of a digest with its tag and length
abbrev pub entry_size : ℕ
entry_size = 92

-- the digest behind a tag and a length
abbrev pub entry_digest : List ℕ → Digest
entry_digest bytes = record { 0 = take digest_size (drop 2 bytes) }

-- so many of them, one after another
abbrev pub digests_in : ℕ → List ℕ → List Digest
digests_in count bytes = entries entry_digest entry_size count bytes
