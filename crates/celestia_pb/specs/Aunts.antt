-- Fields of bytes that may be there, and hashes of 32 bytes one after another.
use Rattle.std.specs.Prelude.{ℕ, zero, suc, ◌==◌, List, [], ◌∷◌, length, Option, Some, None, option_and_then, Result, Ok, Err, if◌then◌else◌}
use Rattle.namespace_id.specs.Sizes.{hash_size}
use Rattle.proto_fields.specs.Canonical.{begins_part, canonical_part}
use Rattle.celestia_pb.specs.Reading.{or_left}

-- ---- a field that may be there

-- what was read
abbrev pub some_read : {A : Type 0} → Result (A × List ℕ) ℕ → Result (Option A × List ℕ) ℕ
some_read (Ok read) = Ok (Some read.0, read.1)
some_read (Err left) = Err left

-- what `one` reads of a field of bytes of this number, none where the field isn't there, and what follows
abbrev pub optional_at : {A : Type 0} → (List ℕ → Option (A × List ℕ)) → ℕ → List ℕ → Result (Option A × List ℕ) ℕ
optional_at one n bytes = if begins_part n bytes then some_read (or_left bytes (one bytes)) else Ok (None, bytes)

-- ---- hashes

-- bytes that were read, where they are those of a hash
abbrev pub if_aunt : List ℕ × List ℕ → Option (List ℕ × List ℕ)
if_aunt read = if length read.0 == hash_size then Some read else None

-- the hash in a field of this number, and what follows
abbrev pub aunt_at : ℕ → List ℕ → Option (List ℕ × List ℕ)
aunt_at n bytes = option_and_then if_aunt (canonical_part n bytes)

-- a hash before others
abbrev pub with_aunt : List ℕ → Result (List (List ℕ) × List ℕ) ℕ → Result (List (List ℕ) × List ℕ) ℕ
with_aunt hash (Ok others) = Ok (hash ∷ others.0, others.1)
with_aunt hash (Err left) = Err left

-- a hash that was read, and the others
abbrev pub before_aunts : (List ℕ → Result (List (List ℕ) × List ℕ) ℕ) → Result (List ℕ × List ℕ) ℕ → Result (List (List ℕ) × List ℕ) ℕ
before_aunts others (Ok read) = with_aunt read.0 (others read.1)
before_aunts others (Err left) = Err left

-- the hashes in fields of this number, as long as such a field is in front, at most so many, and what follows
unfoldable pub aunts_at : ℕ → ℕ → List ℕ → Result (List (List ℕ) × List ℕ) ℕ
aunts_at n zero bytes = Ok ([], bytes)
aunts_at n (suc most) bytes =
    if begins_part n bytes
    then before_aunts (aunts_at n most) (or_left bytes (aunt_at n bytes))
    else Ok ([], bytes)
