-- Varints: numbers of up to 64 bits, seven bits in a byte, the lowest first (protobuf, "Encoding").
use Rattle.std.specs.Prelude.{◌≡◌, ℕ, zero, suc, ◌+◌, ◌-◌, ◌*◌, ◌/◌, ◌%◌, ◌^◌, ◌<◌, ◌≤◌, ◌==◌, ◌&&◌, nat_le, nat_lt, Bool, true, false, List, [], ◌∷◌, length, Option, Some, None, if◌then◌else◌}

-- ---- what a varint is

-- the number that bytes state with seven bits each, the lowest first, in whatever form
unfoldable pub stated : List ℕ → ℕ
stated [] = 0
stated (byte ∷ bytes) = byte % 128 + 128 * stated bytes

-- whether the upper bit is set in each byte but the last, and not in the last
unfoldable pub is_marked : List ℕ → Bool
is_marked [] = false
is_marked (byte ∷ []) = nat_lt byte 128
is_marked (byte ∷ next ∷ bytes) = nat_le 128 byte && is_marked (next ∷ bytes)

-- a varint of a number: the shortest one, or a longer one of up to ten bytes
pub record IsVarint (bytes : List ℕ) (n : ℕ) : Type 0 where
  pub marked : is_marked bytes ≡ true
  pub few : length bytes ≤ 10
  pub states : stated bytes ≡ n
  pub fits : n < 2 ^ 64

-- ---- the shortest one

-- a number as a varint of at most so many bytes
unfoldable pub varint_within : ℕ → ℕ → List ℕ
varint_within zero n = []
varint_within (suc more) n =
    if nat_lt n 128 then n ∷ [] else (n % 128 + 128) ∷ varint_within more (n / 128)

-- the shortest varint of a number of up to 64 bits
abbrev pub varint : ℕ → List ℕ
varint n = varint_within 10 n

-- ---- the one at the front of bytes

-- the lowest seven bits of a number, and then the others
abbrev pub before_high : ℕ → Option (ℕ × List ℕ) → Option (ℕ × List ℕ)
before_high low None = None
before_high low (Some high) = Some (low + 128 * high.0, high.1)

-- the number that a varint of at most so many bytes states at the front, however great, and what follows
unfoldable pub number_within : ℕ → List ℕ → Option (ℕ × List ℕ)
number_within zero bytes = None
number_within (suc more) [] = None
number_within (suc more) (byte ∷ rest) =
    if nat_lt byte 128 then Some (byte, rest) else before_high (byte % 128) (number_within more rest)

-- a number that was read, where it has up to 64 bits
abbrev pub of_64_bits : Option (ℕ × List ℕ) → Option (ℕ × List ℕ)
of_64_bits None = None
of_64_bits (Some read) = if nat_lt read.0 (2 ^ 64) then Some read else None

-- the number that a varint states at the front, and what follows
abbrev pub number_at : List ℕ → Option (ℕ × List ℕ)
number_at bytes = of_64_bits (number_within 10 bytes)

-- ---- the shortest one at the front of bytes

-- a number whose lowest seven bits and whose higher part are stated; a higher part of 0 isn't the
-- shortest form
abbrev pub above_low : ℕ → Option (ℕ × List ℕ) → Option (ℕ × List ℕ)
above_low low None = None
above_low low (Some high) = if high.0 == 0 then None else Some (low + 128 * high.0, high.1)

-- the number that a shortest varint of at most so many bytes states at the front, and what follows
unfoldable pub varint_in : ℕ → List ℕ → Option (ℕ × List ℕ)
varint_in zero bytes = None
varint_in (suc more) [] = None
varint_in (suc more) (byte ∷ rest) =
    if nat_lt byte 128 then Some (byte, rest) else above_low (byte - 128) (varint_in more rest)
