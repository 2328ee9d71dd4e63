-- Wrapped payments, as they are read: the transaction, and the places of its blobs (docs/RULES.md, "A block of the network").
use Rattle.std.specs.Prelude.{ℕ, zero, suc, ◌^◌, ◌&&◌, nat_le, nat_lt, Bool, List, [], ◌∷◌, length, Option, Some, None, if◌then◌else◌}
use Rattle.std.specs.List.{list_all}
use Rattle.std.specs.Option.{option_map_or}
use Rattle.std.specs.Str.{bytes_eq}
use Rattle.proto_fields.specs.Varints.{number_at}
use Rattle.proto_fields.specs.Fields.{last_bytes}
use Rattle.tx_list.specs.Reads.{fields_in}
use Rattle.tx_list.specs.Wrapped.{wrapped}

-- the numbers that varints state, one behind another, of at most so many: up to the first place where none is
unfoldable pub numbers_within : ℕ → List ℕ → List ℕ
numbers_within zero bytes = []
numbers_within (suc more) bytes = option_map_or (λ read. read.0 ∷ numbers_within more read.1) (number_at bytes) []

-- all of them: each takes a byte at least
abbrev pub numbers_in : List ℕ → List ℕ
numbers_in bytes = numbers_within (length bytes) bytes

-- the transaction in a wrapped payment
abbrev pub wrapped_tx : List ℕ → List ℕ
wrapped_tx unit = last_bytes 1 (fields_in unit)

-- the places of its blobs
abbrev pub wrapped_places : List ℕ → List ℕ
wrapped_places unit = numbers_in (last_bytes 2 (fields_in unit))

-- whether each of some numbers has 32 bits
abbrev pub are_small : List ℕ → Bool
are_small numbers = list_all (λ number. nat_lt number (2 ^ 32)) numbers

-- numbers, where each has 32 bits
abbrev pub small_numbers : List ℕ → Option (List ℕ)
small_numbers numbers = if are_small numbers then Some numbers else None

-- whether these are places of blobs: at least one
abbrev pub are_places : List ℕ → Bool
are_places places = nat_le 1 (length places) && are_small places

-- whether a unit is a wrapped payment: it is the one spelling of what is read of it
abbrev pub is_wrapper : List ℕ → Bool
is_wrapper unit = are_places (wrapped_places unit) && bytes_eq (wrapped (wrapped_tx unit) (wrapped_places unit)) unit
