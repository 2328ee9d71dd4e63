-- A fraud claim as Celestia's message BadEncoding: the hash of a header in field 1, its height in field 2, each place of the accused
-- axis in a field 3, the index of the axis in field 4 and its kind in field 5. A claim has neither hash nor height: they are told.
use Rattle.std.specs.Prelude.{ℕ, zero, suc, ◌*◌, ◌/◌, ◌==◌, ◌&&◌, ◌||◌, nat_lt, Bool, true, false, List, ◌++◌, length, Option, Some, None, option_and_then, Result, Ok, Err, if◌then◌else◌}
use Rattle.std.specs.List.{list_all}
use Rattle.std.specs.Str.{bytes_eq}
use Rattle.namespace_id.specs.declared.cells.Axis.{Axis}
use Rattle.namespace_id.specs.declared.digests.Digest.{Digest}
use Rattle.namespace_id.specs.Cells.{is_width}
use Rattle.namespace_id.specs.Sizes.{greatest_width}
use Rattle.proto_fields.specs.Spelled.{bytes_field}
use Rattle.proto_fields.specs.Canonical.{number_text, begins_part, canonical_part}
use Rattle.axis_roots.specs.Messages.{position}
use Rattle.axis_roots.specs.Claims.{ClaimParts, has_shape}
use Rattle.celestia_pb.specs.declared.sample.Sample.{Sample}
use Rattle.celestia_pb.specs.declared.befp_entries.Accused.{Accused}
use Rattle.celestia_pb.specs.declared.befp_entries.Seen.{Seen}
use Rattle.celestia_pb.specs.declared.befp.Outline.{Outline}
use Rattle.celestia_pb.specs.Reading.{then_read, or_left, with_offset}
use Rattle.celestia_pb.specs.Messages.{number_left}
use Rattle.celestia_pb.specs.Samples.{axis_number}
use Rattle.celestia_pb.specs.BefpEntries.{axis_field, places_text, places_of, places_at, none_seen, cells_of, cells_read}

-- ---- written

-- whether a claim has no set
abbrev pub has_no_set : Option (List Digest) → Bool
has_no_set None = true
has_no_set (Some nodes) = false

-- whether a claim has a message: it has no set, and accuses an axis of a square of width k by exactly k cells of it, at ascending
-- places of the square
abbrev pub claim_has_message : ℕ → ClaimParts → Bool
claim_has_message k claim =
    is_width k && (has_no_set claim.set && (has_shape k claim && list_all (λ m. nat_lt (position claim.axis m.cell) (2 * k)) claim.cells))

-- the message of a claim of a square of width k, with this flag in each proof
abbrev pub befp_text : ℕ → ℕ → List ℕ → ℕ → ClaimParts → List ℕ
befp_text flag k hash height claim =
    bytes_field 1 hash
    ++ (number_text 2 height
    ++ (places_text flag (places_of claim.axis (2 * k) 0 claim.cells)
    ++ (number_text 4 claim.index ++ number_text 5 (axis_number claim.axis))))

-- ---- the accused axis, read

-- an index, where so many places are there
abbrev pub is_index : ℕ → ℕ → Bool
is_index count index = (index == 0) || nat_lt index count

-- the axis, where nothing follows
abbrev pub accused_end : ℕ → Axis → List ℕ → Result (Accused × List ℕ) ℕ
accused_end index axis rest = if length rest == 0 then Ok (record { axis = axis; index = index }, rest) else Err (length rest)

-- where the index was read
abbrev pub accused_kind : ℕ → List ℕ → Result (Accused × List ℕ) ℕ
accused_kind index bytes = then_read (accused_end index) (or_left bytes (axis_field 5 bytes))

-- the axis that the fields behind so many places accuse
abbrev pub accused_left : ℕ → List ℕ → Result (Accused × List ℕ) ℕ
accused_left count bytes = then_read accused_kind (number_left (is_index count) 4 bytes)

-- ---- looked up before the places are read

-- so many places and those in front, at most so many of these, and what follows
unfoldable pub count_at : ℕ → ℕ → List ℕ → Result (ℕ × List ℕ) ℕ
count_at count zero bytes = Ok (count, bytes)
count_at count (suc most) bytes =
    if begins_part 3 bytes
    then then_read (λ part rest. count_at (suc count) most rest) (or_left bytes (canonical_part 3 bytes))
    else Ok (count, bytes)

-- the axis, where it was read
abbrev pub if_accused : Result (Accused × List ℕ) ℕ → Option Accused
if_accused (Ok read) = Some read.0
if_accused (Err left) = None

-- of so many places half may have shares. Where they can't be counted, or the axis can't be read, any may be.
abbrev pub outline_of : Result (ℕ × List ℕ) ℕ → Outline
outline_of (Ok read) = record { most = read.0 / 2; accused = if_accused (accused_left read.0 read.1) }
outline_of (Err left) = record { most = greatest_width; accused = None }

abbrev pub outline_at : List ℕ → Outline
outline_at bytes = outline_of (count_at 0 (2 * greatest_width) bytes)

-- ---- the message, read

-- whether these are 2k places with k shares for a width k
abbrev pub has_places : ℕ → ℕ → Bool
has_places places shares = is_width (places / 2) && ((places == 2 * (places / 2)) && (shares == places / 2))

-- the claim of these places
abbrev pub claim_of_places : Accused → List (Option Sample) → ClaimParts
claim_of_places accused places = record { axis = accused.axis; index = accused.index; cells = cells_of accused 0 places; set = None }

-- the claim of places that were read
abbrev pub claim_read : Accused → Result ((List (Option Sample) × Seen) × List ℕ) ℕ → ClaimParts
claim_read accused read = record { axis = accused.axis; index = accused.index; cells = cells_read accused 0 read; set = None }

-- where the axis was read
abbrev pub befp_end : Bool → List (Option Sample) × Seen → Accused → List ℕ → Result ClaimParts ℕ
befp_end told read accused rest =
    if told && has_places read.1.place read.1.shares then Ok (claim_of_places accused read.0) else Err (length rest)

-- where the places were read
abbrev pub befp_axis : Bool → List (Option Sample) × Seen → List ℕ → Result ClaimParts ℕ
befp_axis told read bytes = then_read (befp_end told read) (accused_left read.1.place bytes)

-- places by an outline
abbrev pub places_by : Outline → List ℕ → Result ((List (Option Sample) × Seen) × List ℕ) ℕ
places_by outline bytes = places_at outline.accused outline.most (2 * greatest_width) none_seen bytes

-- where the height was read
abbrev pub befp_places : ℕ → Bool → ℕ → List ℕ → Result ClaimParts ℕ
befp_places height told number bytes = then_read (befp_axis (told && (number == height))) (places_by (outline_at bytes) bytes)

-- a height: none, or this one
abbrev pub is_height : ℕ → ℕ → Bool
is_height height number = (number == 0) || (number == height)

-- where the hash was read
abbrev pub befp_height : ℕ → Bool → List ℕ → Result ClaimParts ℕ
befp_height height told bytes = then_read (befp_places height told) (number_left (is_height height) 2 bytes)

-- this hash
abbrev pub if_this_hash : List ℕ → List ℕ × List ℕ → Option (Bool × List ℕ)
if_this_hash hash read = if bytes_eq read.0 hash then Some (true, read.1) else None

-- whether this hash is at the front, and what follows
abbrev pub hash_matches : List ℕ → List ℕ → Result (Bool × List ℕ) ℕ
hash_matches hash bytes =
    if begins_part 1 bytes then or_left bytes (option_and_then (if_this_hash hash) (canonical_part 1 bytes)) else Ok (false, bytes)

-- the claim that a message of this hash and this height is, or how many bytes are left from the first field that is wrong on
abbrev pub befp_left : List ℕ → ℕ → List ℕ → Result ClaimParts ℕ
befp_left hash height bytes = then_read (befp_height height) (hash_matches hash bytes)

-- the claim that a message is, or the offset of the first field that is wrong
abbrev pub befp_value : List ℕ → ℕ → List ℕ → Result ClaimParts ℕ
befp_value hash height bytes = with_offset (length bytes) (befp_left hash height bytes)
