-- The places of a message BadEncoding: for each place of the accused axis a share with its proof and the axis that this is along, or
-- nothing. In their proofs stands the flag that the parity namespace is passed over: in those of all shares, or of none.
use Rattle.std.specs.Prelude.{ℕ, zero, suc, ◌+◌, ◌==◌, ◌&&◌, ◌||◌, nat_lt, Bool, true, false, List, [], ◌∷◌, ◌++◌, length, flat_map, Option, Some, None, option_map, option_and_then, Result, Ok, Err, if◌then◌else◌}
use Rattle.namespace_id.specs.declared.cells.Axis.{Axis}
use Rattle.namespace_id.specs.declared.cells.Cell.{Cell}
use Rattle.namespace_id.specs.declared.digests.Digest.{Digest}
use Rattle.namespace_id.specs.declared.shares.Share.{Share}
use Rattle.namespace_id.specs.Sizes.{most_depth}
use Rattle.proto_fields.specs.Spelled.{bytes_field}
use Rattle.proto_fields.specs.Canonical.{number_text, begins_part, canonical_number, canonical_part}
use Rattle.axis_roots.specs.declared.message.messages.Message.{Message}
use Rattle.axis_roots.specs.Messages.{position}
use Rattle.axis_roots.specs.Lines.{cell_on}
use Rattle.celestia_pb.specs.declared.sample.Sample.{Sample}
use Rattle.celestia_pb.specs.declared.befp_entries.Accused.{Accused}
use Rattle.celestia_pb.specs.declared.befp_entries.Seen.{Seen}
use Rattle.celestia_pb.specs.Reading.{then_read, or_left}
use Rattle.celestia_pb.specs.Digests.{digests_text, digests_at}
use Rattle.celestia_pb.specs.Messages.{number_left, before_rest, optional_message}
use Rattle.celestia_pb.specs.Inclusions.{is_place_stated, place_stated, is_stop}
use Rattle.celestia_pb.specs.Samples.{axis_number, share_front, axis_of_number, place_wanted}

-- ---- written

-- the message of a proof of the leaf at a place, with this flag
abbrev pub proof_text : ℕ → ℕ → List Digest → List ℕ
proof_text flag start nodes = number_text 1 start ++ (number_text 2 (start + 1) ++ (digests_text 3 nodes ++ number_text 5 flag))

-- the message of a share with its proof
abbrev pub befp_entry : ℕ → Message → List ℕ
befp_entry flag m =
    bytes_field 1 m.share.0
    ++ (bytes_field 2 (proof_text flag (position m.axis m.cell) m.path) ++ number_text 3 (axis_number m.axis))

-- the bytes of a place: none where it has no share
abbrev pub befp_place : ℕ → Option Message → List ℕ
befp_place flag None = []
befp_place flag (Some m) = befp_entry flag m

-- the fields of places
abbrev pub places_text : ℕ → List (Option Message) → List ℕ
places_text flag places = flat_map (λ (place : Option Message). bytes_field 3 (befp_place flag place)) places

-- the sample at a place of an axis: the first of these, if its cell is there
abbrev pub shown_at : Axis → ℕ → List Message → Option Message
shown_at axis place [] = None
shown_at axis place (m ∷ cells) = if position axis m.cell == place then Some m else None

-- those behind the place
abbrev pub behind_place : Axis → ℕ → List Message → List Message
behind_place axis place [] = []
behind_place axis place (m ∷ cells) = if position axis m.cell == place then cells else m ∷ cells

-- so many places of an axis from one on, each with its sample, if there is one; the samples stand by ascending places
unfoldable pub places_of : Axis → ℕ → ℕ → List Message → List (Option Message)
places_of axis zero place cells = []
places_of axis (suc count) place cells = shown_at axis place cells ∷ places_of axis count (suc place) (behind_place axis place cells)

-- ---- a proof, read

-- a flag: none, or that of the proofs before, if there is one
abbrev pub is_mark : Option ℕ → ℕ → Bool
is_mark None flag = (flag == 0) || (flag == 1)
is_mark (Some mark) flag = (flag == 0) || (flag == mark)

-- whether all of a proof of one leaf is there, and nothing else is
abbrev pub is_proof : ℕ → ℕ → ℕ → ℕ → ℕ → ℕ → Bool
is_proof place mark start stop flag left = (left == 0) && ((start == place) && ((stop == place + 1) && (flag == mark)))

-- where the flag was read
abbrev pub proof_end : Option ℕ → Option ℕ → ℕ → ℕ → List Digest → ℕ → List ℕ → Result (List Digest × ℕ) ℕ
proof_end wanted mark start stop nodes flag rest =
    if is_proof (place_stated wanted start) (place_stated mark flag) start stop flag (length rest) then Ok (nodes, flag) else Err (length rest)

-- where the nodes were read
abbrev pub proof_flag : Option ℕ → Option ℕ → ℕ → ℕ → List Digest → List ℕ → Result (List Digest × ℕ) ℕ
proof_flag wanted mark start stop nodes bytes = then_read (proof_end wanted mark start stop nodes) (number_left (is_mark mark) 5 bytes)

-- where the place behind the leaf was read
abbrev pub proof_nodes : Option ℕ → Option ℕ → ℕ → ℕ → List ℕ → Result (List Digest × ℕ) ℕ
proof_nodes wanted mark start stop bytes = then_read (proof_flag wanted mark start stop) (digests_at 3 most_depth bytes)

-- where the place of the leaf was read
abbrev pub proof_stop : Option ℕ → Option ℕ → ℕ → List ℕ → Result (List Digest × ℕ) ℕ
proof_stop wanted mark start bytes =
    then_read (proof_nodes wanted mark start) (number_left (is_stop (place_stated wanted start) 1) 2 bytes)

-- the nodes and the flag of a proof of one leaf, of the one that is wanted and with the flag before it, if these are known
abbrev pub proof_left : Option ℕ → Option ℕ → List ℕ → Result (List Digest × ℕ) ℕ
proof_left wanted mark bytes = then_read (proof_stop wanted mark) (number_left (is_place_stated wanted) 1 bytes)

-- ---- a share with its proof, read

-- the axis that the number of a field is, and what follows
abbrev pub axis_field : ℕ → List ℕ → Option (Axis × List ℕ)
axis_field n bytes = option_and_then axis_of_number (canonical_number n bytes)

-- the place that a proof has to show, where its cell and its axis, which follows, are known
abbrev pub start_wanted : Option Cell → List ℕ → Option ℕ
start_wanted cell rest = option_and_then (λ (c : Cell). place_wanted c (axis_field 3 rest)) cell

-- a share that was read
abbrev pub some_share : Result (Share × List ℕ) ℕ → Result (Option Share × List ℕ) ℕ
some_share (Ok read) = Ok (Some read.0, read.1)
some_share (Err left) = Err left

-- the share at the front, if one is there, and what follows
abbrev pub data_at : List ℕ → Result (Option Share × List ℕ) ℕ
data_at bytes = if begins_part 1 bytes then some_share (or_left bytes (share_front bytes)) else Ok (None, bytes)

-- the sample of these and the flag of its proof, where both are there and nothing follows
abbrev pub befp_sample : Option Share → Option (List Digest × ℕ) → Axis → List ℕ → Result (Sample × ℕ) ℕ
befp_sample None proof axis rest = Err (length rest)
befp_sample (Some share) None axis rest = Err (length rest)
befp_sample (Some share) (Some proof) axis rest =
    if length rest == 0 then Ok (record { axis = axis; share = share; path = proof.0 }, proof.1) else Err (length rest)

-- where the proof was read
abbrev pub entry_axis : Option Share → Option (List Digest × ℕ) → List ℕ → Result (Sample × ℕ) ℕ
entry_axis share proof bytes = then_read (befp_sample share proof) (or_left bytes (axis_field 3 bytes))

-- where the share was read
abbrev pub entry_proof : Option Cell → Option ℕ → Option Share → List ℕ → Result (Sample × ℕ) ℕ
entry_proof cell mark share bytes =
    then_read (entry_axis share) (optional_message (λ rest part. proof_left (start_wanted cell rest) mark part) 2 bytes)

-- the sample that a message is, and the flag of its proof
abbrev pub entry_left : Option Cell → Option ℕ → List ℕ → Result (Sample × ℕ) ℕ
entry_left cell mark bytes = then_read (entry_proof cell mark) (data_at bytes)

-- ---- places, read

-- the cell at a place of the accused axis, where this is known
abbrev pub accused_cell : Option Accused → ℕ → Option Cell
accused_cell accused place = option_map (λ (a : Accused). cell_on a.axis a.index place) accused

-- one place more, and one share more if one is there
abbrev pub seen_place : Seen → Option (Sample × ℕ) → Seen
seen_place seen None = record { place = suc seen.place; shares = seen.shares; mark = seen.mark }
seen_place seen (Some entry) = record { place = suc seen.place; shares = suc seen.shares; mark = Some entry.1 }

-- the sample of a place, if it has one, and what was seen with it
abbrev pub step_of : Seen → Option (Sample × ℕ) → List ℕ → Result ((Option Sample × Seen) × List ℕ) ℕ
step_of seen entry rest = Ok ((option_map (λ (e : Sample × ℕ). e.0) entry, seen_place seen entry), rest)

-- what the bytes of a place are: nothing, or one more of at most so many shares
abbrev pub part_left : Option Accused → ℕ → Seen → List ℕ → List ℕ → List ℕ → Result (Option (Sample × ℕ) × List ℕ) ℕ
part_left accused most seen bytes part rest =
    if length part == 0
    then Ok (None, rest)
    else (if nat_lt seen.shares most
    then before_rest rest (entry_left (accused_cell accused seen.place) seen.mark part)
    else Err (length bytes))

-- the place at the front
abbrev pub step_left : Option Accused → ℕ → Seen → List ℕ → Result ((Option Sample × Seen) × List ℕ) ℕ
step_left accused most seen bytes =
    then_read (step_of seen) (then_read (part_left accused most seen bytes) (or_left bytes (canonical_part 3 bytes)))

-- a place before others
abbrev pub with_place : Option Sample → Result ((List (Option Sample) × Seen) × List ℕ) ℕ → Result ((List (Option Sample) × Seen) × List ℕ) ℕ
with_place entry (Ok others) = Ok ((entry ∷ others.0.0, others.0.1), others.1)
with_place entry (Err left) = Err left

-- a place that was read, and the others
abbrev pub before_places : (Seen → List ℕ → Result ((List (Option Sample) × Seen) × List ℕ) ℕ) → Option Sample × Seen → List ℕ
    → Result ((List (Option Sample) × Seen) × List ℕ) ℕ
before_places others step rest = with_place step.0 (others step.1 rest)

-- the places in front, at most so many, with at most so many shares; what was seen in the end; and what follows
unfoldable pub places_at : Option Accused → ℕ → ℕ → Seen → List ℕ → Result ((List (Option Sample) × Seen) × List ℕ) ℕ
places_at accused most zero seen bytes = Ok (([], seen), bytes)
places_at accused most (suc count) seen bytes =
    if begins_part 3 bytes
    then then_read (before_places (places_at accused most count)) (step_left accused most seen bytes)
    else Ok (([], seen), bytes)

-- before the first place
abbrev pub none_seen : Seen
none_seen = record { place = 0; shares = 0; mark = None }

-- ---- as samples of cells

-- the samples of these places of the accused axis from one on, each with its cell
abbrev pub cells_of : Accused → ℕ → List (Option Sample) → List Message
cells_of accused place [] = []
cells_of accused place (None ∷ places) = cells_of accused (suc place) places
cells_of accused place (Some s ∷ places) =
    record { cell = cell_on accused.axis accused.index place; axis = s.axis; share = s.share; path = s.path } ∷ cells_of accused (suc place) places

-- the samples of places that were read
abbrev pub cells_read : Accused → ℕ → Result ((List (Option Sample) × Seen) × List ℕ) ℕ → List Message
cells_read accused place (Ok read) = cells_of accused place read.0.0
cells_read accused place (Err left) = []

-- whether they were read
abbrev pub has_read : Result ((List (Option Sample) × Seen) × List ℕ) ℕ → Bool
has_read (Ok read) = true
has_read (Err left) = false

-- what was seen of them
abbrev pub seen_read : Result ((List (Option Sample) × Seen) × List ℕ) ℕ → Result (Seen × List ℕ) ℕ
seen_read (Ok read) = Ok (read.0.1, read.1)
seen_read (Err left) = Err left
