-- A sample as Celestia's message Sample: the share, as a message of its own, in field 1, its proof in field 2, and its axis in field 3.
-- The cell isn't in it: it is that of the request.
use Rattle.std.specs.Prelude.{ℕ, ◌==◌, ◌≤◌, List, ◌++◌, length, Option, Some, None, option_map, option_and_then, Result, Ok, Err, if◌then◌else◌}
use Rattle.namespace_id.specs.declared.cells.Axis.{Axis}
use Rattle.namespace_id.specs.declared.cells.Axis.TheVariants.{Row, Col}
use Rattle.namespace_id.specs.declared.cells.Cell.{Cell}
use Rattle.namespace_id.specs.declared.digests.Digest.{Digest}
use Rattle.namespace_id.specs.declared.shares.Share.{Share}
use Rattle.namespace_id.specs.Digests.{AreDigests}
use Rattle.namespace_id.specs.Shares.{IsShare}
use Rattle.namespace_id.specs.Sizes.{share_size, most_depth}
use Rattle.proto_fields.specs.Spelled.{bytes_field}
use Rattle.proto_fields.specs.Canonical.{number_text, canonical_number, canonical_part}
use Rattle.celestia_pb.specs.declared.sample.Sample.{Sample}
use Rattle.celestia_pb.specs.Reading.{then_read, or_left, with_offset}
use Rattle.celestia_pb.specs.Messages.{optional_message}
use Rattle.celestia_pb.specs.Inclusions.{inclusion_text, inclusion_left}

-- a sample has a share and up to so many digests
pub record IsSample (sample : Sample) : Type 0 where
  pub share : IsShare sample.share
  pub few : length sample.path ≤ most_depth
  pub nodes : AreDigests sample.path

-- ---- written

-- the message Share
abbrev pub share_message : Share → List ℕ
share_message share = bytes_field 1 share.0

-- the number of an axis
abbrev pub axis_number : Axis → ℕ
axis_number Row = 0
axis_number Col = 1

-- the place of a cell on its row or its column
abbrev pub place_on : Axis → Cell → ℕ
place_on Row cell = cell.col
place_on Col cell = cell.row

-- the message of a sample of a cell
abbrev pub sample_text : Cell → Sample → List ℕ
sample_text cell sample =
    bytes_field 1 (share_message sample.share)
    ++ (bytes_field 2 (inclusion_text (place_on sample.axis cell) 1 sample.path) ++ number_text 3 (axis_number sample.axis))

-- ---- read

-- bytes that were read, where they are those of a share
abbrev pub if_share : List ℕ × List ℕ → Option (Share × List ℕ)
if_share read = if length read.0 == share_size then Some (record { 0 = read.0 }, read.1) else None

-- the share at the front, and what follows
abbrev pub share_front : List ℕ → Option (Share × List ℕ)
share_front bytes = option_and_then if_share (canonical_part 1 bytes)

-- the share that a message is
abbrev pub share_end : Share → List ℕ → Result Share ℕ
share_end share rest = if length rest == 0 then Ok share else Err (length rest)

abbrev pub share_left : List ℕ → Result Share ℕ
share_left bytes = then_read share_end (or_left bytes (share_front bytes))

-- the axis that a number is
abbrev pub axis_of_number : ℕ × List ℕ → Option (Axis × List ℕ)
axis_of_number read = if read.0 == 0 then Some (Row, read.1) else (if read.0 == 1 then Some (Col, read.1) else None)

-- the axis at the front, and what follows
abbrev pub axis_at : List ℕ → Option (Axis × List ℕ)
axis_at bytes = option_and_then axis_of_number (canonical_number 3 bytes)

-- the place that a proof has to show, where the axis is known
abbrev pub place_wanted : Cell → Option (Axis × List ℕ) → Option ℕ
place_wanted cell axis = option_map (λ read. place_on read.0 cell) axis

-- the nodes of a proof that was read
abbrev pub only_nodes : Result (ℕ × List Digest) ℕ → Result (List Digest) ℕ
only_nodes (Ok read) = Ok read.1
only_nodes (Err left) = Err left

-- the nodes of a proof of the leaf of a cell, whose axis follows
abbrev pub path_left : Cell → List ℕ → List ℕ → Result (List Digest) ℕ
path_left cell rest bytes = only_nodes (inclusion_left (place_wanted cell (axis_at rest)) 1 most_depth bytes)

-- the sample of these, where both are there and nothing follows
abbrev pub sample_of : Option Share → Option (List Digest) → Axis → List ℕ → Result Sample ℕ
sample_of None path axis rest = Err (length rest)
sample_of (Some share) None axis rest = Err (length rest)
sample_of (Some share) (Some path) axis rest =
    if length rest == 0 then Ok (record { axis = axis; share = share; path = path }) else Err (length rest)

-- where the proof was read
abbrev pub sample_axis : Option Share → Option (List Digest) → List ℕ → Result Sample ℕ
sample_axis share path bytes = then_read (sample_of share path) (or_left bytes (axis_at bytes))

-- where the share was read
abbrev pub sample_path : Cell → Option Share → List ℕ → Result Sample ℕ
sample_path cell share bytes = then_read (sample_axis share) (optional_message (path_left cell) 2 bytes)

-- the sample that a message is, or how many bytes are left from the first field that is wrong on
abbrev pub sample_left : Cell → List ℕ → Result Sample ℕ
sample_left cell bytes = then_read (sample_path cell) (optional_message (λ rest part. share_left part) 1 bytes)

-- the sample that a message is, or the offset of the first field that is wrong
abbrev pub sample_value : Cell → List ℕ → Result Sample ℕ
sample_value cell bytes = with_offset (length bytes) (sample_left cell bytes)
