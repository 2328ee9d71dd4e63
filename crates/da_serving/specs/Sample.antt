-- sample SQUARE REQUESTS: the samples of a square that are asked for.
use Rattle.std.specs.Prelude.{◌≡◌, ◌*◌, ℕ, List, [], ◌∷◌, Bool, Some, None}
use Rattle.std.specs.declared.option.Option.{Option}
use Rattle.std.specs.List.{filter_map}
use Rattle.namespace_id.specs.declared.cells.Cell.{Cell}
use Rattle.namespace_id.specs.declared.cells.Axis.{Axis}
use Rattle.namespace_id.specs.declared.shares.Share.{Share}
use Rattle.namespace_id.specs.Cells.{is_in_square}
use Rattle.data_header.specs.Headers.{Roots}
use Rattle.square_layout.specs.Blocks.{SquareShares}
use Rattle.axis_roots.specs.declared.message.messages.Message as sent
use Rattle.axis_roots.specs.Grids.{Extends, share_at}
use Rattle.axis_roots.specs.Openings.{IsProved}
use Rattle.da_wire.specs.declared.frames.Frame.{Frame}
use Rattle.da_wire.specs.declared.frames.Frame.TheVariants.{Message, Sample}
use Rattle.da_wire.specs.Spelling.{sample_kind}
use Rattle.da_wire.specs.Values.{values_of}
use Rattle.da_status.specs.Outcome.{Relation}
use Rattle.da_files.specs.Frames.{square_in}
use Rattle.da_files.specs.Forms.{Over}
use Rattle.da_serving.specs.Serving.{requests_file, Serves}
use Rattle.da_files.specs.Contents.{square_file}

-- the sample that a frame asks for
abbrev pub asked_sample : Frame → Option (Cell × Axis)
asked_sample (Sample cell axis) = Some (cell, axis)
asked_sample frame = None

-- the frame that asks for a sample
abbrev pub sample_request : Cell × Axis → Frame
sample_request asked = Sample asked.0 asked.1

-- the samples that a file asks for
abbrev pub samples_in : List ℕ → List (Cell × Axis)
samples_in bytes = filter_map asked_sample (values_of (sample_kind ∷ []) bytes)

-- whether the square has the cell that is asked for
abbrev pub is_asked_inside : SquareShares → Cell × Axis → Bool
is_asked_inside square asked = is_in_square square.k asked.0

-- a sample is of the cell and the axis that are asked for, shows the share that the square's extension has at the
-- cell, and is proved under the header
pub record IsServedSample (square : SquareShares) (header : Roots) (asked : Cell × Axis) (m : sent.Message) : Type 0 where
  pub cell : m.cell ≡ asked.0
  pub axis : m.axis ≡ asked.1
  pub grid : List Share
  pub extends : Extends square.k square.shares grid
  pub share : m.share ≡ share_at (2 * square.k) grid m.cell
  pub proved : IsProved header m

-- the frames that a request for a sample allows
abbrev pub AllowsSample : SquareShares → Roots → Cell × Axis → Frame → Type 0
AllowsSample square header asked frame = (m : sent.Message) × IsServedSample square header asked m × (frame ≡ Message m)

-- what sample answers to a SQUARE that is a square: an M frame for each request, in their order
abbrev pub SampleOf : List (List ℕ) → Relation
SampleOf files = Over (square_in (square_file files))
    (λ square. Serves square (is_asked_inside square) (AllowsSample square) (samples_in (requests_file files)))
