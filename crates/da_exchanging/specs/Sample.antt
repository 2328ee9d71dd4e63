-- sample: a sample of a cell as the message Sample, which doesn't say the cell, and its frame M, which does.
use Rattle.std.specs.Prelude.{ℕ, List}
use Rattle.namespace_id.specs.declared.cells.Cell.{Cell}
use Rattle.celestia_pb.specs.declared.sample.Sample.{Sample}
use Rattle.celestia_pb.specs.Samples.{sample_text, sample_value}
use Rattle.axis_roots.specs.declared.message.messages.Message as sent
use Rattle.da_wire.specs.declared.frames.Frame.{Frame}
use Rattle.da_wire.specs.declared.frames.Frame.TheVariants.{Message}
use Rattle.da_status.specs.Outcome.{Relation}
use Rattle.da_files.specs.Frames.{message_in}
use Rattle.da_exchanging.specs.Made.{Frames, Texts}

-- the frame of a sample of a cell
abbrev pub sample_frame : Cell → Sample → Frame
sample_frame cell sample = Message (record { cell = cell; axis = sample.axis; share = sample.share; path = sample.path })

-- the message of a sample
abbrev pub message_text : sent.Message → List ℕ
message_text m = sample_text m.cell (record { axis = m.axis; share = m.share; path = m.path })

-- what `import sample` answers to a FILE that is a message of this cell: the frame of its sample
abbrev pub ImportSampleOf : Cell → List (List ℕ) → Relation
ImportSampleOf cell = Frames (sample_value cell) (sample_frame cell)

-- what `export sample` answers to a FILE that is a sample: its message
abbrev pub ExportSampleOf : List (List ℕ) → Relation
ExportSampleOf = Texts message_in message_text
