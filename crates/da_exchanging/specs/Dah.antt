-- dah: a header as the message DataAvailabilityHeader, and its frame H.
use Rattle.std.specs.Prelude.{ℕ, List}
use Rattle.celestia_pb.specs.Headers.{dah_text, dah_value}
use Rattle.da_wire.specs.declared.frames.Frame.TheVariants.{Header}
use Rattle.da_status.specs.Outcome.{Relation}
use Rattle.da_files.specs.Frames.{header_in}
use Rattle.da_exchanging.specs.Made.{Frames, Texts}

-- what `import dah` answers to a FILE that is a message: the frame of its header
abbrev pub ImportDahOf : List (List ℕ) → Relation
ImportDahOf = Frames dah_value Header

-- what `export dah` answers to a FILE that is a header: its message
abbrev pub ExportDahOf : List (List ℕ) → Relation
ExportDahOf = Texts header_in dah_text
