-- header: an extended header of celestia-node as the message ExtendedHeader, and the frame H of its axis roots.
use Rattle.std.specs.Prelude.{ℕ, List, Some, None, MatchOption, if◌then◌else◌}
use Rattle.std.specs.declared.option.Option.{Option}
use Rattle.std.specs.Str.{bytes_eq}
use Rattle.data_header.specs.Headers.{Roots}
use Rattle.data_header.specs.DataRoots.{data_root_of}
use Rattle.celestia_pb.specs.declared.extended.Extended.{Extended}
use Rattle.celestia_pb.specs.Extended.{extended_value}
use Rattle.da_wire.specs.declared.frames.Frame.TheVariants.{Header}
use Rattle.da_status.specs.declared.status.Status.TheVariants.{Refused}
use Rattle.da_status.specs.Outcome.{Relation, Refuses}
use Rattle.da_files.specs.Contents.{file_of}
use Rattle.da_files.specs.Frames.{Writes}
use Rattle.da_files.specs.Forms.{Over}

-- the axis roots of an extended header, where its data hash is their data root
abbrev pub extended_roots : Extended → Option Roots
extended_roots extended = if bytes_eq (data_root_of extended.roots) extended.data_hash then Some extended.roots else None

-- the frame of these axis roots; where the data hash is another, nothing
abbrev pub WritesRoots : Extended → Relation
WritesRoots extended w status = MatchOption (extended_roots extended) (Refuses Refused w status) (λ roots. Writes (Header roots) w status)

-- what `import header` answers to a FILE that is an extended header
abbrev pub ImportHeaderOf : List (List ℕ) → Relation
ImportHeaderOf files = Over (extended_value (file_of files 0)) WritesRoots
