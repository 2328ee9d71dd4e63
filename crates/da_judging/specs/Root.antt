-- root HEADER, root HEADER ROOT: the data root of a header, and whether it is a given one.
use Rattle.std.specs.Prelude.{ℕ, List, Some, None, if◌then◌else◌}
use Rattle.std.specs.declared.option.Option.{Option}
use Rattle.std.specs.Str.{bytes_eq}
use Rattle.data_header.specs.Headers.{Roots}
use Rattle.data_header.specs.DataRoots.{data_root_of}
use Rattle.da_status.specs.declared.status.Status.TheVariants.{Done}
use Rattle.da_status.specs.Outcome.{Relation}
use Rattle.da_files.specs.Contents.{header_file}
use Rattle.da_files.specs.Frames.{header_in, WritesText}
use Rattle.da_files.specs.Forms.{Over}
use Rattle.da_files.specs.Lines.{root_line}
use Rattle.da_judging.specs.Verify.{verdict_line, verdict_status}

-- the number of the refusal of a header by the data root that it is to have: 1 where it has another one
abbrev pub root_refusal : Roots → List ℕ → Option ℕ
root_refusal header root = if bytes_eq (data_root_of header) root then None else Some 1

-- the line and the status for a header and the data root that it is to have
abbrev pub Ties : List ℕ → Roots → Relation
Ties root header = WritesText (verdict_status (root_refusal header root)) (verdict_line (root_refusal header root))

-- the line of a header's data root
abbrev pub TellsRoot : Roots → Relation
TellsRoot header = WritesText Done (root_line (data_root_of header))

-- what root answers to a HEADER that is a header: the line of its data root
abbrev pub RootOf : List (List ℕ) → Relation
RootOf files = Over (header_in (header_file files)) TellsRoot

-- what root answers to a HEADER that is a header and to a ROOT: whether this is its data root
abbrev pub RootIsOf : List ℕ → List (List ℕ) → Relation
RootIsOf root files = Over (header_in (header_file files)) (Ties root)
