-- row-data: what is found of a namespace in one row as the message RowNamespaceData, which says neither, and its frame N, the answer for
-- the namespace that has the one entry of this row.
use Rattle.std.specs.Prelude.{ℕ, List, [], ◌∷◌, Some, None, if◌then◌else◌}
use Rattle.std.specs.declared.option.Option.{Option}
use Rattle.namespace_id.specs.declared.namespaces.Namespace.{Namespace}
use Rattle.axis_roots.specs.declared.answers.NsEntry.{NsEntry}
use Rattle.celestia_pb.specs.RowData.{found_has_message, found_message, row_value}
use Rattle.da_wire.specs.declared.frames.Frame.{Frame}
use Rattle.da_wire.specs.declared.frames.Frame.TheVariants.{Names}
use Rattle.da_status.specs.Outcome.{Relation}
use Rattle.da_exchanging.specs.Made.{Frames, TextsIf}
use Rattle.da_exchanging.specs.Answers.{ns_answer_in}

-- the frame of the answer for a namespace that has this one entry
abbrev pub row_frame : Namespace → NsEntry → Frame
row_frame name entry = Names name (entry ∷ [])

-- the message of an entry, where it has one
abbrev pub entry_message : NsEntry → Option (List ℕ)
entry_message entry = if found_has_message entry.found then Some (found_message entry.found) else None

-- the message of the one entry of an answer; none has an answer of no entries or of several
abbrev pub answer_message : List NsEntry → Option (List ℕ)
answer_message [] = None
answer_message (entry ∷ []) = entry_message entry
answer_message (entry ∷ other ∷ entries) = None

-- what `import row-data` answers to a FILE that is a message: the answer that has its entry of this row
abbrev pub ImportRowDataOf : ℕ → Namespace → List (List ℕ) → Relation
ImportRowDataOf row name = Frames (row_value row) (row_frame name)

-- what `export row-data` answers to a FILE that is an answer: the message of its one entry, where it has one
abbrev pub ExportRowDataOf : List (List ℕ) → Relation
ExportRowDataOf = TextsIf ns_answer_in (λ read. answer_message read.1)
