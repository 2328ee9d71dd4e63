-- Files that are one namespace answer.
use Rattle.std.specs.Prelude.{ℕ, List, [], ◌∷◌, Some, None, Result}
use Rattle.std.specs.declared.option.Option.{Option}
use Rattle.namespace_id.specs.declared.namespaces.Namespace as names
use Rattle.axis_roots.specs.declared.answers.NsEntry.{NsEntry}
use Rattle.da_wire.specs.declared.frames.Frame.{Frame}
use Rattle.da_wire.specs.declared.frames.Frame.TheVariants.{Names}
use Rattle.da_wire.specs.Spelling.{names_kind}
use Rattle.da_wire.specs.Reading.{only_of}
use Rattle.da_files.specs.Frames.{single_file}

-- the namespace that a frame answers for, and the entries of the answer
abbrev pub ns_answer_of : Frame → Option (names.Namespace × List NsEntry)
ns_answer_of (Names name entries) = Some (name, entries)
ns_answer_of frame = None

-- those of the one frame of an answer that a file is, or where it stops being one
abbrev pub ns_answer_in : List ℕ → Result (names.Namespace × List NsEntry) ℕ
ns_answer_in bytes = single_file ns_answer_of (only_of bytes (names_kind ∷ []))
