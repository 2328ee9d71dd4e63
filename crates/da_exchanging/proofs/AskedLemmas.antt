-- Frames that ask, and frames that answer.
use Rattle.std.proofs.Common.{◌≡◌, true, [], ◌∷◌, IsSome, refl}
use Rattle.da_wire.specs.declared.frames.Frame.{Frame}
use Rattle.da_wire.specs.declared.frames.Frame.TheVariants.{Names, Sample, Request}
use Rattle.da_wire.specs.Spelling.{names_kind, sample_kind, request_kind}
use Rattle.da_wire.specs.Reading.{is_among}
use Rattle.da_wire.specs.Writing.{kind_of}
use Rattle.da_files.specs.Requests.{namespace_of}
use Rattle.da_exchanging.specs.Ids.{cell_of}
use Rattle.da_exchanging.specs.Answers.{ns_answer_of}

-- a frame of this kind asks for the sample of a cell
pub cell_there : (frame : Frame) → is_among (sample_kind ∷ []) (kind_of frame) ≡ true → IsSome (cell_of frame)
cell_there (Sample cell axis) e = refl
cell_there frame e = absurd cc

-- a frame of this kind asks for a namespace
pub name_there : (frame : Frame) → is_among (request_kind ∷ []) (kind_of frame) ≡ true → IsSome (namespace_of frame)
name_there (Request name) e = refl
name_there frame e = absurd cc

-- a frame of this kind answers for a namespace
pub answer_there : (frame : Frame) → is_among (names_kind ∷ []) (kind_of frame) ≡ true → IsSome (ns_answer_of frame)
answer_there (Names name entries) e = refl
answer_there frame e = absurd cc
