-- Files that are lists of frames in the grammar, of some kinds (docs/FORMATS.md).
use Rattle.std.specs.Prelude.{◌≡◌, ℕ, List, [], drop, true, Option, IsSome}
use Rattle.std.specs.List.{flat_map}
use Rattle.std.specs.Option.{option_map, option_map_or}
use Rattle.da_wire.specs.declared.frames.Frame.{Frame}
use Rattle.da_wire.specs.Spelling.{spelling, IsFrame}
use Rattle.da_wire.specs.Reading.{is_among, tested_frame}
use Rattle.da_wire.specs.Writing.{kind_of}
use Rattle.da_wire.specs.Frames.{ok_of}
use Rattle.da_wire.specs.Walks.{walk_from, stop_from}

-- the value of the frame at the front, which is in the grammar and of one of these kinds, and its length
abbrev pub value_in : List ℕ → List ℕ → Option (Frame × ℕ)
value_in kinds bytes = ok_of (tested_frame (is_among kinds) 0 bytes)

-- the value of the frame at the front that is in the grammar and of one of these kinds, and the bytes
-- after it
abbrev pub value_and_rest : List ℕ → List ℕ → Option (Frame × List ℕ)
value_and_rest kinds bytes = option_map (λ x. (x.0, drop x.1 bytes)) (value_in kinds bytes)

-- the values of the frames of a file, one after another, up to the first place at which none in the
-- grammar and of one of these kinds stands
abbrev pub values_of : List ℕ → List ℕ → List Frame
values_of kinds bytes = walk_from (value_in kinds) 0 bytes

-- the offset of the first place at which no frame in the grammar and of one of these kinds stands though
-- bytes are left, none where the file is a list of such frames
abbrev pub bad_value : List ℕ → List ℕ → Option ℕ
bad_value kinds bytes = stop_from (value_in kinds) 0 0 bytes

-- the spelling of a value that has one
abbrev pub text_of : Frame → List ℕ
text_of value = option_map_or (λ text. text) (spelling value) []

-- the spellings of values, one after another
abbrev pub values_bytes : List Frame → List ℕ
values_bytes values = flat_map text_of values

-- a value of one of these kinds that can be written
pub record IsValue (kinds : List ℕ) (value : Frame) : Type 0 where
  pub is : IsFrame value
  pub kind : is_among kinds (kind_of value) ≡ true
  pub spelled : IsSome (spelling value)
