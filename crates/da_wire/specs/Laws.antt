-- What is spelled is read, and what is read is spelled.
use Rattle.std.specs.Prelude.{◌≡◌, ◌↔◌, ◌+◌, ◌<◌, ℕ, true, List, [], ◌++◌, length, take, drop, None, Some, Ok, Err}
use Rattle.std.specs.List.{AllByRecursion}
use Rattle.namespace_id.specs.Bytes.{AreBytes}
use Rattle.axis_roots.specs.declared.message.messages.Message.{Message}
use Rattle.axis_roots.specs.Messages.{IsMessage}
use Rattle.da_wire.specs.declared.frames.Frame.{Frame}
use Rattle.da_wire.specs.declared.frames.FrameError.{FrameError}
use Rattle.da_wire.specs.Spelling.{frame, spelling, IsFrame}
use Rattle.frame_fields.specs.Messages.{message_at}
use Rattle.frame_payloads.specs.kinds.Message.{message_payload}
use Rattle.da_wire.specs.Reading.{Raw, raw_of, is_among, tested_frame, frame_of, only_of}
use Rattle.da_wire.specs.Writing.{kind_of}
use Rattle.da_wire.specs.Frames.{frames_of, bad_frame, frames_bytes, IsRaw}
use Rattle.da_wire.specs.Values.{values_of, bad_value, values_bytes, IsValue}

-- what was spelled is read, whatever follows it
abbrev pub SpelledIsRead : Type 0
SpelledIsRead = (value : Frame) (text rest : List ℕ) (at : ℕ) → IsFrame value → spelling value ≡ Some text
    → frame_of at (text ++ rest) ≡ Ok (value, at + length text)

-- the front of bytes that are read
pub record IsSpelledFront (value : Frame) (at next : ℕ) (bytes : List ℕ) : Type 0 where
  pub text : List ℕ
  pub rest : List ℕ
  pub value_is : IsFrame value
  pub spelled : spelling value ≡ Some text
  pub parts : bytes ≡ text ++ rest
  pub end : next ≡ at + length text

-- what is read is spelled so at the front of the bytes, and has the bounds of its type
abbrev pub ReadIsSpelled : Type 0
ReadIsSpelled = (value : Frame) (at next : ℕ) (bytes : List ℕ) → AreBytes bytes → frame_of at bytes ≡ Ok (value, next)
    → IsSpelledFront value at next bytes

-- no spelling is a proper prefix of another, and two values have two spellings
abbrev pub OneSpelling : Type 0
OneSpelling = (value other : Frame) (text more : List ℕ) → IsFrame value → IsFrame other
    → spelling value ≡ Some text → spelling other ≡ Some (text ++ more) → (more ≡ []) × (value ≡ other)

-- bytes are read as the one frame of some kinds exactly where they are the spelling of a value of such a
-- kind
abbrev pub OnlyIsSpelled : Type 0
OnlyIsSpelled = (value : Frame) (bytes kinds : List ℕ) → AreBytes bytes
    → (only_of bytes kinds ≡ Ok value)
    ↔ (IsFrame value × (spelling value ≡ Some bytes) × (is_among kinds (kind_of value) ≡ true))

-- the spelling of a value of one of some kinds is read as the one frame, whatever its bytes
abbrev pub SpelledIsOnly : Type 0
SpelledIsOnly = (value : Frame) (bytes kinds : List ℕ) → IsFrame value → spelling value ≡ Some bytes
    → is_among kinds (kind_of value) ≡ true → only_of bytes kinds ≡ Ok value

-- the payload of a sample is read as the sample
abbrev pub MessageIsRead : Type 0
MessageIsRead = (m : Message) → IsMessage m → message_at (message_payload m) ≡ Some m

-- a sample that is read of a payload is what the payload spells
abbrev pub MessageIsSpelled : Type 0
MessageIsSpelled = (payload : List ℕ) (m : Message) → AreBytes payload → message_at payload ≡ Some m
    → IsMessage m × (payload ≡ message_payload m)

-- a file that is a list of frames is exactly these frames, one after another
abbrev pub FramesAreTheFile : Type 0
FramesAreTheFile = (bytes : List ℕ) → AreBytes bytes → bad_frame bytes ≡ None
    → (frames_bytes (frames_of bytes) ≡ bytes) × AllByRecursion IsRaw (frames_of bytes)

-- frames, one after another, are a file that is a list of frames
abbrev pub FilesAreFrames : Type 0
FilesAreFrames = (frames : List Raw) → AllByRecursion IsRaw frames
    → (bad_frame (frames_bytes frames) ≡ None) × (frames_of (frames_bytes frames) ≡ frames)

-- before the first place at which no frame stands there are frames alone, and there none stands
abbrev pub BadFrameIsFirst : Type 0
BadFrameIsFirst = (bytes : List ℕ) (at : ℕ) → AreBytes bytes → bad_frame bytes ≡ Some at
    → (at < length bytes) × (frames_bytes (frames_of bytes) ≡ take at bytes)
    × AllByRecursion IsRaw (frames_of bytes) × (e : FrameError) × (raw_of at (drop at bytes) ≡ Err e)

-- a frame of any kind is at the front of bytes exactly where they begin with its bytes
abbrev pub RawIsFrame : Type 0
RawIsFrame = (at : ℕ) (bytes : List ℕ) (raw : Raw) → AreBytes bytes
    → (raw_of at bytes ≡ Ok raw)
    ↔ (IsRaw raw × (rest : List ℕ) × (bytes ≡ frame raw.kind raw.payload ++ rest))

-- ---- files that are lists of frames in the grammar, of some kinds

-- a file that is a list of frames of some kinds is exactly their values' spellings, one after another
abbrev pub ValuesAreTheFile : Type 0
ValuesAreTheFile = (kinds bytes : List ℕ) → AreBytes bytes → bad_value kinds bytes ≡ None
    → (values_bytes (values_of kinds bytes) ≡ bytes)
    × AllByRecursion (IsValue kinds) (values_of kinds bytes)

-- the spellings of values of some kinds, one after another, are a file that is a list of such frames
abbrev pub FilesAreValues : Type 0
FilesAreValues = (kinds : List ℕ) (values : List Frame) → AllByRecursion (IsValue kinds) values
    → (bad_value kinds (values_bytes values) ≡ None)
    × (values_of kinds (values_bytes values) ≡ values)

-- before the first place at which no frame of some kinds stands there are such frames alone, and there
-- none stands
abbrev pub BadValueIsFirst : Type 0
BadValueIsFirst = (kinds bytes : List ℕ) (at : ℕ) → AreBytes bytes → bad_value kinds bytes ≡ Some at
    → (at < length bytes) × (values_bytes (values_of kinds bytes) ≡ take at bytes)
    × AllByRecursion (IsValue kinds) (values_of kinds bytes)
    × (e : FrameError) × (tested_frame (is_among kinds) at (drop at bytes) ≡ Err e)
