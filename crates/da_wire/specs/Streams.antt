-- Streams of frames: bytes that come in pieces, cut anywhere (docs/FORMATS.md, "Streams of frames").
use Rattle.std.specs.Prelude.{◌≡◌, ◌↔◌, ℕ, ◌+◌, ◌<◌, nat_le, List, [], ◌∷◌, ◌++◌, length, take, drop, map, ⊤, if◌then◌else◌, Option, Some, None, Result, Ok, Err}
use Rattle.std.specs.List.{flat_map}
use Rattle.std.specs.Option.{option_map_or}
use Rattle.namespace_id.specs.Bytes.{AreBytes}
use Rattle.da_wire.specs.declared.frames.FrameError.{FrameError}
use Rattle.da_wire.specs.declared.frames.FrameError.TheVariants.{Truncated, BadKind, TooLong, BadPayload, Trailing, NoMemory}
use Rattle.axis_roots.specs.declared.message.messages.Message.{Message}
use Rattle.frame_fields.specs.Fields.{◌>>=◌}
use Rattle.frame_payloads.specs.kinds.Message.{most_message}
use Rattle.da_wire.specs.declared.streams.Pushed.{Pushed}
use Rattle.da_wire.specs.declared.streams.Pushed.TheVariants as pushed
use Rattle.da_wire.specs.Reading.{Raw, raw_of}
use Rattle.da_wire.specs.Frames.{frames_of, bad_frame, raw_message}
use Rattle.da_wire.specs.StreamParts.{StreamParts, kept_front, under_way, front_frame}

-- the last of a list, if there is one
abbrev pub last_of : {A : Type 0} → List A → Option A
last_of [] = None
last_of (x ∷ xs) = option_map_or Some (last_of xs) (Some x)

-- the frame that bytes end with, where they are whole frames, at least one
abbrev pub last_frame : List ℕ → Option Raw
last_frame bytes = option_map_or (λ at. None) (bad_frame bytes) (last_of (frames_of bytes))

-- a frame, where its payload is no longer than the longest sample's
abbrev pub if_short : Raw → Option Raw
if_short frame = if nat_le (length frame.payload) most_message then Some frame else None

-- what a stream of these bytes tells of the frame that they end with
abbrev pub kept_frame : List ℕ → Option Raw
kept_frame bytes = last_frame bytes >>= if_short

-- a stream stands for the bytes that its pushes took: those before the frame under way are whole frames,
-- and of those after them it keeps as many as its room holds; where none is under way it keeps the frame
-- that ended
pub record StreamStands (stream : StreamParts) (bytes : List ℕ) : Type 0 where
  pub fits : AreBytes bytes
  pub count : stream.taken ≡ length bytes
  pub whole : bad_frame (take stream.at bytes) ≡ None
  pub front : take kept_front (drop stream.at bytes) ≡ take (under_way stream) stream.front
  pub kept : 0 < stream.taken → stream.at ≡ stream.taken → kept_frame bytes ≡ front_frame stream.front

-- why a reader refused
abbrev pub err_of : {A E : Type 0} → Result A E → Option E
err_of (Ok x) = None
err_of (Err e) = Some e

-- why no frame stands at a place of a file
abbrev pub refusal_at : List ℕ → Option ℕ → Option FrameError
refusal_at bytes None = None
refusal_at bytes (Some at) = err_of (raw_of at (drop at bytes))

-- why no frame stands at the first place at which none does though bytes are left, none where the file is
-- a list of frames
abbrev pub why_no_frame : List ℕ → Option FrameError
why_no_frame bytes = refusal_at bytes (bad_frame bytes)

-- the offset that a refusal names
abbrev pub offset_of : FrameError → ℕ
offset_of (Truncated at) = at
offset_of (BadKind at) = at
offset_of (TooLong at) = at
offset_of (BadPayload at) = at
offset_of (Trailing at) = at
offset_of NoMemory = 0

-- whether a push answers a frame
abbrev pub AnswersFrame : Pushed → Type 0
AnswersFrame pushed.More = ⊥
AnswersFrame (pushed.Frame message) = ⊤
AnswersFrame (pushed.Bad at) = ⊥

-- a frame that is answered is the one after those before, and its sample is answered, if it is one; with
-- another answer the frames are those before
abbrev pub EndsFrame : List Raw → List Raw → Pushed → Type 0
EndsFrame before after pushed.More = after ≡ before
EndsFrame before after (pushed.Frame message) = (frame : Raw) × (after ≡ before ++ frame ∷ []) × (message ≡ raw_message frame)
EndsFrame before after (pushed.Bad at) = after ≡ before

-- what a push answers that took so many bytes of a piece, after these bytes: a frame exactly where they end one,
-- the frame that is too long exactly where one is under way, of which it takes the head first and all bytes
-- later; else it takes the whole piece
pub record IsPush (before piece : List ℕ) (count : ℕ) (answer : Pushed) : Type 0 where
  pub frame : AnswersFrame answer ↔ ((0 < count) × (bad_frame (before ++ take count piece) ≡ None))
  pub bad : (at : ℕ) → (answer ≡ pushed.Bad at) ↔ (why_no_frame (before ++ take count piece) ≡ Some (TooLong at))
  pub whole : answer ≡ pushed.More → count ≡ length piece
  pub frames : EndsFrame (frames_of before) (frames_of (before ++ take count piece)) answer
  pub fifth : (at : ℕ) → answer ≡ pushed.Bad at → (why_no_frame before ≡ Some (TooLong at) → ⊥) → length before + count ≡ at + 5
  pub later : (at : ℕ) → why_no_frame before ≡ Some (TooLong at) → count ≡ length piece

-- the sample that a push answers, in a list
abbrev pub messages_in : Pushed → List (Option Message)
messages_in pushed.More = []
messages_in (pushed.Frame message) = message ∷ []
messages_in (pushed.Bad at) = []

-- a push: the piece, how many of its bytes were taken, and the answer
pub record Push : Type 0 where
  pub piece : List ℕ
  pub count : ℕ
  pub answer : Pushed

-- pushes, one after another, of a stream that stands for these bytes
abbrev pub ArePushes : List ℕ → List Push → Type 0
ArePushes before [] = ⊤
ArePushes before (push ∷ later) =
    IsPush before push.piece push.count push.answer × ArePushes (before ++ take push.count push.piece) later

-- the bytes that pushes took
abbrev pub taken_by : List Push → List ℕ
taken_by pushes = flat_map (λ push. take push.count push.piece) pushes

-- the samples that pushes answered, in order, none for each frame that isn't a sample
abbrev pub answered : List Push → List (Option Message)
answered pushes = flat_map (λ push. messages_in push.answer) pushes

-- over every cutting of a byte string the frames that are answered are those of the string, up to the
-- first place at which none stands
abbrev pub EveryCutting : Type 0
EveryCutting = (pushes : List Push) → ArePushes [] pushes → answered pushes ≡ map raw_message (frames_of (taken_by pushes))

-- the frames of bytes stay whatever bytes follow
abbrev pub FramesStay : Type 0
FramesStay = (bytes more : List ℕ) → (later : List Raw) × (frames_of (bytes ++ more) ≡ frames_of bytes ++ later)

-- what a stream tells of whole frames is the last of them, where it is short
abbrev pub LastIsTold : Type 0
LastIsTold = (bytes : List ℕ) (before : List Raw) (frame : Raw) → bad_frame bytes ≡ None → frames_of bytes ≡ before ++ frame ∷ []
    → kept_frame bytes ≡ if_short frame
