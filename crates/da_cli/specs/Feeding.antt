-- What a session is fed with of a file that is a list of frames (docs/FORMATS.md).
use Rattle.std.specs.Prelude.{◌≡◌, ℕ, ◌+◌, ◌≤◌, ◌<◌, List, [], ◌∷◌, ◌++◌, length, Some, None, Ok, Err, Result, ⊤}
use Rattle.std.specs.declared.option.Option.{Option}
use Rattle.std.specs.Option.{option_map_or}
use Rattle.std.specs.List.{flat_map, sum_by}
use Rattle.std.specs.Io.KnownBytes.{Consumes, IsAtEnd}
use Rattle.data_header.specs.Headers.{Roots}
use Rattle.axis_roots.specs.declared.message.messages.Message.{Message}
use Rattle.axis_roots.specs.Messages.{message_refusal}
use Rattle.da_io.specs.declared.inputs.LastCall.{LastCall}
use Rattle.da_io.specs.declared.inputs.LastCall.TheVariants as ended
use Rattle.da_io.specs.Faults.{count_on}
use Rattle.da_wire.specs.Reading.{Raw}
use Rattle.da_wire.specs.Frames.{frames_of, bad_frame, raw_message}
use Rattle.da_wire.specs.StreamParts.{StreamParts}
use Rattle.da_wire.specs.Streams.{StreamStands}
use Rattle.da_cli.specs.declared.feeding.FeedFault.{FeedFault}
use Rattle.da_cli.specs.declared.feeding.FeedFault.TheVariants.{ReadFailed, TooLong, Bad}

-- ---- frames

-- the sample of a frame, in a list, where it is one that is proved under the header
abbrev pub proved_by : Roots → Option Message → List Message
proved_by header None = []
proved_by header (Some m) = option_map_or (λ why. []) (message_refusal header m) (m ∷ [])

-- how many lies a frame is: none where its sample is proved, else one
abbrev pub lies_by : Roots → Option Message → ℕ
lies_by header None = 1
lies_by header (Some m) = option_map_or (λ why. 1) (message_refusal header m) 0

-- the proved samples among frames, in their order
abbrev pub proved_among : Roots → List Raw → List Message
proved_among header frames = flat_map (λ frame. proved_by header (raw_message frame)) frames

-- how many frames are lies
abbrev pub lies_among : Roots → List Raw → ℕ
lies_among header frames = sum_by (λ frame. lies_by header (raw_message frame)) frames

-- ---- streams

-- what a stream and a session stand for after bytes: the bytes too, and the proved samples of the frames
-- that ended with them, of which so many are lies
pub record HasGone (old new : StreamParts) (Had Has : List Message → Type 0) (header : Roots) (bytes : List ℕ) (lies : ℕ) : Type 0 where
  pub stands : (before : List ℕ) → StreamStands old before → StreamStands new (before ++ bytes)
  pub fed : (before : List ℕ) (ms : List Message) → StreamStands old before → Had (ms ++ proved_among header (frames_of before))
      → Has (ms ++ proved_among header (frames_of (before ++ bytes)))
  pub lies_are : (before : List ℕ) → StreamStands old before
      → lies_among header (frames_of (before ++ bytes)) ≡ lies_among header (frames_of before) + lies

-- ---- files

-- what a file answers of the bytes that its reads gave
abbrev pub AnswersFed : Roots → List ℕ → ℕ → Result ℕ FeedFault → Type 0
AnswersFed header bytes limit (Ok lies) =
    (length bytes ≤ limit) × (bad_frame bytes ≡ None) × (lies ≡ lies_among header (frames_of bytes))
AnswersFed header bytes limit (Err ReadFailed) = length bytes ≤ limit
AnswersFed header bytes limit (Err (TooLong n)) = (n ≡ limit) × (limit < length bytes)
AnswersFed header bytes limit (Err (Bad at)) = (length bytes ≤ limit) × (bad_frame bytes ≡ Some at)

-- what is answered at the end of bytes of which so many frames are lies
abbrev pub JudgesFed : List ℕ → ℕ → Result ℕ FeedFault → Type 0
JudgesFed bytes lies (Ok n) = (bad_frame bytes ≡ None) × (n ≡ lies)
JudgesFed bytes lies (Err ReadFailed) = ⊥
JudgesFed bytes lies (Err (TooLong n)) = ⊥
JudgesFed bytes lies (Err (Bad at)) = bad_frame bytes ≡ Some at

-- what a session was fed with of them: the proved samples of all frames, after a refusal of the first of them
abbrev pub IsFed : Roots → List ℕ → (List Message → Type 0) → Result ℕ FeedFault → Type 0
IsFed header bytes Grows (Ok lies) = Grows (proved_among header (frames_of bytes))
IsFed header bytes Grows (Err why) =
    (some more : List Message) × (proved_among header (frames_of bytes) ≡ some ++ more) × Grows some

-- with every answer the bytes that the reads gave are gone from the front of what was left, they are counted,
-- and a session was fed with them
pub record Feeds (old new : Option (List ℕ)) (before now limit : ℕ) (header : Roots) (Grows : List Message → Type 0) (result : Result ℕ FeedFault) : Type 0 where
  pub bytes : List ℕ
  pub moved : Consumes old new bytes
  pub counted : now ≡ count_on before (length bytes)
  pub answer : AnswersFed header bytes limit result
  pub fed : IsFed header bytes Grows result

-- a read gave the end
abbrev pub EndsFed : Option (List ℕ) → Result ℕ FeedFault → Type 0
EndsFed rest (Ok lies) = IsAtEnd rest
EndsFed rest (Err ReadFailed) = ⊤
EndsFed rest (Err (TooLong n)) = ⊤
EndsFed rest (Err (Bad at)) = IsAtEnd rest

-- what a file answers of what is left of it, where that is told
abbrev pub FeedsTold : Option (List ℕ) → Roots → ℕ → Result ℕ FeedFault → Type 0
FeedsTold None header limit result = ⊤
FeedsTold (Some rest) header limit (Ok lies) = AnswersFed header rest limit (Ok lies)
FeedsTold (Some rest) header limit (Err ReadFailed) = ⊤
FeedsTold (Some rest) header limit (Err (TooLong n)) = (n ≡ limit) × (limit < length rest)
FeedsTold (Some rest) header limit (Err (Bad at)) = AnswersFed header rest limit (Err (Bad at))

-- how many failures an answer counts: one where a read failed
abbrev pub fed_faults : Result ℕ FeedFault → ℕ
fed_faults (Ok lies) = 0
fed_faults (Err ReadFailed) = 1
fed_faults (Err (TooLong n)) = 0
fed_faults (Err (Bad at)) = 0

-- how the last read ended
abbrev pub fed_end : Result ℕ FeedFault → LastCall
fed_end (Ok lies) = ended.Fine
fed_end (Err ReadFailed) = ended.ReadFailed
fed_end (Err (TooLong n)) = ended.Fine
fed_end (Err (Bad at)) = ended.Fine
