-- Files that are lists of frames, of which only the framing counts (docs/FORMATS.md).
use Rattle.std.specs.Prelude.{◌≡◌, ◌<◌, ◌≤◌, ℕ, ◌+◌, ◌==◌, List, length, Option, Some, None, Result, Ok, Err, if◌then◌else◌}
use Rattle.std.specs.List.{flat_map}
use Rattle.std.specs.Option.{option_map}
use Rattle.da_wire.specs.Spelling.{frame, message_kind, fraud_kind}
use Rattle.frame_payloads.specs.Payloads.{max_payload}
use Rattle.da_wire.specs.Reading.{Raw, raw_of}
use Rattle.frame_fields.specs.Messages.{message_at}
use Rattle.frame_payloads.specs.kinds.Fraud.{fraud_at}
use Rattle.da_wire.specs.Walks.{walk_from, stop_from}
use Rattle.axis_roots.specs.declared.message.messages.Message.{Message}
use Rattle.axis_roots.specs.Claims.{ClaimParts}

-- what a reader gave that did not refuse
abbrev pub ok_of : {A E : Type 0} → Result A E → Option A
ok_of (Ok x) = Some x
ok_of (Err e) = None

-- the frame of any kind at the front, and its length
abbrev pub raw_in : List ℕ → Option (Raw × ℕ)
raw_in bytes = option_map (λ raw. (raw, raw.size)) (ok_of (raw_of 0 bytes))

-- the frames of a file, one after another, up to the first place at which no frame stands
abbrev pub frames_of : List ℕ → List Raw
frames_of bytes = walk_from raw_in 0 bytes

-- the offset of the first place at which no frame stands though bytes are left, none where the file is a
-- list of frames
abbrev pub bad_frame : List ℕ → Option ℕ
bad_frame bytes = stop_from raw_in 0 0 bytes

-- the bytes of frames of any kind
abbrev pub frames_bytes : List Raw → List ℕ
frames_bytes frames = flat_map (λ raw. frame raw.kind raw.payload) frames

-- a frame that there is: a byte of kind, a payload within the limit, and the length of both
pub record IsRaw (raw : Raw) : Type 0 where
  pub kind : raw.kind < 256
  pub payload : length raw.payload ≤ max_payload
  pub size : raw.size ≡ 5 + length raw.payload

-- the sample of the grammar that a frame is, if it is one
abbrev pub raw_message : Raw → Option Message
raw_message frame = if frame.kind == message_kind then message_at frame.payload else None

-- the fraud claim of the grammar that a frame is, if it is one
abbrev pub raw_claim : Raw → Option ClaimParts
raw_claim frame = if frame.kind == fraud_kind then fraud_at frame.payload else None
