-- What a stream of frames keeps.
use Rattle.std.specs.Prelude.{◌≡◌, ℕ, ◌+◌, ◌++◌, true, false, ◌-◌, ◌<◌, ◌≤◌, List, length, take, drop, slice_index, nat_le, nat_lt, ◌&&◌, ◌==◌, Bool, Option, Some, None, if◌then◌else◌}
use Rattle.da_wire.specs.Spelling.{message_kind}
use Rattle.frame_payloads.specs.Payloads.{max_payload}
use Rattle.axis_roots.specs.declared.message.messages.Message.{Message}
use Rattle.frame_fields.specs.Messages.{message_at}
use Rattle.frame_payloads.specs.kinds.Message.{most_message}
use Rattle.da_wire.specs.Reading.{Raw, promised}

-- how many bytes of a frame are kept: the head, and the greatest payload of a sample
abbrev pub kept_front : ℕ
kept_front = 5 + most_message

-- a stream as contracts see it: the offset of the frame under way, how many bytes were taken, and a room
-- whose first bytes are those of the frame under way, as many as it holds
pub record StreamParts : Type 0 where
  pub at : ℕ
  pub taken : ℕ
  pub front : List ℕ

-- how many bytes of the frame under way were taken
abbrev pub under_way : StreamParts → ℕ
under_way stream = stream.taken - stream.at

-- whether a frame of which so many bytes are there, in front of a room, states a length above the limit
abbrev pub is_long : List ℕ → ℕ → Bool
is_long front have = nat_le 5 have && nat_lt max_payload (promised front)

-- a frame isn't whole, unless it states a length above the limit
abbrev pub IsUnfinished : List ℕ → ℕ → Type 0
IsUnfinished front have = is_long front have ≡ false → have < 5 + promised front

-- the sample of the grammar that the frame in a room is, if it is one: no sample is longer than the room
abbrev pub front_message : List ℕ → Option Message
front_message front =
    if (slice_index front 0 == message_kind) && nat_le (5 + promised front) kept_front
    then message_at (take (promised front) (drop 5 front))
    else None

-- the frame in a room, none where it is longer than the room
abbrev pub front_frame : List ℕ → Option Raw
front_frame front =
    if nat_le (5 + promised front) kept_front
    then Some (record {
      kind = slice_index front 0;
      payload = take (promised front) (drop 5 front);
      size = 5 + promised front;
    })
    else None

-- what holds of each stream: the frame under way isn't whole, unless it states a length above the limit
pub record IsStream (stream : StreamParts) : Type 0 where
  pub begun : stream.at ≤ stream.taken
  pub room : length stream.front ≡ kept_front
  pub unfinished : IsUnfinished stream.front (under_way stream)

-- a room keeps as many bytes of a frame as it holds, and then as many with more bytes behind them
abbrev pub KeepsFront : ℕ → List ℕ → List ℕ → ℕ → List ℕ → Type 0
KeepsFront size old new have bytes = (part : List ℕ) → length part ≡ have → take size part ≡ take have old
    → take size (part ++ bytes) ≡ take (have + length bytes) new

-- how many bytes of a piece of this length were taken, after which the room is new
pub record IsTakenPiece (old new : List ℕ) (have size count : ℕ) : Type 0 where
  pub within : count ≤ size
  pub some : 0 < size → 0 < count
  pub head : 5 ≤ have → promised new ≡ promised old
  pub later : is_long old have ≡ true → (count ≡ size) × (is_long new (have + count) ≡ true)
  pub fifth : is_long old have ≡ false → is_long new (have + count) ≡ true → have + count ≡ 5
  pub whole : is_long new (have + count) ≡ false → have + count ≤ 5 + promised new
  pub more : is_long new (have + count) ≡ false → have + count < 5 + promised new → count ≡ size
