-- What is read of the front of bytes: the kind, the frame, its value, or the first refusal
-- (docs/FORMATS.md).
use Rattle.std.specs.Prelude.{ℕ, List, [], ◌∷◌, length, take, drop, nat_lt, Option, Some, None, if◌then◌else◌, ◌≡◌, ◌⊎◌, ◌+◌, slice_index, ◌==◌, ◌&&◌, Bool, true, false, Result, Ok, Err, IsOk}
use Rattle.std.specs.Option.{option_map, option_map_or}
use Rattle.std.specs.Int.{w32, from_be_bytes}
use Rattle.std.specs.List.{list_any}
use Rattle.da_wire.specs.declared.frames.Frame.{Frame}
use Rattle.da_wire.specs.declared.kinds.Kind.{Kind}
use Rattle.da_wire.specs.declared.kinds.Kind.TheVariants as kinds
use Rattle.frame_fields.specs.Fields.{◌>>=◌}
use Rattle.da_wire.specs.declared.frames.Frame.TheVariants.{Header, Square, Message, Names, Fraud, Missing, Clash, Sample, Request, Block, Commit, Rooted, Transactions, Refusal, State}
use Rattle.da_wire.specs.declared.frames.RawFrame.{RawFrame}
use Rattle.da_wire.specs.declared.frames.FrameError.{FrameError}
use Rattle.da_wire.specs.declared.frames.FrameError.TheVariants.{Truncated, BadKind, TooLong, BadPayload, Trailing}
use Rattle.da_wire.specs.Spelling.{kind_byte}
use Rattle.frame_payloads.specs.Payloads.{max_payload}
use Rattle.frame_payloads.specs.kinds.Header.{header_at}
use Rattle.frame_payloads.specs.kinds.Square.{square_at}
use Rattle.frame_fields.specs.Messages.{message_at}
use Rattle.frame_payloads.specs.kinds.Names.{names_at}
use Rattle.frame_payloads.specs.kinds.Fraud.{fraud_at}
use Rattle.frame_payloads.specs.kinds.Missing.{missing_at}
use Rattle.frame_payloads.specs.kinds.Clash.{clash_at}
use Rattle.frame_payloads.specs.kinds.Requests.{sample_at, request_at}
use Rattle.frame_payloads.specs.kinds.Block.{block_at}
use Rattle.frame_payloads.specs.kinds.Commit.{commit_at}
use Rattle.frame_payloads.specs.kinds.Rooted.{rooted_at}
use Rattle.frame_payloads.specs.kinds.Transactions.{transactions_at}
use Rattle.frame_payloads.specs.kinds.Refusal.{refusal_at}
use Rattle.frame_payloads.specs.kinds.State.{state_at}

-- ---- kinds

-- the kinds of which there are values
abbrev pub value_kinds : List Kind
value_kinds =
    kinds.Header ∷ kinds.Square ∷ kinds.Message ∷ kinds.Names ∷ kinds.Fraud ∷ kinds.Missing ∷ kinds.Clash
    ∷ kinds.Sample ∷ kinds.Request ∷ kinds.Block ∷ kinds.Commit ∷ kinds.Rooted ∷ kinds.Transactions
    ∷ kinds.Refusal ∷ kinds.State ∷ []

-- the one among some kinds that a byte is
abbrev pub kind_among : List Kind → ℕ → Option Kind
kind_among [] byte = None
kind_among (kind ∷ others) byte = if byte == kind_byte kind then Some kind else kind_among others byte

-- the kind that a byte is
abbrev pub kind_at : ℕ → Option Kind
kind_at byte = kind_among value_kinds byte

-- whether there are values of this kind
abbrev pub is_kind : ℕ → Bool
is_kind byte = option_map_or (λ kind. true) (kind_at byte) false

-- the value of a kind whose payload the bytes are
abbrev pub value_of_kind : Kind → List ℕ → Option Frame
value_of_kind kinds.Header payload = option_map Header (header_at payload)
value_of_kind kinds.Square payload = option_map Square (square_at payload)
value_of_kind kinds.Message payload = option_map Message (message_at payload)
value_of_kind kinds.Names payload = option_map (λ n. Names n.0 n.1) (names_at payload)
value_of_kind kinds.Fraud payload = option_map Fraud (fraud_at payload)
value_of_kind kinds.Missing payload = option_map Missing (missing_at payload)
value_of_kind kinds.Clash payload = option_map Clash (clash_at payload)
value_of_kind kinds.Sample payload = option_map (λ s. Sample s.0 s.1) (sample_at payload)
value_of_kind kinds.Request payload = option_map Request (request_at payload)
value_of_kind kinds.Block payload = option_map Block (block_at payload)
value_of_kind kinds.Commit payload = option_map Commit (commit_at payload)
value_of_kind kinds.Rooted payload = option_map Rooted (rooted_at payload)
value_of_kind kinds.Transactions payload = option_map Transactions (transactions_at payload)
value_of_kind kinds.Refusal payload = option_map Refusal (refusal_at payload)
value_of_kind kinds.State payload = option_map (λ none. State) (state_at payload)

-- the value of the kind that a byte is, whose payload the bytes are
unfoldable pub value_at : ℕ → List ℕ → Option Frame
value_at byte payload = kind_at byte >>= (λ kind. value_of_kind kind payload)

-- ---- frames: `at` is the offset of the bytes in their file

-- a frame of any kind, and the length of all of it
pub record Raw : Type 0 where
  pub kind : ℕ
  pub payload : List ℕ
  pub size : ℕ

-- the length of the payload that the first five bytes of a frame promise
abbrev pub promised : List ℕ → ℕ
promised bytes = from_be_bytes w32 (take 4 (drop 1 bytes))

-- the frame at the front: five bytes, a length within its limit, and the payload
unfoldable pub raw_of : ℕ → List ℕ → Result Raw FrameError
raw_of at bytes =
    if nat_lt (length bytes) 5 then Err (Truncated at) else
    (if nat_lt max_payload (promised bytes) then Err (TooLong at) else
    (if nat_lt (length bytes) (5 + promised bytes) then Err (Truncated at) else
    Ok (record {
      kind = slice_index bytes 0;
      payload = take (promised bytes) (drop 5 bytes);
      size = 5 + promised bytes;
    })))

-- the value of a raw frame, and the offset after it
abbrev pub valued : ℕ → Raw → Option Frame → Result (Frame × ℕ) FrameError
valued at raw None = Err (BadPayload at)
valued at raw (Some value) = Ok (value, at + raw.size)

-- the value of a frame of any kind that was read, and the offset after it
abbrev pub value_of : ℕ → Result Raw FrameError → Result (Frame × ℕ) FrameError
value_of at (Err e) = Err e
value_of at (Ok raw) = valued at raw (value_at raw.kind raw.payload)

-- whether a kind is one of these
abbrev pub is_among : List ℕ → ℕ → Bool
is_among kinds kind = list_any (λ k. k == kind) kinds

-- the frame at the front, of a kind that there is and that passes a test, whatever its payload holds
unfoldable pub tested_raw : (ℕ → Bool) → ℕ → List ℕ → Result Raw FrameError
tested_raw test at bytes =
    if length bytes == 0 then Err (Truncated at) else
    (if is_kind (slice_index bytes 0) && test (slice_index bytes 0)
    then raw_of at bytes
    else Err (BadKind at))

-- the value of that frame, and the offset after it
abbrev pub tested_frame : (ℕ → Bool) → ℕ → List ℕ → Result (Frame × ℕ) FrameError
tested_frame test at bytes = value_of at (tested_raw test at bytes)

-- the value of the frame at the front, of any kind that there is
abbrev pub frame_of : ℕ → List ℕ → Result (Frame × ℕ) FrameError
frame_of at bytes = tested_frame (λ kind. true) at bytes

-- the frame that all of the bytes are
abbrev pub ended : ℕ → Result (Frame × ℕ) FrameError → Result Frame FrameError
ended size (Err e) = Err e
ended size (Ok x) = if nat_lt x.1 size then Err (Trailing x.1) else Ok x.0

-- the one frame of one of these kinds that the bytes are
abbrev pub only_of : List ℕ → List ℕ → Result Frame FrameError
only_of bytes kinds = ended (length bytes) (tested_frame (is_among kinds) 0 bytes)

-- ---- what a call answered is what reading gives, or that memory ran out, in place of a value

-- a call answers what reading gives, or that memory ran out in place of a value
abbrev pub Reads : {X Y : Type 0} → FrameError → (X → Y) → Result X FrameError → Result Y FrameError → Type 0
Reads full view (Ok x) read = read ≡ Ok (view x)
Reads full view (Err e) read = ((e ≡ full) × IsOk read) ⊎ (read ≡ Err e)

-- a call that takes no memory answers what reading gives
abbrev pub ReadsAt : {X Y : Type 0} → (X → Y) → Result X FrameError → Result Y FrameError → Type 0
ReadsAt view (Ok x) read = read ≡ Ok (view x)
ReadsAt view (Err e) read = read ≡ Err e

-- a raw frame, with the bytes of its payload
abbrev pub raw_seen : RawFrame → Raw
raw_seen f = record { kind = f.kind; payload = f.payload.now; size = f.size }
