-- Files that are one frame of a kind, and the value that frames of the kind have.
use Rattle.std.specs.Prelude.{ℕ, List, [], ◌∷◌, Some, None, Result, Ok, Err}
use Rattle.std.specs.declared.option.Option.{Option}
use Rattle.std.specs.Option.{option_map_or}
use Rattle.namespace_id.specs.Cells.{CellList}
use Rattle.data_header.specs.Headers.{Roots}
use Rattle.square_layout.specs.Blocks.{BlockParts, SquareShares}
use Rattle.axis_roots.specs.declared.message.messages.Message as sent
use Rattle.axis_roots.specs.Claims.{ClaimParts}
use Rattle.da_wire.specs.declared.frames.Frame.{Frame}
use Rattle.da_wire.specs.declared.frames.Frame.TheVariants.{Header, Square, Message, Fraud, Missing, Block}
use Rattle.da_wire.specs.declared.frames.FrameError.{FrameError}
use Rattle.da_wire.specs.declared.frames.FrameError.TheVariants.{BadKind, BadPayload}
use Rattle.da_wire.specs.Spelling.{header_kind, square_kind, message_kind, fraud_kind, missing_kind, block_kind}
use Rattle.da_wire.specs.Reading.{value_at, only_of}

-- ---- the value that a frame is

-- the header that a frame is
abbrev pub header_of : Frame → Option Roots
header_of (Header header) = Some header
header_of frame = None

-- the square that a frame is
abbrev pub square_of : Frame → Option SquareShares
square_of (Square square) = Some square
square_of frame = None

-- the sample that a frame is
abbrev pub message_of : Frame → Option sent.Message
message_of (Message m) = Some m
message_of frame = None

-- the claim that a frame is
abbrev pub claim_of : Frame → Option ClaimParts
claim_of (Fraud claim) = Some claim
claim_of frame = None

-- the missing cells that a frame is
abbrev pub missing_of : Frame → Option CellList
missing_of (Missing cells) = Some cells
missing_of frame = None

-- the block that a frame is
abbrev pub block_of : Frame → Option BlockParts
block_of (Block block) = Some block
block_of frame = None

-- ---- the value that a file is

-- the value that the one frame of a kind is, or the first refusal; no frame of another kind is read
abbrev pub single : {A : Type 0} → (Frame → Option A) → Result Frame FrameError → Result A FrameError
single value (Err e) = Err e
single value (Ok frame) = option_map_or Ok (value frame) (Err (BadKind 0))

-- the header that the bytes are, or the first refusal
abbrev pub only_header : List ℕ → Result Roots FrameError
only_header bytes = single header_of (only_of bytes (header_kind ∷ []))

-- the square that the bytes are, or the first refusal
abbrev pub only_square : List ℕ → Result SquareShares FrameError
only_square bytes = single square_of (only_of bytes (square_kind ∷ []))

-- the sample that the bytes are, or the first refusal
abbrev pub only_message : List ℕ → Result sent.Message FrameError
only_message bytes = single message_of (only_of bytes (message_kind ∷ []))

-- the claim that the bytes are, or the first refusal
abbrev pub only_claim : List ℕ → Result ClaimParts FrameError
only_claim bytes = single claim_of (only_of bytes (fraud_kind ∷ []))

-- the missing cells that the bytes are, or the first refusal
abbrev pub only_missing : List ℕ → Result CellList FrameError
only_missing bytes = single missing_of (only_of bytes (missing_kind ∷ []))

-- the block that the bytes are, or the first refusal
abbrev pub only_block : List ℕ → Result BlockParts FrameError
only_block bytes = single block_of (only_of bytes (block_kind ∷ []))

-- what is read of one frame of a kind whose payload this is
abbrev pub of_payload : ℕ → List ℕ → Result Frame FrameError
of_payload kind payload = option_map_or Ok (value_at kind payload) (Err (BadPayload 0))
