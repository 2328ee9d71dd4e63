-- Files that are one frame of a kind and nothing else, and outputs of one frame.
use Rattle.std.specs.Prelude.{◌≡◌, ℕ, List, [], ◌∷◌, Some, None, Result, Ok, Err, IsOk}
use Rattle.std.specs.declared.option.Option.{Option}
use Rattle.std.specs.Option.{option_map_or}
use Rattle.data_header.specs.Headers.{Roots}
use Rattle.square_layout.specs.Blocks.{SquareShares}
use Rattle.da_wire.specs.declared.frames.Frame.{Frame}
use Rattle.da_wire.specs.declared.frames.Frame.TheVariants as frames
use Rattle.axis_roots.specs.declared.message.messages.Message as sent
use Rattle.axis_roots.specs.Claims.{ClaimParts}
use Rattle.da_wire.specs.declared.frames.FrameError.{FrameError}
use Rattle.da_wire.specs.declared.frames.FrameError.TheVariants.{Truncated, BadKind, TooLong, BadPayload, Trailing, NoMemory}
use Rattle.da_wire.specs.Spelling.{spelling, header_kind, square_kind, message_kind, fraud_kind, block_kind, transactions_kind}
use Rattle.da_wire.specs.Reading.{only_of}
use Rattle.da_wire.specs.Streams.{offset_of}
use Rattle.da_wire.specs.Single.{header_of, square_of, message_of, claim_of}
use Rattle.da_files.specs.declared.frames.BlockOrList.{BlockOrList}
use Rattle.da_files.specs.declared.frames.BlockOrList.TheVariants.{Block, Transactions}
use Rattle.da_files.specs.declared.frames.Unread.{Unread}
use Rattle.da_files.specs.declared.frames.Unread.TheVariants as unread
use Rattle.da_status.specs.declared.status.Status.{Status}
use Rattle.da_status.specs.declared.status.Status.TheVariants.{Done}
use Rattle.da_status.specs.Outcome.{Relation}

-- the value that a file is, or where it stops being one frame of its kind
abbrev pub single_file : {A : Type 0} → (Frame → Option A) → Result Frame FrameError → Result A ℕ
single_file value (Err e) = Err (offset_of e)
single_file value (Ok frame) = option_map_or Ok (value frame) (Err 0)

-- the header that a file is, or where it stops being a frame of one
abbrev pub header_in : List ℕ → Result Roots ℕ
header_in bytes = single_file header_of (only_of bytes (header_kind ∷ []))

-- the square that a file is, or where it stops being a frame of one
abbrev pub square_in : List ℕ → Result SquareShares ℕ
square_in bytes = single_file square_of (only_of bytes (square_kind ∷ []))

-- the sample that a file is, or where it stops being a frame of one
abbrev pub message_in : List ℕ → Result sent.Message ℕ
message_in bytes = single_file message_of (only_of bytes (message_kind ∷ []))

-- the claim that a file is, or where it stops being a frame of one
abbrev pub claim_in : List ℕ → Result ClaimParts ℕ
claim_in bytes = single_file claim_of (only_of bytes (fraud_kind ∷ []))

-- the kinds of frames of what is laid out as a square
abbrev pub block_kinds : List ℕ
block_kinds = block_kind ∷ transactions_kind ∷ []

-- the block or the list of transactions that a frame is
abbrev pub block_or_list_of : Frame → Option BlockOrList
block_or_list_of (frames.Block block) = Some (Block block)
block_or_list_of (frames.Transactions transactions) = Some (Transactions transactions)
block_or_list_of frame = None

-- the frame of a block or of a list of transactions
abbrev pub block_or_list_frame : BlockOrList → Frame
block_or_list_frame (Block block) = frames.Block block
block_or_list_frame (Transactions transactions) = frames.Transactions transactions

-- the block or the list of transactions that a file is, or where it stops being a frame of one
abbrev pub block_or_list_in : List ℕ → Result BlockOrList ℕ
block_or_list_in bytes = single_file block_or_list_of (only_of bytes block_kinds)

-- why a file isn't one frame, by the refusal of the frame
abbrev pub unread_of : FrameError → Unread
unread_of (Truncated at) = unread.BadForm at
unread_of (BadKind at) = unread.BadForm at
unread_of (TooLong at) = unread.BadForm at
unread_of (BadPayload at) = unread.BadForm at
unread_of (Trailing at) = unread.BadForm at
unread_of NoMemory = unread.NoMemory

-- what a call answered is what the file is, or that memory ran out, in place of a value alone
abbrev pub ReadsSingle : {A : Type 0} → Result A Unread → Result A ℕ → Type 0
ReadsSingle (Ok value) read = read ≡ Ok value
ReadsSingle (Err (unread.BadForm at)) read = read ≡ Err at
ReadsSingle (Err unread.NoMemory) read = IsOk read

-- where a file leaves its form, if it does
abbrev pub error_of : {A : Type 0} → Result A ℕ → Option ℕ
error_of (Ok value) = None
error_of (Err at) = Some at

-- the output is the spelling of one frame
abbrev pub Writes : Frame → Relation
Writes frame w status = (spelling frame ≡ Some w) × (status ≡ Done)

-- the output is the spelling of one frame, with this status
abbrev pub WritesWith : Status → Frame → Relation
WritesWith final frame w status = (spelling frame ≡ Some w) × (status ≡ final)

-- the output is this text, with this status
abbrev pub WritesText : Status → List ℕ → Relation
WritesText final text w status = (w ≡ text) × (status ≡ final)
