-- The one spelling of each value (docs/FORMATS.md).
use Rattle.std.specs.Prelude.{ℕ, List, ◌∷◌, length, nat_lt, Option, Some, None, if◌then◌else◌, ◌==◌, ◌++◌, ⊤}
use Rattle.std.specs.Int.{w32, to_be_bytes}
use Rattle.std.specs.List.{AllByRecursion}
use Rattle.namespace_id.specs.Bytes.{AreBytes}
use Rattle.namespace_id.specs.Cells.{AreCells, IsCell}
use Rattle.data_header.specs.Headers.{IsHeader}
use Rattle.square_layout.specs.Blocks.{IsSquare, IsBlock}
use Rattle.da_wire.specs.declared.frames.Frame.{Frame}
use Rattle.da_wire.specs.declared.kinds.Kind.{Kind}
use Rattle.da_wire.specs.declared.kinds.Kind.TheVariants as kinds
use Rattle.da_wire.specs.declared.frames.Frame.TheVariants.{Header, Square, Message, Names, Fraud, Missing, Clash, Sample, Request, Block, Commit, Rooted, Transactions, Refusal, State}
use Rattle.namespace_id.specs.Names.{IsNamespace}
use Rattle.namespace_id.specs.Shares.{AreShares}
use Rattle.axis_roots.specs.Messages.{IsMessage}
use Rattle.axis_roots.specs.Answers.{AreEntries}
use Rattle.axis_roots.specs.Claims.{IsClaim}
use Rattle.frame_payloads.specs.Payloads.{max_payload}
use Rattle.frame_payloads.specs.kinds.Header.{header_payload}
use Rattle.frame_payloads.specs.kinds.Square.{square_payload}
use Rattle.frame_payloads.specs.kinds.Message.{message_payload}
use Rattle.frame_payloads.specs.kinds.Names.{names_payload, is_long_answer}
use Rattle.frame_payloads.specs.kinds.Fraud.{fraud_payload, is_unwritten}
use Rattle.frame_payloads.specs.kinds.Missing.{missing_payload}
use Rattle.frame_payloads.specs.kinds.Clash.{AreStrings, has_empty, clash_payload}
use Rattle.frame_payloads.specs.kinds.Requests.{sample_payload, request_payload}
use Rattle.frame_payloads.specs.kinds.Block.{block_payload, asks_for_zero}
use Rattle.frame_payloads.specs.kinds.Commit.{IsCommitSent, is_long_commit, commit_payload}
use Rattle.frame_payloads.specs.kinds.Rooted.{IsRootedSent, rooted_payload}
use Rattle.frame_payloads.specs.kinds.Transactions.{transactions_payload}
use Rattle.frame_payloads.specs.kinds.Refusal.{IsRefusal, refusal_payload}
use Rattle.frame_payloads.specs.kinds.State.{state_payload}

-- the kind of a header: `H`
abbrev pub header_kind : ℕ
header_kind = 0x48

-- the kind of an original square: `S`
abbrev pub square_kind : ℕ
square_kind = 0x53

-- the kind of a sample: `M`
abbrev pub message_kind : ℕ
message_kind = 0x4d

-- the kind of a namespace answer: `N`
abbrev pub names_kind : ℕ
names_kind = 0x4e

-- the kind of a fraud claim: `B`
abbrev pub fraud_kind : ℕ
fraud_kind = 0x42

-- the kind of missing cells: `K`
abbrev pub missing_kind : ℕ
missing_kind = 0x4b

-- the kind of a collision: `X`
abbrev pub clash_kind : ℕ
clash_kind = 0x58

-- the kind of a request for the sample of a cell: `Q`
abbrev pub sample_kind : ℕ
sample_kind = 0x51

-- the kind of a request for the shares of a namespace: `P`
abbrev pub request_kind : ℕ
request_kind = 0x50

-- the kind of a block: `V`
abbrev pub block_kind : ℕ
block_kind = 0x56

-- the kind of a commitment proof: `C`
abbrev pub commit_kind : ℕ
commit_kind = 0x43

-- the kind of a root proof: `R`
abbrev pub rooted_kind : ℕ
rooted_kind = 0x52

-- the kind of transactions: `T`
abbrev pub transactions_kind : ℕ
transactions_kind = 0x54

-- the kind of a refusal: `E`
abbrev pub refusal_kind : ℕ
refusal_kind = 0x45

-- the kind of a state: `A`
abbrev pub state_kind : ℕ
state_kind = 0x41

-- the byte that a kind is
abbrev pub kind_byte : Kind → ℕ
kind_byte kinds.Header = header_kind
kind_byte kinds.Square = square_kind
kind_byte kinds.Message = message_kind
kind_byte kinds.Names = names_kind
kind_byte kinds.Fraud = fraud_kind
kind_byte kinds.Missing = missing_kind
kind_byte kinds.Clash = clash_kind
kind_byte kinds.Sample = sample_kind
kind_byte kinds.Request = request_kind
kind_byte kinds.Block = block_kind
kind_byte kinds.Commit = commit_kind
kind_byte kinds.Rooted = rooted_kind
kind_byte kinds.Transactions = transactions_kind
kind_byte kinds.Refusal = refusal_kind
kind_byte kinds.State = state_kind

-- a frame: its kind, the length of its payload in four bytes, its payload
abbrev pub frame : ℕ → List ℕ → List ℕ
frame kind payload = kind ∷ to_be_bytes w32 (length payload) ++ payload

-- ---- spellings

-- a frame with this payload, none where the payload is above its limit
abbrev pub spelled : ℕ → List ℕ → Option (List ℕ)
spelled kind payload = if nat_lt max_payload (length payload) then None else Some (frame kind payload)

-- the spelling of a value, where it has one: no cells are no missing cells, 0 is no width to ask for, an
-- answer has up to `greatest_width` entries, each of up to so many shares, a claim has up to so many cells,
-- which fit its set where it has one, no string of a collision is empty, and a commitment proof has up to so
-- many rows, each of up to so many subtrees
abbrev pub spelling : Frame → Option (List ℕ)
spelling (Header h) = spelled header_kind (header_payload h)
spelling (Square s) = spelled square_kind (square_payload s)
spelling (Message m) = spelled message_kind (message_payload m)
spelling (Names name answer) =
    if is_long_answer answer then None else spelled names_kind (names_payload name answer)
spelling (Fraud claim) =
    if is_unwritten claim then None else spelled fraud_kind (fraud_payload claim)
spelling (Missing cells) =
    if length cells.list == 0 then None else spelled missing_kind (missing_payload cells)
spelling (Clash clash) = if has_empty clash then None else spelled clash_kind (clash_payload clash)
spelling (Sample cell axis) = spelled sample_kind (sample_payload cell axis)
spelling (Request name) = spelled request_kind (request_payload name)
spelling (Block b) = if asks_for_zero b.width then None else spelled block_kind (block_payload b)
spelling (Commit proof) =
    if is_long_commit proof then None else spelled commit_kind (commit_payload proof)
spelling (Rooted proof) = spelled rooted_kind (rooted_payload proof)
spelling (Transactions units) = spelled transactions_kind (transactions_payload units)
spelling (Refusal refusal) = spelled refusal_kind (refusal_payload refusal)
spelling State = spelled state_kind state_payload

-- ---- the values that there are

-- every value has the lengths and bounds of its type
abbrev pub IsFrame : Frame → Type 0
IsFrame (Header h) = IsHeader h
IsFrame (Square s) = IsSquare s × AreShares s.shares
IsFrame (Message m) = IsMessage m
IsFrame (Names name answer) = IsNamespace name × AreEntries answer
IsFrame (Fraud claim) = IsClaim claim
IsFrame (Missing cells) = AreCells cells
IsFrame (Clash clash) = AreStrings clash
IsFrame (Sample cell axis) = IsCell cell
IsFrame (Request name) = IsNamespace name
IsFrame (Block b) = IsBlock b
IsFrame (Commit proof) = IsCommitSent proof
IsFrame (Rooted proof) = IsRootedSent proof
IsFrame (Transactions units) = AllByRecursion AreBytes units
IsFrame (Refusal refusal) = IsRefusal refusal
IsFrame State = ⊤
