-- The two parts of a spelling: a value's kind and its payload.
use Rattle.std.specs.Prelude.{◌≡◌, ◌==◌, ℕ, Bool, false, List, ◌++◌, length, drop, Ok, Option, Some, None, MatchOption}
use Rattle.da_wire.specs.declared.frames.Frame.{Frame}
use Rattle.da_wire.specs.declared.frames.Frame.TheVariants.{Header, Square, Message, Names, Fraud, Missing, Clash, Sample, Request, Block, Commit, Rooted, Transactions, Refusal, State}
use Rattle.da_wire.specs.Reading.{frame_of}
use Rattle.da_wire.specs.Spelling.{frame, spelling, header_kind, square_kind, message_kind, names_kind, fraud_kind, missing_kind, clash_kind, sample_kind, request_kind, block_kind, commit_kind, rooted_kind, transactions_kind, refusal_kind, state_kind}
use Rattle.frame_payloads.specs.kinds.Header.{header_payload}
use Rattle.frame_payloads.specs.kinds.Square.{square_payload}
use Rattle.frame_payloads.specs.kinds.Message.{message_payload}
use Rattle.frame_payloads.specs.kinds.Names.{names_payload, is_long_answer}
use Rattle.frame_payloads.specs.kinds.Fraud.{fraud_payload, is_unwritten}
use Rattle.frame_payloads.specs.kinds.Missing.{missing_payload}
use Rattle.frame_payloads.specs.kinds.Clash.{clash_payload, has_empty}
use Rattle.frame_payloads.specs.kinds.Requests.{sample_payload, request_payload}
use Rattle.frame_payloads.specs.kinds.Block.{block_payload, asks_for_zero}
use Rattle.frame_payloads.specs.kinds.Commit.{commit_payload, is_long_commit}
use Rattle.frame_payloads.specs.kinds.Rooted.{rooted_payload}
use Rattle.frame_payloads.specs.kinds.Transactions.{transactions_payload}
use Rattle.frame_payloads.specs.kinds.Refusal.{refusal_payload}
use Rattle.frame_payloads.specs.kinds.State.{state_payload}

-- the byte of the kind of a value
abbrev pub kind_of : Frame → ℕ
kind_of (Header h) = header_kind
kind_of (Square s) = square_kind
kind_of (Message m) = message_kind
kind_of (Names name answer) = names_kind
kind_of (Fraud claim) = fraud_kind
kind_of (Missing cells) = missing_kind
kind_of (Clash clash) = clash_kind
kind_of (Sample cell axis) = sample_kind
kind_of (Request name) = request_kind
kind_of (Block b) = block_kind
kind_of (Commit proof) = commit_kind
kind_of (Rooted proof) = rooted_kind
kind_of (Transactions units) = transactions_kind
kind_of (Refusal refusal) = refusal_kind
kind_of State = state_kind

-- the payload that a value is written as
abbrev pub payload_of : Frame → List ℕ
payload_of (Header h) = header_payload h
payload_of (Square s) = square_payload s
payload_of (Message m) = message_payload m
payload_of (Names name answer) = names_payload name answer
payload_of (Fraud claim) = fraud_payload claim
payload_of (Missing cells) = missing_payload cells
payload_of (Clash clash) = clash_payload clash
payload_of (Sample cell axis) = sample_payload cell axis
payload_of (Request name) = request_payload name
payload_of (Block b) = block_payload b
payload_of (Commit proof) = commit_payload proof
payload_of (Rooted proof) = rooted_payload proof
payload_of (Transactions units) = transactions_payload units
payload_of (Refusal refusal) = refusal_payload refusal
payload_of State = state_payload

-- whether a value has no spelling, however long its payload is
abbrev pub has_none : Frame → Bool
has_none (Names name answer) = is_long_answer answer
has_none (Fraud claim) = is_unwritten claim
has_none (Missing cells) = length cells.list == 0
has_none (Clash clash) = has_empty clash
has_none (Block b) = asks_for_zero b.width
has_none (Commit proof) = is_long_commit proof
has_none value = false

-- the length of the payload of a value that has a spelling
abbrev pub HasSize : Frame → Option ℕ → Type 0
HasSize value size = MatchOption size (spelling value ≡ None)
    (λ n. (n ≡ length (payload_of value)) × (spelling value ≡ Some (frame (kind_of value) (payload_of value))))

-- the value's one spelling was appended
abbrev pub AppendsSpelling : Frame → List ℕ → List ℕ → Type 0
AppendsSpelling value old new = (text : List ℕ) × (spelling value ≡ Some text) × (new ≡ old ++ text)

-- the bytes that were appended
abbrev pub appended : List ℕ → List ℕ → List ℕ
appended old new = drop (length old) new

-- bytes are read as a value, whatever follows them
abbrev pub IsReadBack : Frame → List ℕ → Type 0
IsReadBack value text = (rest : List ℕ) → frame_of 0 (text ++ rest) ≡ Ok (value, length text)
