-- verify HEADER ANSWER: whether one answer holds under a header.
use Rattle.std.specs.Prelude.{◌≡◌, ◌⊎◌, ℕ, List, [], ◌∷◌, ◌++◌, codes, decimal, Result}
use Rattle.std.specs.declared.option.Option.{Option}
use Rattle.std.specs.Option.{option_map, option_map_or}
use Rattle.data_header.specs.Headers.{Roots}
use Rattle.square_layout.specs.Blocks.{SquareShares}
use Rattle.axis_roots.specs.declared.message.messages.CheckRefusal.{CheckRefusal}
use Rattle.axis_roots.specs.declared.message.messages.CheckRefusal.TheVariants.{OutOfSquare, NodeCount, Unordered, OtherRoot}
use Rattle.axis_roots.specs.Messages.{message_refusal}
use Rattle.axis_roots.specs.Own.{ShowsOwn, NamesClash}
use Rattle.axis_roots.specs.Claims.{ClaimNames}
use Rattle.square_serve.specs.declared.checking.NsRefusal.{NsRefusal}
use Rattle.square_serve.specs.declared.checking.NsRefusal.TheVariants as ns
use Rattle.square_serve.specs.Answers.{answer_refusal}
use Rattle.square_serve.specs.Own.{ShowsAll, AnswerNames}
use Rattle.befp_verify.specs.declared.verifying.FraudRefusal.{FraudRefusal}
use Rattle.befp_verify.specs.declared.verifying.FraudRefusal.TheVariants as fraud
use Rattle.befp_verify.specs.Refusals.{HasFraudCause}
use Rattle.data_header.specs.DataRoots.{data_root_of}
use Rattle.blob_commit.specs.declared.proving.CommitRefusal.{CommitRefusal}
use Rattle.blob_commit.specs.declared.proving.CommitRefusal.TheVariants as commit
use Rattle.blob_commit.specs.declared.rooting.RootedRefusal.{RootedRefusal}
use Rattle.blob_commit.specs.declared.rooting.RootedRefusal.TheVariants as rooted
use Rattle.blob_commit.specs.Refusals.{commit_refusal, rooted_refusal}
use Rattle.blob_commit.specs.Places.{CommitsOwn, RootedOwn, CommitText, RootedText}
use Rattle.blob_commit.specs.Places as places
use Rattle.da_wire.specs.Spelling.{message_kind, names_kind, fraud_kind, commit_kind, rooted_kind}
use Rattle.da_wire.specs.Reading.{only_of}
use Rattle.da_status.specs.declared.status.Status.{Status}
use Rattle.da_status.specs.declared.status.Status.TheVariants.{Done, Refused}
use Rattle.da_judging.specs.declared.answers.Answer.{Answer}
use Rattle.da_judging.specs.declared.answers.Answer.TheVariants.{Message, Names, Fraud, Commit, Rooted}
use Rattle.da_judging.specs.Answers.{answer_of}
use Rattle.da_files.specs.Contents.{file_of, header_file}
use Rattle.da_files.specs.Frames.{header_in, single_file}
use Rattle.da_files.specs.Forms.{Over}
use Rattle.da_status.specs.Outcome.{Relation}

-- ---- ANSWER

-- the number of the check that refuses a sample
abbrev pub check_number : CheckRefusal → ℕ
check_number OutOfSquare = 1
check_number NodeCount = 2
check_number Unordered = 3
check_number OtherRoot = 4

-- the number of the check that refuses a namespace answer
abbrev pub ns_number : NsRefusal → ℕ
ns_number ns.Parity = 1
ns_number (ns.Rows i) = 2
ns_number (ns.Proof i why) = 3

-- the number of the check that refuses a fraud claim
abbrev pub fraud_number : FraudRefusal → ℕ
fraud_number fraud.Shape = 1
fraud_number (fraud.Cell i why) = 2
fraud_number (fraud.Set why) = 4
fraud_number fraud.AxisMatches = 3

-- the number of the check that refuses a commitment proof
abbrev pub commit_number : CommitRefusal → ℕ
commit_number commit.Shape = 1
commit_number (commit.Root i) = 2
commit_number (commit.Nodes i why) = 3
commit_number commit.Commitment = 4

-- the number of the check that refuses a root proof
abbrev pub rooted_number : RootedRefusal → ℕ
rooted_number rooted.Shape = 1
rooted_number rooted.Root = 2
rooted_number (rooted.Path why) = 3

-- an answer is refused by the check of this number, or by none where it holds
abbrev pub IsAnswerRefusal : Roots → Answer → Option ℕ → Type 0
IsAnswerRefusal header (Message m) refusal = refusal ≡ option_map check_number (message_refusal header m)
IsAnswerRefusal header (Names name answer) refusal = refusal ≡ option_map ns_number (answer_refusal header name answer)
IsAnswerRefusal header (Fraud claim) refusal =
    (why : Option FraudRefusal) × HasFraudCause header claim why × (refusal ≡ option_map fraud_number why)
IsAnswerRefusal header (Commit proof) refusal =
    refusal ≡ option_map commit_number (commit_refusal (data_root_of header) proof)
IsAnswerRefusal header (Rooted proof) refusal =
    refusal ≡ option_map rooted_number (rooted_refusal (data_root_of header) proof)

-- a sample shows the square's own share, a namespace answer exactly the square's shares of the namespace, a commitment
-- proof is of the square's width and its commitment that of the square's shares in its range, a root proof is of the
-- square's width and shows the square's own share; or they and the square name a collision; a fraud claim and the square
-- name one
abbrev pub IsOwnReply : Answer → SquareShares → Type 0
IsOwnReply (Message m) square = ShowsOwn m square ⊎ NamesClash m square
IsOwnReply (Names name answer) square = ShowsAll name square answer ⊎ AnswerNames name square answer
IsOwnReply (Fraud claim) square = ClaimNames claim square
IsOwnReply (Commit proof) square = CommitsOwn proof square ⊎ places.PlacesNameClash (CommitText proof) square
IsOwnReply (Rooted proof) square = RootedOwn proof square ⊎ places.PlacesNameClash (RootedText proof) square

-- the line for an answer, by the number of its refusal
abbrev pub verdict_line : Option ℕ → List ℕ
verdict_line refusal = option_map_or (λ number. codes "refused " ++ decimal number ++ codes "\n") refusal (codes "ok\n")

-- the status for an answer
abbrev pub verdict_status : Option ℕ → Status
verdict_status refusal = option_map_or (λ number. Refused) refusal Done

-- the kinds of answers
abbrev pub answer_kinds : List ℕ
answer_kinds = message_kind ∷ names_kind ∷ fraud_kind ∷ commit_kind ∷ rooted_kind ∷ []

-- the answer that a file is, or where it stops being one message, one namespace answer, one fraud claim, one commitment
-- proof or one root proof and nothing else
abbrev pub answer_in : List ℕ → Result Answer ℕ
answer_in bytes = single_file answer_of (only_of bytes answer_kinds)

-- ---- the command

-- ANSWER, the second file of verify
abbrev pub answer_file : List (List ℕ) → List ℕ
answer_file files = file_of files 1

-- the line and the status of an answer under a header
abbrev pub Verifies : Roots → Answer → Relation
Verifies header answer w status =
    (refusal : Option ℕ) × IsAnswerRefusal header answer refusal × (w ≡ verdict_line refusal) × (status ≡ verdict_status refusal)

-- what verify answers to a HEADER and an ANSWER in their forms
abbrev pub VerifyOf : List (List ℕ) → Relation
VerifyOf files =
    Over (header_in (header_file files)) (λ header. Over (answer_in (answer_file files)) (λ answer. Verifies header answer))
