-- repair HEADER MESSAGES: what repair answers for a header and the samples in a list of frames.
use Rattle.std.specs.Prelude.{◌≡◌, ◌⊎◌, ℕ, suc, List, [], ◌∷◌, length, Some, if◌then◌else◌}
use Rattle.std.specs.Option.{option_map_or}
use Rattle.data_header.specs.Headers.{Roots}
use Rattle.square_layout.specs.Blocks.{SquareShares}
use Rattle.axis_roots.specs.declared.message.messages.Message as sent
use Rattle.repair_queue.specs.Verdicts.{VerdictParts, whole, missing, fraud, clash, IsVerdict, IsOwnVerdict}
use Rattle.repair_queue.specs.Answers.{SomeNames}
use Rattle.da_wire.specs.declared.frames.Frame.{Frame}
use Rattle.da_wire.specs.declared.frames.Frame.TheVariants as frames
use Rattle.da_wire.specs.Spelling.{spelling}
use Rattle.da_wire.specs.Reading.{Raw}
use Rattle.da_wire.specs.Frames.{frames_of, raw_message}
use Rattle.da_status.specs.declared.status.Status.{Status}
use Rattle.da_status.specs.declared.status.Status.TheVariants.{Done, Fraud, Missing, Clash}
use Rattle.da_status.specs.Outcome.{Relation}
use Rattle.da_files.specs.Frames.{header_in}
use Rattle.da_files.specs.Forms.{Over}
use Rattle.da_judging.specs.Check.{finding_of, is_ok}
use Rattle.da_files.specs.Contents.{header_file, messages_file}

-- ---- MESSAGES

-- the samples of the grammar among frames, in their order
unfoldable pub messages_in : List Raw → List sent.Message
messages_in [] = []
messages_in (frame ∷ later) = option_map_or (λ m. m ∷ messages_in later) (raw_message frame) (messages_in later)

-- how many frames are lies: no sample of the grammar that is proved under the header
unfoldable pub lies_in : Roots → List Raw → ℕ
lies_in header [] = 0
lies_in header (frame ∷ later) = if is_ok (finding_of header frame) then lies_in header later else suc (lies_in header later)

-- ---- answers

-- the frame of an answer
abbrev pub verdict_frame : VerdictParts → Frame
verdict_frame (whole square) = frames.Square square
verdict_frame (missing cells) = frames.Missing cells
verdict_frame (fraud claim) = frames.Fraud claim
verdict_frame (clash left right) = frames.Clash (record { left = left; right = right })

-- the status of an answer where so many frames were lies
abbrev pub answer_status : ℕ → VerdictParts → Status
answer_status lies (whole square) = Done
answer_status lies (missing cells) = Missing (length cells.list) lies
answer_status lies (fraud claim) = Fraud claim.axis claim.index
answer_status lies (clash left right) = Clash

-- the output is the one frame of an answer, with its status
abbrev pub GivesVerdict : ℕ → VerdictParts → Relation
GivesVerdict lies verdict w status = (spelling (verdict_frame verdict) ≡ Some w) × (status ≡ answer_status lies verdict)

-- what is written for frames under a header: an answer that repair may give
abbrev pub Repairs : Roots → List Raw → Relation
Repairs header raws w status =
    (verdict : VerdictParts) × IsVerdict header (messages_in raws) verdict × GivesVerdict (lies_in header raws) verdict w status

-- under the header of the square: the square itself, or the missing cells; or a proved sample of the frames and the
-- square name a collision
abbrev pub RepairsOwn : Roots → List Raw → SquareShares → Relation
RepairsOwn header raws square w status =
    ((verdict : VerdictParts) × IsVerdict header (messages_in raws) verdict × IsOwnVerdict square verdict
    × GivesVerdict (lies_in header raws) verdict w status)
    ⊎ SomeNames header (messages_in raws) square

-- ---- the command

-- what repair answers to a HEADER that is a header
abbrev pub RepairOf : List (List ℕ) → Relation
RepairOf files = Over (header_in (header_file files)) (λ h. Repairs h (frames_of (messages_file files)))
