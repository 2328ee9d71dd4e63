-- Answers and requests, and whether an answer is to a request (docs/RULES.md, "Answers to a request").
use Rattle.std.specs.Prelude.{◌≡◌, ◌==◌, ◌&&◌, Bool, false, Some, None}
use Rattle.std.specs.declared.option.Option.{Option}
use Rattle.std.specs.Str.{bytes_eq}
use Rattle.namespace_id.specs.declared.cells.Axis.{Axis}
use Rattle.namespace_id.specs.declared.cells.Cell.{Cell}
use Rattle.namespace_id.specs.declared.namespaces.Namespace as names
use Rattle.axis_roots.specs.declared.message.messages.Message as sent
use Rattle.axis_roots.specs.Sets.{is_along}
use Rattle.da_wire.specs.declared.frames.Frame.{Frame}
use Rattle.da_wire.specs.declared.frames.Frame.TheVariants as frames
use Rattle.da_judging.specs.declared.answers.Answer.{Answer}
use Rattle.da_judging.specs.declared.answers.Answer.TheVariants.{Message, Names, Fraud, Commit, Rooted}
use Rattle.da_judging.specs.declared.answers.Request.{Request}
use Rattle.da_judging.specs.declared.answers.Request.TheVariants as asked

-- ---- frames

-- the frame of an answer
abbrev pub answer_frame : Answer → Frame
answer_frame (Message m) = frames.Message m
answer_frame (Names name answer) = frames.Names name answer
answer_frame (Fraud claim) = frames.Fraud claim
answer_frame (Commit proof) = frames.Commit proof
answer_frame (Rooted proof) = frames.Rooted proof

-- the answer that a frame is
abbrev pub answer_of : Frame → Option Answer
answer_of (frames.Message m) = Some (Message m)
answer_of (frames.Names name answer) = Some (Names name answer)
answer_of (frames.Fraud claim) = Some (Fraud claim)
answer_of (frames.Commit proof) = Some (Commit proof)
answer_of (frames.Rooted proof) = Some (Rooted proof)
answer_of frame = None

-- the frame of a request
abbrev pub request_frame : Request → Frame
request_frame (asked.Sample cell axis) = frames.Sample cell axis
request_frame (asked.Names name) = frames.Request name

-- the request that a frame is
abbrev pub request_of : Frame → Option Request
request_of (frames.Sample cell axis) = Some (asked.Sample cell axis)
request_of (frames.Request name) = Some (asked.Names name)
request_of frame = None

-- ---- whether an answer is to a request

-- whether a sample is of a cell, along an axis
abbrev pub is_of_cell : Cell → Axis → sent.Message → Bool
is_of_cell cell axis m = (m.cell.row == cell.row) && (m.cell.col == cell.col) && is_along axis m

-- whether an answer is a sample of a cell along an axis, by itself or in a root proof
abbrev pub is_sample : Cell → Axis → Answer → Bool
is_sample cell axis (Message m) = is_of_cell cell axis m
is_sample cell axis (Names name answer) = false
is_sample cell axis (Fraud claim) = false
is_sample cell axis (Commit proof) = false
is_sample cell axis (Rooted proof) = is_of_cell cell axis proof.message

-- whether an answer is a namespace answer for a namespace
abbrev pub is_for : names.Namespace → Answer → Bool
is_for name (Message m) = false
is_for name (Names other answer) = bytes_eq other.0 name.0
is_for name (Fraud claim) = false
is_for name (Commit proof) = false
is_for name (Rooted proof) = false

-- whether an answer is to a request, before any proof is looked at: to one for a sample this is a sample or a root proof
-- with its cell and its axis, to one for a namespace a namespace answer with this namespace
abbrev pub is_answer_to : Request → Answer → Bool
is_answer_to (asked.Sample cell axis) answer = is_sample cell axis answer
is_answer_to (asked.Names name) answer = is_for name answer

-- a sample, by itself or in a root proof, is of this cell and this axis, and other answers are no samples
abbrev pub Samples : Cell → Axis → Answer → Type 0
Samples cell axis (Message m) = (m.cell ≡ cell) × (m.axis ≡ axis)
Samples cell axis (Names name answer) = ⊥
Samples cell axis (Fraud claim) = ⊥
Samples cell axis (Commit proof) = ⊥
Samples cell axis (Rooted proof) = (proof.message.cell ≡ cell) × (proof.message.axis ≡ axis)

-- a namespace answer is for this namespace, and other answers are no namespace answers
abbrev pub IsAnswerFor : names.Namespace → Answer → Type 0
IsAnswerFor name (Message m) = ⊥
IsAnswerFor name (Names other answer) = other ≡ name
IsAnswerFor name (Fraud claim) = ⊥
IsAnswerFor name (Commit proof) = ⊥
IsAnswerFor name (Rooted proof) = ⊥

-- the same in plain equations: to a request for a sample this is a sample or a root proof with its cell and its axis, to
-- one for a namespace a namespace answer with this namespace
abbrev pub IsAnswerTo : Request → Answer → Type 0
IsAnswerTo (asked.Sample cell axis) answer = Samples cell axis answer
IsAnswerTo (asked.Names name) answer = IsAnswerFor name answer

-- a frame is that of an answer to a request
abbrev pub IsFrameTo : Request → Frame → Type 0
IsFrameTo request frame = (answer : Answer) × (frame ≡ answer_frame answer) × IsAnswerTo request answer
