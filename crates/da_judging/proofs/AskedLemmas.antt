-- Answers, their frames, and what is the answer to a request.
use Rattle.std.proofs.Common.{◌≡◌, true, List, ℕ, Some, IsSome, Ok, refl, ap, ap₂, eqb-true, eq-eqb}
use Rattle.std.specs.Prelude.{◌↔◌, ◌&&◌, ◌==◌}
use Rattle.std.proofs.lemmas.Bool.{and_parts, and_from}
use Rattle.std.proofs.lemmas.Slice.Eq.{bytes_eq-Decides}
use Rattle.namespace_id.specs.declared.cells.Axis.{Axis}
use Rattle.namespace_id.specs.declared.cells.Axis.TheVariants.{Row, Col}
use Rattle.namespace_id.specs.declared.cells.Cell.{Cell}
use Rattle.namespace_id.specs.declared.namespaces.Namespace as names
use Rattle.namespace_id.specs.Bytes.{AreBytes}
use Rattle.namespace_id.specs.Cells.{cell_in}
use Rattle.axis_roots.specs.Sets.{is_one_axis, is_along}
use Rattle.axis_roots.specs.declared.message.messages.Message as sent
use Rattle.da_wire.specs.declared.frames.Frame.{Frame}
use Rattle.da_wire.specs.declared.frames.Frame.TheVariants as frames
use Rattle.da_wire.specs.Writing.{kind_of}
use Rattle.da_wire.specs.Spelling.{spelling, IsFrame}
use Rattle.da_wire.specs.Reading.{is_among, only_of}
use Rattle.da_wire.specs.Laws.{OnlyIsSpelled}
use Rattle.da_judging.specs.declared.answers.Answer.{Answer}
use Rattle.da_judging.specs.declared.answers.Answer.TheVariants.{Message, Names, Fraud, Commit, Rooted}
use Rattle.da_judging.specs.declared.answers.Request.{Request}
use Rattle.da_judging.specs.declared.answers.Request.TheVariants as asked
use Rattle.da_judging.specs.Answers.{answer_frame, answer_of, request_of, is_of_cell, is_sample, is_for, is_answer_to, Samples, IsAnswerFor, IsAnswerTo}
use Rattle.da_judging.specs.Verify.{answer_kinds, answer_in}
use Rattle.da_judging.specs.VerifyFor.{request_kinds}
use Rattle.da_files.proofs.FileLemmas.{single_value, value_single}

-- ---- frames

-- a frame of a kind of answers is an answer's
pub answer_there : (frame : Frame) → is_among answer_kinds (kind_of frame) ≡ true → IsSome (answer_of frame)
answer_there (frames.Message m) e = refl
answer_there (frames.Names name answer) e = refl
answer_there (frames.Fraud claim) e = refl
answer_there (frames.Commit proof) e = refl
answer_there (frames.Rooted proof) e = refl
answer_there frame e = absurd cc

-- a frame of a kind of requests is a request's
pub request_there : (frame : Frame) → is_among request_kinds (kind_of frame) ≡ true → IsSome (request_of frame)
request_there (frames.Sample cell axis) e = refl
request_there (frames.Request name) e = refl
request_there frame e = absurd cc

-- a frame that is an answer is the answer's
pub answer_made : (frame : Frame) (answer : Answer) → answer_of frame ≡ Some answer → frame ≡ answer_frame answer
answer_made (frames.Message m) answer e = let same : Message m ≡ answer = cc in ap answer_frame same
answer_made (frames.Names name found) answer e = let same : Names name found ≡ answer = cc in ap answer_frame same
answer_made (frames.Fraud claim) answer e = let same : Fraud claim ≡ answer = cc in ap answer_frame same
answer_made (frames.Commit proof) answer e = let same : Commit proof ≡ answer = cc in ap answer_frame same
answer_made (frames.Rooted proof) answer e = let same : Rooted proof ≡ answer = cc in ap answer_frame same
answer_made frame answer e = absurd cc

-- the frame of an answer is the answer
pub answer_again : (answer : Answer) → answer_of (answer_frame answer) ≡ Some answer
answer_again (Message m) = refl
answer_again (Names name answer) = refl
answer_again (Fraud claim) = refl
answer_again (Commit proof) = refl
answer_again (Rooted proof) = refl

-- it is of a kind of answers
pub answer_kind : (answer : Answer) → is_among answer_kinds (kind_of (answer_frame answer)) ≡ true
answer_kind (Message m) = refl
answer_kind (Names name answer) = refl
answer_kind (Fraud claim) = refl
answer_kind (Commit proof) = refl
answer_kind (Rooted proof) = refl

-- a file is read as an answer exactly where it is its one spelling
pub answer_file : OnlyIsSpelled → (bytes : List ℕ) (answer : Answer) → AreBytes bytes
    → (answer_in bytes ≡ Ok answer) ↔ (IsFrame (answer_frame answer) × (spelling (answer_frame answer) ≡ Some bytes))
answer_file only bytes answer fits =
    let read = only_of bytes answer_kinds in
    let law = only (answer_frame answer) bytes answer_kinds fits in (
      λ h. let is = law.0 (single_value answer_of answer_frame answer_made answer_again read answer h) in (is.0, is.1),
      λ h. value_single answer_of answer_frame answer_made answer_again read answer (law.1 (h.0, h.1, answer_kind answer)),
    )

-- ---- answers to requests

-- axes of one kind are one axis, and the other way
same_axis : (a b : Axis) → (is_one_axis a b ≡ true) ↔ (b ≡ a)
same_axis Row Row = (λ e. refl, λ e. refl)
same_axis Row Col = (λ e. absurd cc, λ e. absurd cc)
same_axis Col Row = (λ e. absurd cc, λ e. absurd cc)
same_axis Col Col = (λ e. refl, λ e. refl)

-- a sample is of a cell along an axis exactly where both are its own
of_cell : (cell : Cell) (axis : Axis) (m : sent.Message) → (is_of_cell cell axis m ≡ true) ↔ ((m.cell ≡ cell) × (m.axis ≡ axis))
of_cell cell axis m = (
  λ e.
      let outer = and_parts ((m.cell.row == cell.row) && (m.cell.col == cell.col)) (is_along axis m) e in
      let inner = and_parts (m.cell.row == cell.row) (m.cell.col == cell.col) outer.0 in (
        ap₂ cell_in (eqb-true m.cell.row cell.row inner.0) (eqb-true m.cell.col cell.col inner.1),
        (same_axis axis m.axis).0 outer.1,
      ),
  λ h. and_from ((m.cell.row == cell.row) && (m.cell.col == cell.col)) (is_along axis m)
      (and_from (m.cell.row == cell.row) (m.cell.col == cell.col) (eq-eqb m.cell.row cell.row (ap (λ (c : Cell). c.row) h.0))
      (eq-eqb m.cell.col cell.col (ap (λ (c : Cell). c.col) h.0)))
      ((same_axis axis m.axis).1 h.1),
)

-- an answer is a sample of a cell along an axis exactly where it is one of both by itself, or a root proof with one
sample_is : (cell : Cell) (axis : Axis) (answer : Answer) → (is_sample cell axis answer ≡ true) ↔ Samples cell axis answer
sample_is cell axis (Message m) = of_cell cell axis m
sample_is cell axis (Names name answer) = (λ e. absurd cc, λ h. absurd h)
sample_is cell axis (Fraud claim) = (λ e. absurd cc, λ h. absurd h)
sample_is cell axis (Commit proof) = (λ e. absurd cc, λ h. absurd h)
sample_is cell axis (Rooted proof) = of_cell cell axis proof.message

-- an answer is for a namespace exactly where it is a namespace answer with it
for_is : (name : names.Namespace) (answer : Answer) → (is_for name answer ≡ true) ↔ IsAnswerFor name answer
for_is name (Message m) = (λ e. absurd cc, λ h. absurd h)
for_is name (Names other answer) = (
  λ e. ap (λ (l : List ℕ). record { 0 = l }) ((bytes_eq-Decides other.0 name.0).0 e),
  λ h. (bytes_eq-Decides other.0 name.0).1 (ap (λ (n : names.Namespace). n.0) h),
)
for_is name (Fraud claim) = (λ e. absurd cc, λ h. absurd h)
for_is name (Commit proof) = (λ e. absurd cc, λ h. absurd h)
for_is name (Rooted proof) = (λ e. absurd cc, λ h. absurd h)

-- an answer is to a request exactly where it is a sample of the cell along the axis that are asked for, or a namespace
-- answer with the namespace that is asked for
pub answers_to : (request : Request) (answer : Answer) → (is_answer_to request answer ≡ true) ↔ IsAnswerTo request answer
answers_to (asked.Sample cell axis) answer = sample_is cell axis answer
answers_to (asked.Names name) answer = for_is name answer
