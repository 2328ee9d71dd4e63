-- verify HEADER ANSWER REQUEST: whether one answer is to a request, and holds under a header.
use Rattle.std.specs.Prelude.{◌≡◌, ◌⊎◌, ◌*◌, ℕ, List, [], ◌∷◌, ◌++◌, Bool, true, false, Some, Result}
use Rattle.std.specs.declared.option.Option.{Option}
use Rattle.namespace_id.specs.declared.cells.Cell.{Cell}
use Rattle.namespace_id.specs.declared.shares.Share.{Share}
use Rattle.data_header.specs.Headers.{Roots}
use Rattle.square_layout.specs.Blocks.{SquareShares}
use Rattle.axis_roots.specs.Grids.{Extends, share_at}
use Rattle.axis_roots.specs.Own.{NamesClash}
use Rattle.square_serve.specs.Own.{ShowsAll, AnswerNames}
use Rattle.blob_commit.specs.Places.{RootedText}
use Rattle.blob_commit.specs.Places as places
use Rattle.da_wire.specs.Spelling.{sample_kind, request_kind}
use Rattle.da_wire.specs.Reading.{only_of}
use Rattle.da_status.specs.Outcome.{Relation}
use Rattle.da_judging.specs.declared.answers.Answer.{Answer}
use Rattle.da_judging.specs.declared.answers.Answer.TheVariants.{Message, Names, Fraud, Commit, Rooted}
use Rattle.da_judging.specs.declared.answers.Request.{Request}
use Rattle.da_judging.specs.declared.answers.Request.TheVariants as asked
use Rattle.da_judging.specs.Answers.{request_of, is_answer_to}
use Rattle.da_files.specs.Contents.{file_of, header_file}
use Rattle.da_files.specs.Frames.{header_in, single_file, error_of}
use Rattle.da_files.specs.Forms.{under_judged, Over}
use Rattle.da_judging.specs.Verify.{answer_file, answer_in, IsAnswerRefusal, verdict_line, verdict_status}

-- ---- REQUEST

-- the kinds of requests
abbrev pub request_kinds : List ℕ
request_kinds = sample_kind ∷ request_kind ∷ []

-- the request that a file is, or where it stops being one
abbrev pub request_in : List ℕ → Result Request ℕ
request_in bytes = single_file request_of (only_of bytes request_kinds)

-- ---- the command

-- REQUEST, the third file of verify
abbrev pub request_file : List (List ℕ) → List ℕ
request_file files = file_of files 2

-- an answer that is to the request is refused by the check that refuses it without one, any other by the number 0
abbrev pub IsRefusalFor : Bool → Roots → Answer → Option ℕ → Type 0
IsRefusalFor true header answer refusal = IsAnswerRefusal header answer refusal
IsRefusalFor false header answer refusal = refusal ≡ Some 0

-- this is the share that the square's extension has at the cell
pub record IsShareAt (share : Share) (cell : Cell) (square : SquareShares) : Type 0 where
  pub grid : List Share
  pub extends : Extends square.k square.shares grid
  pub at_cell : share ≡ share_at (2 * square.k) grid cell

-- to a request for a sample this shows the share that the square's extension has at the cell that is asked for, to one for
-- a namespace exactly the square's shares of it; or it and the square name a collision; no other answer is to a request
abbrev pub ShowsAsked : Request → Answer → SquareShares → Type 0
ShowsAsked (asked.Sample cell axis) (Message m) square = IsShareAt m.share cell square ⊎ NamesClash m square
ShowsAsked (asked.Sample cell axis) (Names name answer) square = ⊥
ShowsAsked (asked.Sample cell axis) (Fraud claim) square = ⊥
ShowsAsked (asked.Sample cell axis) (Commit proof) square = ⊥
ShowsAsked (asked.Sample cell axis) (Rooted proof) square =
    IsShareAt proof.message.share cell square ⊎ places.PlacesNameClash (RootedText proof) square
ShowsAsked (asked.Names name) (Message m) square = ⊥
ShowsAsked (asked.Names name) (Names other answer) square = ShowsAll name square answer ⊎ AnswerNames name square answer
ShowsAsked (asked.Names name) (Fraud claim) square = ⊥
ShowsAsked (asked.Names name) (Commit proof) square = ⊥
ShowsAsked (asked.Names name) (Rooted proof) square = ⊥

-- HEADER is a header and nothing else, ANSWER one sample, one namespace answer, one fraud claim, one commitment proof or
-- one root proof and nothing else, and REQUEST one request for a sample or for a namespace and nothing else
abbrev pub verify_for_judged : List (List ℕ) → List (Option ℕ)
verify_for_judged files = under_judged answer_in files ++ error_of (request_in (request_file files)) ∷ []

-- the line and the status of an answer under a header, by whether it is what is asked for
abbrev pub VerifiesIf : Bool → Roots → Answer → Relation
VerifiesIf asked header answer w status =
    (refusal : Option ℕ) × IsRefusalFor asked header answer refusal × (w ≡ verdict_line refusal) × (status ≡ verdict_status refusal)

-- those of an answer to a request
abbrev pub VerifiesFor : Roots → Answer → Request → Relation
VerifiesFor header answer request = VerifiesIf (is_answer_to request answer) header answer

-- what verify answers to a HEADER, an ANSWER and a REQUEST in their forms
abbrev pub VerifyForOf : List (List ℕ) → Relation
VerifyForOf files =
    Over (header_in (header_file files)) (λ header. Over (answer_in (answer_file files))
    (λ answer. Over (request_in (request_file files)) (λ request. VerifiesFor header answer request)))
