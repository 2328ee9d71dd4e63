-- Commands that answer requests over a square: their frames are a choice, and the first request that has no answer is
-- refused.
use Rattle.std.specs.Prelude.{◌≡◌, ◌⊎◌, ℕ, List, Bool, Some, None, MatchOption}
use Rattle.std.specs.declared.option.Option.{Option}
use Rattle.data_header.specs.Headers.{Roots}
use Rattle.square_layout.specs.Blocks.{SquareShares}
use Rattle.axis_roots.specs.Grids.{IsHeaderOf, HasNoHeader}
use Rattle.da_wire.specs.declared.frames.Frame.{Frame}
use Rattle.da_status.specs.declared.status.Asked.TheVariants.{NoHeader, At}
use Rattle.da_status.specs.declared.status.Status.TheVariants.{Done, BadRequest}
use Rattle.da_files.specs.Contents.{file_of}
use Rattle.da_files.specs.Requests.{failing_from}
use Rattle.da_serving.specs.Choices.{FramesOf}
use Rattle.da_status.specs.Outcome.{Relation, Refuses}

-- REQUESTS, the second one
abbrev pub requests_file : List (List ℕ) → List ℕ
requests_file files = file_of files 1

-- for each request in its order a frame that it allows
abbrev pub GivesFrames : {A : Type 0} → (A → Frame → Type 0) → List A → Relation
GivesFrames Allows requests w status = FramesOf Allows requests w × (status ≡ Done)

-- what is written for requests under the header of the square: for each in its order a frame that it allows, where
-- all pass the test; else the first that doesn't is refused
abbrev pub AnswersRequests : {A : Type 0} → (A → Bool) → (A → Frame → Type 0) → List A → Relation
AnswersRequests test Allows requests w status =
    MatchOption (failing_from test 0 requests) (GivesFrames Allows requests w status)
    (λ i. Refuses (BadRequest (At i)) w status)

-- what is answered to requests over a square: that under its header, or the refusal of a square that has none
abbrev pub Serves : {A : Type 0} → SquareShares → (A → Bool) → (Roots → A → Frame → Type 0) → List A → Relation
Serves square test Allows requests w status =
    ((header : Roots) × IsHeaderOf header square × AnswersRequests test (Allows header) requests w status)
    ⊎ (HasNoHeader square × Refuses (BadRequest NoHeader) w status)

-- what was made serves a square under the square's header; nothing was where the square has none
abbrev pub IsMadeServer : {S : Type 0} → (S → SquareShares → Roots → Type 0) → SquareShares → Option S → Type 0
IsMadeServer Serves square None = HasNoHeader square
IsMadeServer Serves square (Some server) = (header : Roots) × IsHeaderOf header square × Serves server square header
