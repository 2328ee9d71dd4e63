-- The shapes of the files of commands: what is judged of which file, and what a command answers to files that were judged.
use Rattle.std.specs.Prelude.{◌≡◌, ℕ, List, [], ◌∷◌, Some, None, Result, Ok, Err, MatchResult, ⊤}
use Rattle.std.specs.declared.option.Option.{Option}
use Rattle.da_wire.specs.Frames.{bad_frame}
use Rattle.da_wire.specs.Values.{bad_value}
use Rattle.da_status.specs.declared.status.Status.{Status}
use Rattle.da_status.specs.declared.status.Status.TheVariants.{BadInput, NoMemory}
use Rattle.da_status.specs.Judging.{first_bad}
use Rattle.da_status.specs.Outcome.{Relation}
use Rattle.da_files.specs.Contents.{file_of}
use Rattle.da_files.specs.Frames.{header_in, square_in, error_of}

-- ---- shapes: of each file where it leaves its form, if it does

-- the one file is one value and nothing else
abbrev pub single_judged : {A : Type 0} → (List ℕ → Result A ℕ) → List (List ℕ) → List (Option ℕ)
single_judged value_in files = error_of (value_in (file_of files 0)) ∷ []

-- HEADER is a header and nothing else, and the file behind it one value and nothing else
abbrev pub under_judged : {A : Type 0} → (List ℕ → Result A ℕ) → List (List ℕ) → List (Option ℕ)
under_judged value_in files = error_of (header_in (file_of files 0)) ∷ error_of (value_in (file_of files 1)) ∷ []

-- HEADER is a header and nothing else, and MESSAGES a list of frames
abbrev pub messages_judged : List (List ℕ) → List (Option ℕ)
messages_judged files = error_of (header_in (file_of files 0)) ∷ bad_frame (file_of files 1) ∷ []

-- SQUARE is a square and nothing else, and REQUESTS a list of values of these kinds
abbrev pub requests_judged : List ℕ → List (List ℕ) → List (Option ℕ)
requests_judged kinds files = error_of (square_in (file_of files 0)) ∷ bad_value kinds (file_of files 1) ∷ []

-- ---- what is said of files that were judged

-- a command that stops at the files ends so: by the first that isn't in its form, at the place where it leaves it; or
-- because memory ran out
abbrev pub IsFormRefusal : List (Option ℕ) → Status → Type 0
IsFormRefusal judged (BadInput i at) = first_bad 0 judged ≡ Some (i, at)
IsFormRefusal judged NoMemory = ⊤
IsFormRefusal judged status = ⊥

-- files were read, and all are in their forms; or they were refused by this status
abbrev pub IsJudged : {A : Type 0} → List (Option ℕ) → Result A Status → Type 0
IsJudged judged (Ok read) = first_bad 0 judged ≡ None
IsJudged judged (Err status) = IsFormRefusal judged status

-- the answer to what a file is; no answer belongs to a file that isn't in its form
abbrev pub Over : {A : Type 0} → Result A ℕ → (A → Relation) → Relation
Over read Answer w status = MatchResult read (λ value. Answer value w status) (λ at. ⊥)
