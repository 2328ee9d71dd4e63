-- show FILE, json FILE: the frames of a file as text, or as JSON.
use Rattle.std.specs.Prelude.{◌≡◌, ℕ, List, [], ◌∷◌, ◌++◌, Option}
use Rattle.std.specs.List.{flat_map}
use Rattle.da_wire.specs.declared.frames.Frame.{Frame}
use Rattle.da_wire.specs.Spelling.{header_kind, square_kind, message_kind, names_kind, fraud_kind, missing_kind, clash_kind, sample_kind, request_kind, block_kind, commit_kind, rooted_kind, transactions_kind, refusal_kind, state_kind}
use Rattle.da_wire.specs.Values.{values_of, bad_value}
use Rattle.da_show.specs.Text.{shown_text}
use Rattle.da_show.specs.Json.{json_text}
use Rattle.da_status.specs.declared.status.Status.TheVariants.{Done}
use Rattle.da_commands.specs.declared.show.Form.{Form}
use Rattle.da_commands.specs.declared.show.Form.TheVariants.{Text, Json}
use Rattle.da_files.specs.Contents.{file_of}
use Rattle.da_status.specs.Outcome.{Relation}

-- ---- frames

-- the kinds of all frames that there are
abbrev pub all_kinds : List ℕ
all_kinds =
    header_kind ∷ square_kind ∷ message_kind ∷ names_kind ∷ fraud_kind ∷ missing_kind ∷ clash_kind ∷ sample_kind
    ∷ request_kind ∷ block_kind ∷ commit_kind ∷ rooted_kind ∷ transactions_kind ∷ refusal_kind ∷ state_kind ∷ []

-- what a form shows of a frame
abbrev pub shown_as : Form → Frame → List ℕ
shown_as Text = shown_text
shown_as Json = json_text

-- what is shown of a frame, ended by a line feed
abbrev pub shown_line : (Frame → List ℕ) → Frame → List ℕ
shown_line shown frame = shown frame ++ 10 ∷ []

-- what is shown of each frame, each ended by a line feed
abbrev pub shown_bytes : (Frame → List ℕ) → List Frame → List ℕ
shown_bytes shown frames = flat_map (shown_line shown) frames

-- what is shown of each frame of a file
abbrev pub all_shown : (Frame → List ℕ) → List ℕ → List ℕ
all_shown shown bytes = shown_bytes shown (values_of all_kinds bytes)

-- ---- the commands

-- FILE, the one file of show and json
abbrev pub shown_file : List (List ℕ) → List ℕ
shown_file files = file_of files 0

-- this is written, and the output is complete
abbrev pub ShowsFrames : (Frame → List ℕ) → List Frame → Relation
ShowsFrames shown frames w status = (w ≡ shown_bytes shown frames) × (status ≡ Done)

-- FILE is a list of frames of any kind in the grammar
abbrev pub show_judged : List (List ℕ) → List (Option ℕ)
show_judged files = bad_value all_kinds (shown_file files) ∷ []

-- what show answers: the text of each frame
abbrev pub ShowOf : List (List ℕ) → Relation
ShowOf files = ShowsFrames shown_text (values_of all_kinds (shown_file files))

-- what json answers: the JSON of each frame
abbrev pub JsonOf : List (List ℕ) → Relation
JsonOf files = ShowsFrames json_text (values_of all_kinds (shown_file files))
