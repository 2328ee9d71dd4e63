-- check HEADER MESSAGES: which samples of a list of frames are proved under a header.
use Rattle.std.specs.Prelude.{◌≡◌, ◌⊎◌, ℕ, List, codes, Bool, true, false, Some, if◌then◌else◌}
use Rattle.std.specs.List.{flat_map, list_all}
use Rattle.std.specs.Option.{option_map_or}
use Rattle.data_header.specs.Headers.{Roots}
use Rattle.axis_roots.specs.declared.message.messages.Message as sent
use Rattle.axis_roots.specs.declared.message.messages.CheckRefusal.TheVariants.{OutOfSquare, NodeCount, Unordered, OtherRoot}
use Rattle.axis_roots.specs.Messages.{message_refusal}
use Rattle.square_layout.specs.Blocks.{SquareShares}
use Rattle.axis_roots.specs.Openings.{IsProved}
use Rattle.axis_roots.specs.Own.{ShowsOwn, NamesClash}
use Rattle.da_wire.specs.Reading.{Raw}
use Rattle.da_wire.specs.Frames.{frames_of, raw_message}
use Rattle.da_status.specs.declared.status.Status.{Status}
use Rattle.da_status.specs.declared.status.Status.TheVariants.{Done, Refused}
use Rattle.da_judging.specs.declared.check.Finding.{Finding}
use Rattle.da_judging.specs.declared.check.Finding.TheVariants as found
use Rattle.da_files.specs.Contents.{header_file, messages_file}
use Rattle.da_files.specs.Frames.{header_in}
use Rattle.da_files.specs.Forms.{Over}
use Rattle.da_status.specs.Outcome.{Relation}

-- ---- MESSAGES

-- what is found of a frame
abbrev pub finding_of : Roots → Raw → Finding
finding_of header frame =
    option_map_or (λ m. option_map_or found.Refused (message_refusal header m) found.Proved) (raw_message frame) found.NoMessage

-- the line for what was found of a frame: the number of the first check that fails; that of the grammar is 0
abbrev pub line_of : Finding → List ℕ
line_of found.Proved = codes "ok\n"
line_of found.NoMessage = codes "refused 0\n"
line_of (found.Refused OutOfSquare) = codes "refused 1\n"
line_of (found.Refused NodeCount) = codes "refused 2\n"
line_of (found.Refused Unordered) = codes "refused 3\n"
line_of (found.Refused OtherRoot) = codes "refused 4\n"

-- whether what was found of a frame is that it is proved
abbrev pub is_ok : Finding → Bool
is_ok found.Proved = true
is_ok found.NoMessage = false
is_ok (found.Refused why) = false

-- the lines of all frames, in their order
abbrev pub check_lines : Roots → List Raw → List ℕ
check_lines header frames = flat_map (λ frame. line_of (finding_of header frame)) frames

-- whether all frames are proved
abbrev pub are_ok : Roots → List Raw → Bool
are_ok header frames = list_all (λ frame. is_ok (finding_of header frame)) frames

-- the status of a list of frames, by whether all are proved
abbrev pub status_of_lines : Bool → Status
status_of_lines all_ok = if all_ok then Done else Refused

-- a frame is a sample that is proved under the header
abbrev pub IsProvedFrame : Roots → Raw → Type 0
IsProvedFrame header frame = (m : sent.Message) × (raw_message frame ≡ Some m) × IsProved header m

-- a frame is a sample that shows the square's own share, or the sample and the square name a
-- collision
abbrev pub IsOwnFrame : Raw → SquareShares → Type 0
IsOwnFrame frame square =
    (m : sent.Message) × (raw_message frame ≡ Some m) × (ShowsOwn m square ⊎ NamesClash m square)

-- ---- the command

-- a line for each frame; Done where all are proved
abbrev pub Lists : Roots → List Raw → Relation
Lists header frames w status = (w ≡ check_lines header frames) × (status ≡ status_of_lines (are_ok header frames))

-- what check answers to a HEADER that is a header: the lines of the frames in MESSAGES under it
abbrev pub CheckOf : List (List ℕ) → Relation
CheckOf files = Over (header_in (header_file files)) (λ h. Lists h (frames_of (messages_file files)))
