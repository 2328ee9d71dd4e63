-- light HEADER MESSAGES KEY COUNT: the verdict of a light node that drew its cells by a key, which is a word or stands in a
-- file.
use Rattle.std.specs.Prelude.{◌≡◌, ◌≢◌, ◌⊎◌, ℕ, List, [], ◌∷◌, ◌++◌, length, codes, nat_lt, Bool, true, false, Option, Some, ⊤}
use Rattle.std.specs.Option.{option_map, option_map_or}
use Rattle.namespace_id.specs.declared.cells.Axis.{Axis}
use Rattle.namespace_id.specs.declared.cells.Cell.{Cell}
use Rattle.data_header.specs.Headers.{Roots}
use Rattle.square_layout.specs.Blocks.{SquareShares}
use Rattle.axis_roots.specs.Claims.{ClaimParts, ClaimNames}
use Rattle.sampling.specs.Draws.{draw_limit, drawn_cells}
use Rattle.light_node.specs.declared.events.Event.{Event}
use Rattle.light_node.specs.declared.events.Event.TheVariants.{Sample, Claim}
use Rattle.light_node.specs.declared.events.Light.{Light}
use Rattle.light_node.specs.declared.events.Light.TheVariants as light
use Rattle.light_node.specs.Events.{IsLight}
use Rattle.da_wire.specs.declared.frames.Frame.TheVariants as frames
use Rattle.da_wire.specs.Spelling.{spelling}
use Rattle.frame_payloads.specs.kinds.Fraud.{is_unwritten}
use Rattle.da_wire.specs.Reading.{Raw}
use Rattle.da_wire.specs.Frames.{frames_of, raw_message, raw_claim}
use Rattle.da_status.specs.declared.status.Asked.TheVariants.{Count}
use Rattle.da_status.specs.declared.status.Status.TheVariants.{Done, BadRequest, Fraud, Waiting}
use Rattle.da_status.specs.Outcome.{Relation, Refuses}
use Rattle.da_files.specs.Frames.{header_in, error_of}
use Rattle.da_files.specs.Forms.{messages_judged, Over}
use Rattle.da_files.specs.Contents.{file_of, header_file, messages_file}
use Rattle.da_judging.specs.Keys.{key_file_in}

-- ---- MESSAGES

-- the event that a frame is: a sample of the grammar or a fraud claim of the grammar; any other frame is none
abbrev pub event_in : Raw → Option Event
event_in frame = option_map_or (λ m. Some (Sample m)) (raw_message frame) (option_map Claim (raw_claim frame))

-- the events among frames, in their order
unfoldable pub events_in : List Raw → List Event
events_in [] = []
events_in (frame ∷ later) = option_map_or (λ event. event ∷ events_in later) (event_in frame) (events_in later)

-- ---- answers

-- the output of a verdict with its status: a line, the frame of the claim, or that of the cells that are waited for
abbrev pub GivesLight : Light → Relation
GivesLight light.Available w status = (w ≡ codes "available\n") × (status ≡ Done)
GivesLight (light.Rejected claim) w status =
    (spelling (frames.Fraud claim) ≡ Some w) × (status ≡ Fraud claim.axis claim.index)
GivesLight (light.Waiting cells) w status =
    (spelling (frames.Missing cells) ≡ Some w) × (status ≡ Waiting (length cells.list))

-- a verdict has an output: its claim can be written, and there are cells that it waits for
abbrev pub HasOutput : Light → Type 0
HasOutput light.Available = ⊤
HasOutput (light.Rejected claim) = is_unwritten claim ≡ false
HasOutput (light.Waiting cells) = cells.list ≢ []

-- what is written for frames under a header where these cells were planned: the light verdict
abbrev pub Judges : Roots → List Cell → List Raw → Relation
Judges header plan raws w status = (verdict : Light) × IsLight header plan (events_in raws) verdict × GivesLight verdict w
    status

-- the answer to a count that may be above the limit, which is refused
abbrev pub Counted : Bool → Relation → Relation
Counted true Answer = Refuses (BadRequest Count)
Counted false Answer = Answer

-- a count above the limit is refused; else the verdict on the cells that the key draws
abbrev pub Lights : List ℕ → ℕ → Roots → List Raw → Relation
Lights key count header raws =
    Counted (nat_lt (draw_limit header.k) count) (Judges header (drawn_cells key header.k count) raws)

-- under the header of a square: no claim is written, or one of which a sample and the square name a collision
abbrev pub JudgesOwn : SquareShares → Relation
JudgesOwn square w status = ((axis : Axis) (i : ℕ) → status ≢ Fraud axis i)
    ⊎ ((claim : ClaimParts) × (spelling (frames.Fraud claim) ≡ Some w) × ClaimNames claim square)

-- ---- the command

-- what light answers to a HEADER that is a header
abbrev pub LightOf : List ℕ → ℕ → List (List ℕ) → Relation
LightOf key count files =
    Over (header_in (header_file files)) (λ h. Lights key count h (frames_of (messages_file files)))

-- KEY, the third file of light where its word names one
abbrev pub light_key_file : List (List ℕ) → List ℕ
light_key_file files = file_of files 2

-- HEADER is a header and nothing else, MESSAGES a list of frames, and KEY a key
abbrev pub light_by_judged : List (List ℕ) → List (Option ℕ)
light_by_judged files = messages_judged files ++ error_of (key_file_in (light_key_file files)) ∷ []

-- what light answers to a KEY that is a key: what it answers where this key is the word
abbrev pub LightByOf : ℕ → List (List ℕ) → Relation
LightByOf count files = Over (key_file_in (light_key_file files)) (λ key. LightOf key count files)
