-- watch HEADER KEY COUNT TALK: what a sampling light node says to the frames of a talk (docs/FORMATS.md, "Talks").
use Rattle.std.specs.Prelude.{◌≡◌, ◌⊎◌, ℕ, List, [], ◌∷◌, ◌++◌, length, Bool, true, false, Option, Some, None}
use Rattle.std.specs.Option.{option_map}
use Rattle.namespace_id.specs.declared.cells.Cell.{Cell}
use Rattle.data_header.specs.Headers.{Roots}
use Rattle.axis_roots.specs.declared.message.messages.CheckRefusal.{CheckRefusal}
use Rattle.axis_roots.specs.Messages.{message_refusal}
use Rattle.axis_roots.specs.Claims.{ClaimParts, Accepts}
use Rattle.befp_verify.specs.declared.verifying.FraudRefusal.{FraudRefusal}
use Rattle.befp_verify.specs.declared.verifying.FraudRefusal.TheVariants as fraud
use Rattle.befp_verify.specs.Refusals.{HasFraudCause}
use Rattle.light_node.specs.declared.events.Event.{Event}
use Rattle.light_node.specs.declared.events.Event.TheVariants.{Sample, Claim}
use Rattle.light_node.specs.declared.events.LightState.{LightState}
use Rattle.light_node.specs.declared.events.LightState.TheVariants as state
use Rattle.light_node.specs.declared.events.Light.{Light}
use Rattle.light_node.specs.declared.events.Light.TheVariants as light
use Rattle.light_node.specs.Events.{NoneAccepted, IsFirstAccepted, IsState, IsLight}
use Rattle.frame_payloads.specs.declared.refusals.Reason.{Reason}
use Rattle.frame_payloads.specs.declared.refusals.Reason.TheVariants.{NoSuchFrame, FirstCheck, SecondCheck, ThirdCheck, FourthCheck}
use Rattle.frame_payloads.specs.kinds.State.{state_payload}
use Rattle.da_wire.specs.declared.frames.Frame.TheVariants as frames
use Rattle.da_wire.specs.Spelling.{frame, state_kind, spelling}
use Rattle.da_wire.specs.Reading.{Raw}
use Rattle.da_status.specs.declared.status.Status.{Status}
use Rattle.da_status.specs.declared.status.Status.TheVariants.{Done, Fraud, Waiting}
use Rattle.da_judging.specs.Light.{event_in, events_in}
use Rattle.da_judging.specs.Check.{IsProvedFrame}
use Rattle.da_talk.specs.Handed.{asks_state, fed}
use Rattle.da_talk.specs.Reasons.{sample_reason}
use Rattle.da_talk.specs.Replies.{refusal}

-- ---- frames

-- the samples and claims of the grammar among frames, in their order
abbrev pub frame_events : List Raw → List Event
frame_events frames = events_in (fed frames)

-- ---- verdicts

-- the frame that says that each drawn cell is shown
abbrev pub state_frame : List ℕ
state_frame = frame state_kind state_payload

-- the text of a verdict: a state where each drawn cell is shown, the cells that are waited for, or the claim
abbrev pub TellsVerdict : Light → List ℕ → Type 0
TellsVerdict light.Available text = text ≡ state_frame
TellsVerdict (light.Waiting cells) text = spelling (frames.Missing cells) ≡ Some text
TellsVerdict (light.Rejected claim) text = spelling (frames.Fraud claim) ≡ Some text

-- the status that goes with it
abbrev pub light_status : Light → Status
light_status light.Available = Done
light_status (light.Waiting cells) = Waiting (length cells.list)
light_status (light.Rejected claim) = Fraud claim.axis claim.index

-- what is said unasked where a state became another: a state frame where no drawn cell waits any more
abbrev pub said_unasked : LightState → LightState → List ℕ
said_unasked state.Waiting state.Available = state_frame
said_unasked before now = []

-- ---- lies

-- the reason of a refusal of a claim: the number that verify has for it
abbrev pub claim_reason : FraudRefusal → Reason
claim_reason fraud.Shape = FirstCheck
claim_reason (fraud.Cell i why) = SecondCheck
claim_reason fraud.AxisMatches = ThirdCheck
claim_reason (fraud.Set why) = FourthCheck

-- a frame that is this event, or none, is refused for this reason
abbrev pub IsRefusedAs : Roots → Option Event → Reason → Type 0
IsRefusedAs header None reason = reason ≡ NoSuchFrame
IsRefusedAs header (Some (Sample m)) reason =
    (why : CheckRefusal) × (message_refusal header m ≡ Some why) × (reason ≡ sample_reason why)
IsRefusedAs header (Some (Claim claim)) reason =
    (why : FraudRefusal) × HasFraudCause header claim (Some why) × (reason ≡ claim_reason why)

-- a frame is a lie, for this reason: no sample and no claim of the grammar, a sample that isn't proved, or a claim that
-- isn't accepted
abbrev pub IsLie : Roots → Raw → Reason → Type 0
IsLie header frame reason = IsRefusedAs header (event_in frame) reason

-- what a frame of the kind of claims holds, a claim of the grammar or none, is a lie for this reason
pub record IsFalseAccusal (header : Roots) (found : Option ClaimParts) (reason : Reason) : Type 0 where
  pub refused : IsRefusedAs header (option_map Claim found) reason
  pub wrong : (claim : ClaimParts) → found ≡ Some claim → Accepts header claim → ⊥

-- ---- what is due, where these cells were drawn under a header

-- before the first frame: a state frame where there is no drawn cell
abbrev pub BeginsWatching : Roots → List Cell → List ℕ → Type 0
BeginsWatching header plan text = (now : LightState) × IsState header plan [] now × (text ≡ said_unasked state.Waiting now)

-- to a frame that asks for the state, behind others: the verdict over them
abbrev pub RepliesToAsked : Roots → List Cell → List Raw → List ℕ → Type 0
RepliesToAsked header plan frames text =
    (verdict : Light) × IsLight header plan (frame_events frames) verdict × TellsVerdict verdict text

-- to a proved sample behind others: nothing, but a state frame where its cell was the last that waited
abbrev pub RepliesToProved : Roots → List Cell → List Raw → Raw → List ℕ → Type 0
RepliesToProved header plan frames frame text = (before now : LightState)
    × IsState header plan (frame_events frames) before
    × IsState header plan (frame_events (frames ++ frame ∷ [])) now × (text ≡ said_unasked before now)

-- to any other frame: a refusal of a lie, with its number
abbrev pub RepliesToFed : Roots → List Cell → List Raw → Raw → List ℕ → Type 0
RepliesToFed header plan frames frame text =
    ((reason : Reason) × IsLie header frame reason × (text ≡ refusal reason (length frames)))
    ⊎ (IsProvedFrame header frame × RepliesToProved header plan frames frame text)

-- by whether it asks for the state
abbrev pub RepliesBy : Bool → Roots → List Cell → List Raw → Raw → List ℕ → Type 0
RepliesBy true header plan frames frame text = RepliesToAsked header plan frames text
RepliesBy false header plan frames frame text = RepliesToFed header plan frames frame text

-- the reply to a frame behind others, where no claim was accepted so far: the talk goes on
abbrev pub RepliesWatching : Roots → List Cell → List Raw → Raw → List ℕ → Type 0
RepliesWatching header plan frames frame text = RepliesBy (asks_state frame) header plan frames frame text
    × NoneAccepted header (frame_events (frames ++ frame ∷ []))

-- the last words where the last of these frames is the first claim that is accepted: the claim, with its status
abbrev pub Decides : Roots → List Raw → List ℕ → Status → Type 0
Decides header frames text status = (claim : ClaimParts) × IsFirstAccepted header (frame_events frames) (Some claim)
    × TellsVerdict (light.Rejected claim) text × (status ≡ light_status (light.Rejected claim))

-- the last words where the bytes ended behind these frames: the verdict over them, with its status
abbrev pub EndsWatching : Roots → List Cell → List Raw → List ℕ → Status → Type 0
EndsWatching header plan frames text status = NoneAccepted header (frame_events frames)
    × (verdict : Light) × IsLight header plan (frame_events frames) verdict × TellsVerdict verdict text
    × (status ≡ light_status verdict)
