-- Frames that are longer than any claim.
use Rattle.std.proofs.Common.{◌≡◌, ℕ, ◌<◌, Bool, true, false, eqb, cond, List, length, Option, Some, None, refl, ap₂, arith}
use Rattle.std.specs.Option.{option_map, option_map_or}
use Rattle.axis_roots.specs.declared.message.messages.Message.{Message}
use Rattle.axis_roots.specs.Claims.{ClaimParts}
use Rattle.frame_fields.specs.Messages.{message_at}
use Rattle.frame_payloads.specs.kinds.Fraud.{fraud_at}
use Rattle.light_node.specs.declared.events.Event.TheVariants.{Sample, Claim}
use Rattle.da_wire.specs.Spelling.{message_kind, fraud_kind}
use Rattle.da_wire.specs.Reading.{Raw}
use Rattle.da_wire.specs.Frames.{raw_message, raw_claim}
use Rattle.da_judging.specs.Light.{event_in}
use Rattle.da_talk.specs.Handed.{if_within}
use Rattle.da_talk.proofs.HandedLemmas.{handed_none}
use Rattle.da_watching.specs.Sizes.{most_claim}
use Rattle.da_watching.proofs.ClaimLengths.{message_few, claim_few}

-- a longer payload is no sample
no_message : (payload : List ℕ) (found : Option Message) → most_claim < length payload → message_at payload ≡ found → found ≡ None
no_message payload None more e = refl
no_message payload (Some m) more e = absurd (omega (arith, more, message_few payload m e))

-- and no claim
no_claim : (payload : List ℕ) (found : Option ClaimParts) → most_claim < length payload → fraud_at payload ≡ found → found ≡ None
no_claim payload None more e = refl
no_claim payload (Some claim) more e = absurd (omega (arith, more, claim_few payload claim e))

-- nothing is there whatever a test says
none_by : {A : Type 0} (b : Bool) (found : Option A) → found ≡ None → cond b found None ≡ None
none_by true found e = e
none_by false found e = refl

-- a frame of which nothing is handed is no event
pub no_event : (frame : Raw) → None ≡ if_within most_claim frame → event_in frame ≡ None
no_event frame e =
    let more : most_claim < length frame.payload = handed_none most_claim frame e in
    let no_sample : raw_message frame ≡ None =
    none_by (eqb frame.kind message_kind) (message_at frame.payload) (no_message frame.payload (message_at frame.payload) more refl) in
    let no_accusal : raw_claim frame ≡ None = none_by (eqb frame.kind fraud_kind) (fraud_at frame.payload) (no_claim frame.payload (fraud_at frame.payload) more refl) in
    ap₂ (λ (m : Option Message) (c : Option ClaimParts). option_map_or (λ x. Some (Sample x)) m (option_map Claim c)) no_sample no_accusal
