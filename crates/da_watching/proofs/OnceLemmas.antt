-- What is due in a talk with a watcher is one text.
use Rattle.std.proofs.Common.{◌≡◌, ◌∙◌, ℕ, Bool, true, false, true≢false, List, [], ◌∷◌, ◌++◌, length, Option, Some, None, refl, sym, ap, ap₂, subst, inl, inr}
use Rattle.std.specs.Prelude.{◌↔◌}
use Rattle.std.specs.Option.{option_map, option_map_or}
use Rattle.std.proofs.lemmas.Option.{same_Some, none-some}
use Rattle.namespace_id.specs.declared.cells.Cell.{Cell}
use Rattle.data_header.specs.Headers.{Roots}
use Rattle.axis_roots.specs.declared.message.messages.Message.{Message}
use Rattle.axis_roots.specs.Messages.{IsMessage, message_refusal}
use Rattle.axis_roots.specs.Openings.{IsProved}
use Rattle.axis_roots.specs.Claims.{ClaimParts}
use Rattle.befp_verify.specs.declared.verifying.FraudRefusal.{FraudRefusal}
use Rattle.befp_verify.specs.declared.verifying.FraudRefusal.TheVariants.{Shape, Cell as CellOf, Set, AxisMatches}
use Rattle.befp_verify.specs.Refusals.{HasFraudCause}
use Rattle.light_node.specs.declared.events.Event.{Event}
use Rattle.light_node.specs.declared.events.Event.TheVariants.{Sample, Claim}
use Rattle.light_node.specs.declared.events.LightState.{LightState}
use Rattle.light_node.specs.declared.events.LightState.TheVariants as state
use Rattle.light_node.specs.declared.events.Light.{Light}
use Rattle.light_node.specs.declared.events.Light.TheVariants as light
use Rattle.light_node.specs.Events.{IsState, IsLight}
use Rattle.frame_payloads.specs.declared.refusals.Reason.{Reason}
use Rattle.da_wire.specs.Reading.{Raw}
use Rattle.da_wire.specs.Frames.{raw_message, raw_claim}
use Rattle.da_status.specs.declared.status.Status.{Status}
use Rattle.da_judging.specs.Light.{event_in}
use Rattle.da_judging.specs.Check.{IsProvedFrame}
use Rattle.da_talk.specs.Replies.{refusal}
use Rattle.da_talk.specs.Handed.{asks_state}
use Rattle.da_talk.specs.Reasons.{sample_reason}
use Rattle.da_watching.specs.Watched.{frame_events, TellsVerdict, light_status, said_unasked, claim_reason, IsRefusedAs, IsLie, BeginsWatching, RepliesBy, RepliesWatching, Decides, EndsWatching}

-- ---- reasons

-- a claim is refused for one reason
cause_once : (header : Roots) (claim : ClaimParts) (one other : FraudRefusal) → HasFraudCause header claim (Some one) → HasFraudCause header claim (Some other) → claim_reason one ≡ claim_reason other
cause_once header claim Shape Shape a b = refl
cause_once header claim Shape (CellOf i why) a b = absurd (true≢false (sym b.0 ∙ a))
cause_once header claim Shape (Set why) a b = absurd (true≢false (sym b.0 ∙ a))
cause_once header claim Shape AxisMatches a b = absurd (true≢false (sym b.0 ∙ a))
cause_once header claim (CellOf i why) Shape a b = absurd (true≢false (sym a.0 ∙ b))
cause_once header claim (CellOf i why) (CellOf j other) a b = refl
cause_once header claim (CellOf i why) (Set other) a b = absurd (none-some _ (sym b.1 ∙ a.1))
cause_once header claim (CellOf i why) AxisMatches a b = absurd (none-some _ (sym b.1 ∙ a.1))
cause_once header claim (Set why) Shape a b = absurd (true≢false (sym a.0 ∙ b))
cause_once header claim (Set why) (CellOf i other) a b = absurd (none-some _ (sym a.1 ∙ b.1))
cause_once header claim (Set why) (Set other) a b = refl
cause_once header claim (Set why) AxisMatches a b = absurd (none-some _ (sym b.2 ∙ a.2))
cause_once header claim AxisMatches Shape a b = absurd (true≢false (sym a.0 ∙ b))
cause_once header claim AxisMatches (CellOf i other) a b = absurd (none-some _ (sym a.1 ∙ b.1))
cause_once header claim AxisMatches (Set other) a b = absurd (none-some _ (sym a.2 ∙ b.2))
cause_once header claim AxisMatches AxisMatches a b = refl

-- so is a frame, whatever event it is
refused_once : (header : Roots) (found : Option Event) (one other : Reason) → IsRefusedAs header found one → IsRefusedAs header found other → one ≡ other
refused_once header None one other a b = a ∙ sym b
refused_once header (Some (Sample m)) one other (why, refused, is) (again, twice, then) =
    is ∙ ap sample_reason (same_Some why again (sym refused ∙ twice)) ∙ sym then
refused_once header (Some (Claim claim)) one other (why, cause, is) (again, twice, then) = is ∙ cause_once header claim why again cause twice ∙ sym then

-- a proved sample isn't refused, by what is known of the refusals of samples
refused_unproved : (header : Roots) (m : Message) (found : Option Event) (reason : Reason)
    → (IsMessage m → (message_refusal header m ≡ None) ↔ IsProved header m)
    → found ≡ Some (Sample m) → IsProved header m → IsRefusedAs header found reason → ⊥
refused_unproved header m None reason law e proved lie = none-some (Sample m) e
refused_unproved header m (Some (Claim claim)) reason law e proved lie = absurd cc
refused_unproved header m (Some (Sample n)) reason law e proved (why, refused, is) =
    let same : n ≡ m = cc in
    none-some why (sym ((law proved.sized).1 proved) ∙ sym (ap (message_refusal header) same) ∙ refused)

-- the event of a frame that is a sample
sample_event : (frame : Raw) (m : Message) → raw_message frame ≡ Some m → event_in frame ≡ Some (Sample m)
sample_event frame m e = ap (λ (o : Option Message). option_map_or (λ x. Some (Sample x)) o (option_map Claim (raw_claim frame))) e

pub lie_unproved : (header : Roots) (frame : Raw) (reason : Reason)
    → ((m : Message) → IsMessage m → (message_refusal header m ≡ None) ↔ IsProved header m)
    → IsLie header frame reason → IsProvedFrame header frame → ⊥
lie_unproved header frame reason law lie (m, is, proved) =
    refused_unproved header m (event_in frame) reason (law m) (sample_event frame m is) proved lie

-- ---- texts

-- a verdict has one text
tells_once : (verdict : Light) (one other : List ℕ) → TellsVerdict verdict one → TellsVerdict verdict other → one ≡ other
tells_once light.Available one other a b = a ∙ sym b
tells_once (light.Waiting cells) one other a b = same_Some one other (sym a ∙ b)
tells_once (light.Rejected claim) one other a b = same_Some one other (sym a ∙ b)

-- what is proved of light verdicts
pub record AreLight : Type 0 where
  pub once : (header : Roots) (plan : List Cell) (events : List Event) (one other : Light) → IsLight header plan events one → IsLight header plan events other → one ≡ other
  pub state_once : (header : Roots) (plan : List Cell) (events : List Event) (one other : LightState) → IsState header plan events one → IsState header plan events other
      → one ≡ other

-- two claims of one verdict are one
same_claim : (one other : ClaimParts) → light.Rejected one ≡ light.Rejected other → one ≡ other
same_claim one other e = cc

module _ (laws : AreLight) (header : Roots) (plan : List Cell) where
  -- what is said first
  pub begins_once : (one other : List ℕ) → BeginsWatching header plan one → BeginsWatching header plan other → one ≡ other
  begins_once one other (now, is, text) (then, was, again) =
      text ∙ ap (said_unasked state.Waiting) (laws.state_once header plan [] now then is was) ∙ sym again

  -- the last words behind frames, and the status that goes with them
  pub ends_once : (frames : List Raw) (one other : List ℕ) (status kept : Status) → EndsWatching header plan frames one status → EndsWatching header plan frames other kept
      → (one ≡ other) × (status ≡ kept)
  ends_once frames one other status kept (none, verdict, is, told, goes) (still, again, was, twice, went) =
      let same = laws.once header plan (frame_events frames) verdict again is was in
      (tells_once again one other (subst (λ (v : Light). TellsVerdict v one) same told) twice, goes ∙ ap light_status same ∙ sym went)

  -- those of a claim
  pub decides_once : (frames : List Raw) (one other : List ℕ) (status kept : Status) → Decides header frames one status → Decides header frames other kept
      → (one ≡ other) × (status ≡ kept)
  decides_once frames one other status kept (claim, is, told, goes) (again, was, twice, went) =
      let same : claim ≡ again = same_claim claim again (laws.once header plan (frame_events frames) (light.Rejected claim) (light.Rejected again) is was) in (
        tells_once (light.Rejected again) one other (subst (λ (c : ClaimParts). TellsVerdict (light.Rejected c) one) same told) twice,
        goes ∙ ap (λ (c : ClaimParts). light_status (light.Rejected c)) same ∙ sym went,
      )

  module _ (frames : List Raw) (frame : Raw) (apart : (reason : Reason) → IsLie header frame reason → IsProvedFrame header frame → ⊥) where
    -- the reply to a frame, by whether it asks
    by_once : (asks : Bool) (one other : List ℕ) → RepliesBy asks header plan frames frame one → RepliesBy asks header plan frames frame other → one ≡ other
    by_once true one other (verdict, is, told) (again, was, twice) =
        tells_once again one other (subst (λ (v : Light). TellsVerdict v one) (laws.once header plan (frame_events frames) verdict again is was) told) twice
    by_once false one other (inl (reason, lie, text)) (inl (why, also, again)) =
        text ∙ ap (λ (r : Reason). refusal r (length frames)) (refused_once header (event_in frame) reason why lie also) ∙ sym again
    by_once false one other (inl (reason, lie, text)) (inr (proved, due)) = absurd (apart reason lie proved)
    by_once false one other (inr (proved, due)) (inl (reason, lie, text)) = absurd (apart reason lie proved)
    by_once false one other (inr (proved, (before, now, was, is, text))) (inr (also, (earlier, then, had, has, again))) =
        text ∙ ap₂ said_unasked (laws.state_once header plan (frame_events frames) before earlier was had)
        (laws.state_once header plan (frame_events (frames ++ frame ∷ [])) now then is has) ∙ sym again

    -- the reply to a frame
    pub replies_once : (one other : List ℕ) → RepliesWatching header plan frames frame one → RepliesWatching header plan frames frame other → one ≡ other
    replies_once one other a b = by_once (asks_state frame) one other a.0 b.0
