-- What is due to a frame of a talk with a watcher.
use Rattle.std.proofs.Common.{◌≡◌, ◌∙◌, ℕ, Bool, true, false, List, [], ◌∷◌, ◌++◌, length, Option, Some, None, refl, sym, ap, subst, inl, inr}
use Rattle.std.specs.Option.{option_map, option_map_or}
use Rattle.namespace_id.specs.declared.cells.Cell.{Cell}
use Rattle.data_header.specs.Headers.{Roots}
use Rattle.axis_roots.specs.declared.message.messages.Message.{Message}
use Rattle.axis_roots.specs.Messages.{message_refusal}
use Rattle.axis_roots.specs.Openings.{IsProved}
use Rattle.axis_roots.specs.Claims.{ClaimParts}
use Rattle.light_node.specs.declared.events.Event.{Event}
use Rattle.light_node.specs.declared.events.Event.TheVariants.{Sample, Claim}
use Rattle.light_node.specs.declared.events.Light.{Light}
use Rattle.light_node.specs.declared.events.LightState.{LightState}
use Rattle.light_node.specs.Events.{NoneAccepted, IsState, IsLight}
use Rattle.frame_payloads.specs.declared.refusals.Reason.{Reason}
use Rattle.da_wire.specs.Reading.{Raw}
use Rattle.da_wire.specs.Frames.{raw_message, raw_claim}
use Rattle.da_judging.specs.Light.{event_in}
use Rattle.da_judging.specs.Check.{IsProvedFrame}
use Rattle.da_talk.specs.Replies.{refusal}
use Rattle.da_talk.specs.Handed.{asks_state}
use Rattle.da_talk.specs.Reasons.{sample_reason}
use Rattle.da_watching.specs.Watched.{frame_events, TellsVerdict, IsRefusedAs, RepliesBy, RepliesToFed, RepliesWatching, said_unasked}
use Rattle.da_watching.specs.Watchers.{WatchParts, HasFed, HasSeen}
use Rattle.da_watching.proofs.FedLemmas.{events_fed}
use Rattle.da_watching.proofs.LedLemmas.{none_led}

-- a frame that is a sample as an event is one of the grammar
sample_by : (sample : Option Message) (accusal : Option ClaimParts) (m : Message)
    → option_map_or (λ x. Some (Sample x)) sample (option_map Claim accusal) ≡ Some (Sample m) → sample ≡ Some m
sample_by (Some n) accusal m e = cc
sample_by None (Some claim) m e = absurd cc
sample_by None None m e = absurd cc

pub sample_of : (frame : Raw) (m : Message) → event_in frame ≡ Some (Sample m) → raw_message frame ≡ Some m
sample_of frame m e = sample_by (raw_message frame) (raw_claim frame) m e

module _ (header : Roots) (plan : List Cell) (frames : List Raw) (frame : Raw) (text : List ℕ) (none : NoneAccepted header (frame_events (frames ++ frame ∷ []))) where
  -- to a frame that asks for the state
  pub replies_asked : asks_state frame ≡ true → (verdict : Light) → IsLight header plan (frame_events frames) verdict → TellsVerdict verdict text → RepliesWatching header plan frames frame text
  replies_asked asks verdict is tells = (subst (λ (b : Bool). RepliesBy b header plan frames frame text) (sym asks) (verdict, is, tells), none)

  -- to another
  replies_fed : asks_state frame ≡ false → RepliesToFed header plan frames frame text → RepliesWatching header plan frames frame text
  replies_fed asks due = (subst (λ (b : Bool). RepliesBy b header plan frames frame text) (sym asks) due, none)

  -- to a lie, whatever event it is
  pub replies_lie : (found : Option Event) (reason : Reason) (number : ℕ) → asks_state frame ≡ false → event_in frame ≡ found → IsRefusedAs header found reason
      → length frames ≡ number → text ≡ refusal reason number → RepliesWatching header plan frames frame text
  replies_lie found reason number asks is lie counted e = replies_fed asks (inl (
    reason,
    subst (λ (o : Option Event). IsRefusedAs header o reason) (sym is) lie,
    e ∙ ap (refusal reason) (sym counted),
  ))

  -- to a proved sample
  pub replies_proved : asks_state frame ≡ false → IsProvedFrame header frame → (event : Event) → event_in frame ≡ Some event → (before now : LightState)
      → IsState header plan (frame_events frames) before → IsState header plan (frame_events frames ++ event ∷ []) now → text ≡ said_unasked before now
      → RepliesWatching header plan frames frame text
  replies_proved asks proved event is before now was then e = replies_fed asks (inr (
    proved,
    (before, now, was, subst (λ (l : List Event). IsState header plan l now) (sym (events_fed frames frame event asks is)) then, e),
  ))

-- to a sample that a watcher took
pub replies_seen : {F : Type 0} (picks : F → ℕ → Cell → Type 0) (first now new : WatchParts F) (frames : List Raw) (frame : Raw) (m : Message) (number : ℕ)
    (text : List ℕ) → HasFed picks first now frames → HasFed picks first new (frames ++ frame ∷ []) → now.claim ≡ None → new.claim ≡ None → asks_state frame ≡ false
    → event_in frame ≡ Some (Sample m) → length frames ≡ number → HasSeen picks now new m number text → RepliesWatching first.header first.plan frames frame text
replies_seen picks first now new frames frame m number text led after none still asks is counted seen =
    let quiet : NoneAccepted first.header (frame_events (frames ++ frame ∷ [])) = none_led picks first new (frames ++ frame ∷ []) after still in
    elim seen [
      | inl lie ↦ replies_lie first.header first.plan frames frame text quiet (Some (Sample m)) (sample_reason lie.0) number asks is
          (lie.0, subst (λ (h : Roots). message_refusal h m ≡ Some lie.0) led.header lie.1, refl) counted lie.2
      | inr fine ↦
          let due = fine.1 first.plan (frame_events frames) (led.node none) in
          replies_proved first.header first.plan frames frame text quiet asks (m, sample_of frame m is, subst (λ (h : Roots). IsProved h m) led.header fine.0) (Sample m) is
          due.1 due.2
          (subst (λ (h : Roots). IsState h first.plan (frame_events frames) due.1) led.header due.3)
          (subst (λ (h : Roots). IsState h first.plan (frame_events frames ++ Sample m ∷ []) due.2) led.header due.4) due.5
    ]
