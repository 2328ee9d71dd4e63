-- Where frames lead a watcher.
use Rattle.std.proofs.Common.{◌≡◌, ◌∙◌, ℕ, true, false, List, [], ◌∷◌, ◌++◌, Option, Some, None, is_some, refl, sym, subst, inl, inr}
use Rattle.std.specs.List.{Contains}
use Rattle.std.specs.Option.{option_map}
use Rattle.std.proofs.lemmas.Option.{none-some as none_some}
use Rattle.namespace_id.specs.declared.cells.Cell.{Cell}
use Rattle.namespace_id.proofs.MemberLemmas.{contains_none}
use Rattle.data_header.specs.Headers.{Roots}
use Rattle.axis_roots.specs.declared.message.messages.Message.{Message}
use Rattle.axis_roots.specs.Openings.{IsProved}
use Rattle.axis_roots.specs.Claims.{ClaimParts, Accepts}
use Rattle.light_node.specs.declared.events.Event.{Event}
use Rattle.light_node.specs.declared.events.Event.TheVariants.{Sample, Claim}
use Rattle.light_node.specs.Events.{NoneAccepted, IsFirstAccepted}
use Rattle.light_node.specs.Nodes.{NodeParts, NodeStands}
use Rattle.light_node.proofs.EventLemmas.{stays_shown, claim_shows, sample_shows, first_kept, first_by_sample, first_by_claim, none_by_claim}
use Rattle.frame_payloads.specs.declared.refusals.Reason.{Reason}
use Rattle.da_wire.specs.Reading.{Raw}
use Rattle.da_judging.specs.Light.{event_in}
use Rattle.da_talk.specs.Handed.{asks_state}
use Rattle.da_watching.specs.Watched.{frame_events, IsFalseAccusal}
use Rattle.da_watching.specs.Watchers.{WatchParts, IsFreshWatcher, HasFed, HasSeen}
use Rattle.da_watching.proofs.FedLemmas.{events_asked, events_fed, events_none, events_empty}

-- ---- nodes

module _ {F : Type 0} (picks : F → ℕ → Cell → Type 0) (node : NodeParts F) (plan : List Cell) (events : List Event)
    (stands : NodeStands picks node plan events) where
  -- a node stands for a sample more that isn't proved
  pub stands_unproved : (m : Message) → (IsProved node.header m → ⊥) → NodeStands picks node plan (events ++ Sample m ∷ [])
  stands_unproved m refused = record {
    count = stands.count;
    picked = stands.picked;
    wanted = stands.wanted;
    shown = λ cell within. (
      λ marked. stays_shown node.header events (Sample m) cell ((stands.shown cell within).0 marked),
      λ shown. elim (sample_shows node.header events m cell shown) [
        | inl before ↦ (stands.shown cell within).1 before
        | inr is ↦ absurd (refused is.0)
      ],
    );
    claim = first_by_sample node.header events m node.claim stands.claim;
  }

  -- the first accepted claim stays the first behind one that isn't accepted
  first_by_refused : (claim : ClaimParts) (kept : Option ClaimParts) → (Accepts node.header claim → ⊥) → IsFirstAccepted node.header events kept
      → IsFirstAccepted node.header (events ++ Claim claim ∷ []) kept
  first_by_refused claim None refused first = none_by_claim node.header events claim first refused
  first_by_refused claim (Some other) refused first = first_kept node.header events (Claim claim) other first

  -- and for a claim more that isn't accepted
  pub stands_refused : (claim : ClaimParts) → (Accepts node.header claim → ⊥) → NodeStands picks node plan (events ++ Claim claim ∷ [])
  stands_refused claim refused = record {
    count = stands.count;
    picked = stands.picked;
    wanted = stands.wanted;
    shown = λ cell within. (
      λ marked. stays_shown node.header events (Claim claim) cell ((stands.shown cell within).0 marked),
      λ shown. (stands.shown cell within).1 (claim_shows node.header events claim cell shown),
    );
    claim = first_by_refused claim node.claim refused stands.claim;
  }

-- ---- claims

-- no claim
pub no_claim : (claim : Option ClaimParts) → is_some claim ≡ false → claim ≡ None
no_claim None e = refl
no_claim (Some claim) e = absurd cc

-- where no claim is kept, none is accepted
pub none_kept : (header : Roots) (events : List Event) (claim : Option ClaimParts) → claim ≡ None → IsFirstAccepted header events claim → NoneAccepted header events
none_kept header events claim none first = subst (IsFirstAccepted header events) none first

module _ {F : Type 0} (picks : F → ℕ → Cell → Type 0) where
  -- a talk begins
  pub led_begin : (w : WatchParts F) → IsFreshWatcher picks w → HasFed picks w w []
  led_begin w fresh = record {
    header = refl;
    plan = refl;
    node = λ none. subst (NodeStands picks w.node w.plan) (sym events_empty) fresh.node;
    claim = subst (IsFirstAccepted w.header (frame_events [])) (sym fresh.claim)
        (λ claim at accepts. contains_none (Claim claim) (subst (λ (l : List Event). Contains l (Claim claim)) events_empty at));
  }

  module _ (first now : WatchParts F) (frames : List Raw) (led : HasFed picks first now frames) where
    -- no claim is accepted so far
    pub none_led : now.claim ≡ None → NoneAccepted first.header (frame_events frames)
    none_led none = none_kept first.header (frame_events frames) now.claim none led.claim

    -- a frame that is no event leads nowhere
    led_same : (frame : Raw) → frame_events (frames ++ frame ∷ []) ≡ frame_events frames → HasFed picks first now (frames ++ frame ∷ [])
    led_same frame same = record {
      header = led.header;
      plan = led.plan;
      node = λ none. subst (NodeStands picks now.node first.plan) (sym same) (led.node none);
      claim = subst (λ (l : List Event). IsFirstAccepted first.header l now.claim) (sym same) led.claim;
    }

    -- nor does one that asks for the state
    pub led_asked : (frame : Raw) → asks_state frame ≡ true → HasFed picks first now (frames ++ frame ∷ [])
    led_asked frame asks = led_same frame (events_asked frames frame asks)

    pub led_none : (frame : Raw) → asks_state frame ≡ false → event_in frame ≡ None → HasFed picks first now (frames ++ frame ∷ [])
    led_none frame asks none = led_same frame (events_none frames frame asks none)

    module _ (frame : Raw) (asks : asks_state frame ≡ false) where
      -- a sample
      pub led_sample : (new : WatchParts F) (m : Message) (number : ℕ) (text : List ℕ) → event_in frame ≡ Some (Sample m) → now.claim ≡ None
          → now.node.header ≡ now.header → new.header ≡ now.header → new.plan ≡ now.plan → new.claim ≡ now.claim → HasSeen picks now new m number text
          → HasFed picks first new (frames ++ frame ∷ [])
      led_sample new m number text is none own header plan claim seen =
          let events : frame_events (frames ++ frame ∷ []) ≡ frame_events frames ++ Sample m ∷ [] = events_fed frames frame (Sample m) asks is in
          let stood = led.node none in
          let stands : NodeStands picks new.node first.plan (frame_events frames ++ Sample m ∷ []) = elim seen [
            | inl lie ↦
                let unproved : IsProved now.node.header m → ⊥ = subst (λ (h : Roots). IsProved h m → ⊥) (sym own) lie.4 in
                subst (λ (w : WatchParts F). NodeStands picks w.node first.plan (frame_events frames ++ Sample m ∷ [])) (sym lie.3)
                (stands_unproved picks now.node first.plan (frame_events frames) stood m unproved)
            | inr fine ↦ (fine.1 first.plan (frame_events frames) stood).0
          ] in
          record {
            header = header ∙ led.header;
            plan = plan ∙ led.plan;
            node = λ still. subst (NodeStands picks new.node first.plan) (sym events) stands;
            claim = subst (λ (l : List Event). IsFirstAccepted first.header l new.claim) (sym events)
                (first_by_sample first.header (frame_events frames) m new.claim (subst (IsFirstAccepted first.header (frame_events frames)) (sym claim) led.claim));
          }

      -- a claim that isn't accepted
      pub led_refused : (claim : ClaimParts) → event_in frame ≡ Some (Claim claim) → now.claim ≡ None → now.node.header ≡ now.header → (Accepts now.header claim → ⊥)
          → HasFed picks first now (frames ++ frame ∷ [])
      led_refused claim is none own refused =
          let events : frame_events (frames ++ frame ∷ []) ≡ frame_events frames ++ Claim claim ∷ [] = events_fed frames frame (Claim claim) asks is in
          let wrong : Accepts first.header claim → ⊥ = subst (λ (h : Roots). Accepts h claim → ⊥) led.header refused in
          let still : NoneAccepted first.header (frame_events frames ++ Claim claim ∷ []) =
          none_by_claim first.header (frame_events frames) claim (none_led none) wrong in
          record {
            header = led.header;
            plan = led.plan;
            node = λ same. subst (NodeStands picks now.node first.plan) (sym events)
                (stands_refused picks now.node first.plan (frame_events frames) (led.node none) claim (subst (λ (h : Roots). Accepts h claim → ⊥) (sym own) refused));
            claim = subst (λ (l : List Event). IsFirstAccepted first.header l now.claim) (sym events)
                (subst (IsFirstAccepted first.header (frame_events frames ++ Claim claim ∷ [])) (sym none) still);
          }

      -- what is no claim, or one that isn't accepted
      pub led_false : (found : Option ClaimParts) (reason : Reason) → event_in frame ≡ option_map Claim found → now.claim ≡ None → now.node.header ≡ now.header
          → IsFalseAccusal now.header found reason → HasFed picks first now (frames ++ frame ∷ [])
      led_false None reason is none own lie = led_none frame asks is
      led_false (Some claim) reason is none own lie = led_refused claim is none own (lie.wrong claim refl)

      -- one that is
      pub led_accepted : (new : WatchParts F) (claim : ClaimParts) → event_in frame ≡ Some (Claim claim) → now.claim ≡ None → Accepts now.header claim
          → new.header ≡ now.header → new.plan ≡ now.plan → new.claim ≡ Some claim → HasFed picks first new (frames ++ frame ∷ [])
      led_accepted new claim is none accepts header plan kept =
          let events : frame_events (frames ++ frame ∷ []) ≡ frame_events frames ++ Claim claim ∷ [] = events_fed frames frame (Claim claim) asks is in
          record {
            header = header ∙ led.header;
            plan = plan ∙ led.plan;
            node = λ nothing. absurd (none_some claim (sym nothing ∙ kept));
            claim = subst (λ (l : List Event). IsFirstAccepted first.header l new.claim) (sym events)
                (subst (IsFirstAccepted first.header (frame_events frames ++ Claim claim ∷ [])) (sym kept)
                (first_by_claim first.header (frame_events frames) claim (none_led none) (subst (λ (h : Roots). Accepts h claim) led.header accepts)));
          }
