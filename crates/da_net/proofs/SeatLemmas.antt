-- Seats whose nodes are handed one item more, and how they stand.
use Rattle.std.proofs.Common.{◌≡◌, ℕ, List, [], ◌∷◌, ◌++◌, refl, sym, ap, subst, inl, inr}
use Rattle.std.specs.Prelude.{Option, Some, None}
use Rattle.namespace_id.specs.declared.cells.Cell.{Cell}
use Rattle.data_header.specs.Headers.{Roots}
use Rattle.axis_roots.specs.Claims.{ClaimParts, Accepts}
use Rattle.light_node.specs.declared.events.Event.{Event}
use Rattle.light_node.specs.declared.events.LightState.{LightState}
use Rattle.light_node.specs.declared.events.LightState.TheVariants as seen
use Rattle.light_node.specs.declared.events.Light.{Light as LightVerdict}
use Rattle.light_node.specs.declared.events.Light.TheVariants as verdict
use Rattle.light_node.specs.Events.{IsState, IsFirstAccepted, IsLight}
use Rattle.light_node.specs.Nodes.{NodeParts, NodeStands}
use Rattle.da_net.specs.declared.items.Item.{Item}
use Rattle.da_net.specs.declared.items.Item.TheVariants as item
use Rattle.da_net.specs.declared.seats.Node.{Node}
use Rattle.da_net.specs.declared.seats.Node.TheVariants.{Full, Light}
use Rattle.da_net.specs.declared.seats.Seat.{Seat}
use Rattle.da_net.specs.declared.copies.ClaimRoom.{ClaimRoom}
use Rattle.da_net.specs.Networks.{item_events, Standing, waiting, available, rejecting}
use Rattle.da_net.specs.Nodes.{IsLightNode}
use Rattle.da_net.specs.Nets.{FitsAlarm, standing_state, light_state, rejecting_claim}
use Rattle.da_net.specs.Seats.{alarm_with, IsNodeFor, IsSeat, IsSeatStep, SeatStands}
use Rattle.da_net.proofs.FullLemmas.{full_unaccepted}
use Rattle.da_net.proofs.LightLemmas.{light_unaccepted, among}
use Rattle.light_node.proofs.StandingLemmas.{state_distinct}

-- ---- light nodes

-- the claim that a light node holds
pub claim_with : (o : Option ClaimParts) → rejecting_claim (alarm_with o) ≡ o
claim_with None = refl
claim_with (Some claim) = refl

-- ---- claims that aren't accepted

node_unaccepted : {F : Type 0} (picks : F → ℕ → Cell → Type 0) (header : Roots) (items : List Item) (node : Node F) (claim : ClaimParts)
    → (Accepts header claim → ⊥) → IsNodeFor picks header items node → IsNodeFor picks header (items ++ item.Claim claim ∷ []) node
node_unaccepted picks header items (Full node) claim not is = full_unaccepted header items claim node not is
node_unaccepted picks header items (Light node) claim not is = light_unaccepted picks header items node is claim not

-- they change nothing
pub unaccepted_step : {F : Type 0} (picks : F → ℕ → Cell → Type 0) (header : Roots) (items : List Item) (seat : Seat F) (claim : ClaimParts)
    → (Accepts header claim → ⊥) → IsSeat picks header items seat → IsSeatStep picks header (items ++ item.Claim claim ∷ []) seat seat
unaccepted_step picks header items seat claim not is = record {
  seat = record { is_node = node_unaccepted picks header items seat.node claim not is.is_node; spare = is.spare };
  kind = refl;
  keeps = λ claim e. e;
  unpublished = refl;
}

-- ---- how nodes stand

-- a light node's standing, with the claim that it holds
light_by : {F : Type 0} (header : Roots) (items : List Item) (node : NodeParts F) (kept published : Option ClaimRoom) (o : Option ClaimParts)
    (one : LightState) → node.claim ≡ o → IsState header node.wanted (item_events items) one → IsFirstAccepted header (item_events items) o
    → (standing : Standing) × SeatStands header items (record { node = Light node; kept = kept; published = published }) standing
    × (light_state one ≡ standing_state standing)
light_by header items node kept published None seen.Waiting e is first = (
  waiting,
  record {
    stands = is;
    fits = subst (λ (o : Option ClaimParts). FitsAlarm (alarm_with o) waiting) (sym e) (λ alarmed. elim alarmed [
      | inl never ↦ never
      | inr never ↦ never
    ]);
  },
  refl,
)
light_by header items node kept published None seen.Available e is first = (
  available,
  record {
    stands = is;
    fits = subst (λ (o : Option ClaimParts). FitsAlarm (alarm_with o) available) (sym e) (λ alarmed. elim alarmed [
      | inl never ↦ never
      | inr never ↦ never
    ]);
  },
  refl,
)
light_by header items node kept published None seen.Rejected e is first = absurd (accepted_none is)
  where
    accepted_none : IsState header node.wanted (item_events items) seen.Rejected → ⊥
    accepted_none (claim, found) = first claim (among header (item_events items) claim found) found.0
light_by header items node kept published (Some claim) seen.Waiting e is first = absurd (is.0 claim (among header (item_events items) claim first) first.0)
light_by header items node kept published (Some claim) seen.Available e is first = absurd (is.0 claim (among header (item_events items) claim first) first.0)
light_by header items node kept published (Some claim) seen.Rejected e is first = (
  rejecting claim,
  record { stands = first; fits = subst (λ (o : Option ClaimParts). FitsAlarm (alarm_with o) (rejecting claim)) (sym e) refl },
  refl,
)

-- a light node stands as its state says
pub light_standing : {F : Type 0} (picks : F → ℕ → Cell → Type 0) (header : Roots) (items : List Item) (node : NodeParts F)
    (kept published : Option ClaimRoom) (one : LightState) → IsLightNode picks header items node
    → ((plan : List Cell) (events : List Event) → NodeStands picks node plan events → IsState node.header plan events one)
    → (standing : Standing) × SeatStands header items (record { node = Light node; kept = kept; published = published }) standing
    × (light_state one ≡ standing_state standing)
light_standing picks header items node kept published one is state =
    let by_plan = subst (λ (h : Roots). IsState h is.plan (item_events items) one) is.header_is (state is.plan (item_events items) is.stands) in
    light_by header items node kept published node.claim one refl
    (subst (λ (l : List Cell). IsState header l (item_events items) one) (sym is.stands.wanted) (state_distinct header is.plan (item_events items) one by_plan))
    (subst (λ (h : Roots). IsFirstAccepted h (item_events items) node.claim) is.header_is is.stands.claim)

module _ {F : Type 0} (picks : F → ℕ → Cell → Type 0) (header : Roots) (items : List Item) (seat : Seat F) (node : NodeParts F) (e : seat.node ≡ Light node)
    (is : IsSeat picks header items seat) where
  -- the light node of a seat
  pub light_in : IsLightNode picks header items node
  light_in = subst (λ (n : Node F). IsNodeFor picks header items n) e is.is_node

  -- stands as its state says
  pub light_stands : (one : LightState) → ((plan : List Cell) (events : List Event) → NodeStands picks node plan events → IsState node.header plan events one)
      → (standing : Standing) × SeatStands header items seat standing × (light_state one ≡ standing_state standing)
  light_stands one state =
      subst (λ (n : Node F). (standing : Standing) × SeatStands {F = F} header items (record { node = n; kept = seat.kept; published = seat.published }) standing
      × (light_state one ≡ standing_state standing)) (sym e) (light_standing picks header items node seat.kept seat.published one light_in state)

-- ---- claims that light nodes answer

-- the first accepted claim is one
pub same_claims : ((header : Roots) (plan : List Cell) (events : List Event) (one other : LightVerdict) → IsLight header plan events one
    → IsLight header plan events other → one ≡ other)
    → (header : Roots) (events : List Event) (a b : Option ClaimParts) → IsFirstAccepted header events a → IsFirstAccepted header events b → a ≡ b
same_claims once header events None None one two = refl
same_claims once header events None (Some claim) one two = absurd (one claim (among header events claim two) two.0)
same_claims once header events (Some claim) None one two = absurd (two claim (among header events claim one) one.0)
same_claims once header events (Some claim) (Some other) one two =
    ap Some (same_rejected claim other (once header [] events (verdict.Rejected claim) (verdict.Rejected other) one two))
  where
    same_rejected : (a b : ClaimParts) → verdict.Rejected a ≡ verdict.Rejected b → a ≡ b
    same_rejected a b e = cc
