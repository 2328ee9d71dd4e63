-- What the state of a node promises.
use Rattle.std.proofs.Common.{◌≡◌, ◌∙◌, ℕ, List, Option, Some, None, refl, sym, ap, subst, inl, inr}
use Rattle.std.specs.Prelude.{◌⊎◌}
use Rattle.std.specs.List.{Contains}
use Rattle.data_header.specs.Headers.{Roots}
use Rattle.square_layout.specs.Blocks.{SquareShares}
use Rattle.axis_roots.specs.Grids.{IsHeaderOf}
use Rattle.axis_roots.specs.Claims.{ClaimParts, Accepts}
use Rattle.repair_queue.specs.Settled.{IsSettled}
use Rattle.da_net.specs.declared.items.Item.{Item}
use Rattle.da_net.specs.declared.items.Item.TheVariants as item
use Rattle.da_net.specs.declared.items.NodeState.{NodeState}
use Rattle.da_net.specs.declared.items.NodeState.TheVariants as state
use Rattle.da_net.specs.Networks.{messages_of, NodeKind, full, light, Standing, settled, clashing, waiting, available, rejecting, NodeMayStand, IsRejecting, handed, IsRun}
use Rattle.da_net.specs.Promises.{IsAlarmed, PoolNames}
use Rattle.da_net.specs.Nets.{NetParts, network_of, FitsAlarm, standing_state, HasState}
use Rattle.da_net.specs.declared.full.End.{End}
use Rattle.da_net.specs.declared.full.End.TheVariants as end
use Rattle.da_net.specs.declared.seats.Node.{Node}
use Rattle.da_net.specs.declared.seats.Node.TheVariants.{Full, Light}
use Rattle.da_net.specs.Seats.{alarm_by, alarm_with, alarm_of}
use Rattle.da_net.proofs.PromiseLemmas.{rejects_by, alarmed_names}

-- who rejects is in state Rejected
rejects_state : (s : Standing) → IsRejecting s → standing_state s ≡ state.Rejected
rejects_state settled r = absurd r
rejects_state (clashing left right) r = absurd r
rejects_state waiting r = absurd r
rejects_state available r = absurd r
rejects_state (rejecting claim) r = refl

-- who was handed an accepted claim is in state Rejected
pub state_rejects : (net : NetParts) (node : ℕ) (one : NodeState) → HasState net node one → (claim : ClaimParts)
    → Contains (handed net.pool net.steps node) (item.Claim claim) → Accepts net.header claim → one ≡ state.Rejected
state_rejects net node one (standing, has, e) claim at accepts =
    e ∙ rejects_state standing (rejects_by net.header has.kind (handed net.pool net.steps node) claim standing at accepts has.stands)

-- who is open is settled
open_settled : (header : Roots) (kind : NodeKind) (items : List Item) (s : Standing) → standing_state s ≡ state.Open → NodeMayStand header kind items s → IsSettled header (messages_of items)
open_settled header full items settled e stands = stands.1
open_settled header (light plan) items settled e stands = absurd stands
open_settled header kind items (clashing left right) e stands = absurd cc
open_settled header kind items waiting e stands = absurd cc
open_settled header kind items available e stands = absurd cc
open_settled header kind items (rejecting claim) e stands = absurd cc

pub state_settled : (net : NetParts) (node : ℕ) (one : NodeState) → HasState net node one → one ≡ state.Open
    → IsSettled net.header (messages_of (handed net.pool net.steps node))
state_settled net node one (standing, has, e) is_open =
    open_settled net.header has.kind (handed net.pool net.steps node) standing (sym e ∙ is_open) has.stands

-- in states Rejected and Clash a node is alarmed
alarmed_state : (s : Standing) → (standing_state s ≡ state.Rejected) ⊎ (standing_state s ≡ state.Clash) → IsAlarmed s
alarmed_state settled (inl e) = absurd cc
alarmed_state settled (inr e) = absurd cc
alarmed_state (clashing left right) e = inr tt
alarmed_state waiting (inl e) = absurd cc
alarmed_state waiting (inr e) = absurd cc
alarmed_state available (inl e) = absurd cc
alarmed_state available (inr e) = absurd cc
alarmed_state (rejecting claim) e = inl tt

-- under the header of a square that names a collision
pub state_names : (net : NetParts) (node : ℕ) (one : NodeState) → IsRun (network_of net) net.pool net.steps → HasState net node one → (square : SquareShares)
    → IsHeaderOf net.header square → (one ≡ state.Rejected) ⊎ (one ≡ state.Clash) → PoolNames net.pool square
state_names net node one run (standing, has, e) square own bad =
    alarmed_names (network_of net) net.pool net.steps node square run own has.kind standing has.stands
    (alarmed_state standing (subst (λ (s : NodeState). (s ≡ state.Rejected) ⊎ (s ≡ state.Clash)) e bad))

-- ---- who isn't alarmed

-- what ends a full node shows in its state
end_calm : (o : Option End) (s : Standing) (one : NodeState) → FitsAlarm (alarm_by o) s → one ≡ standing_state s → (one ≡ state.Rejected → ⊥) → (one ≡ state.Clash → ⊥)
    → alarm_by o ≡ None
end_calm None s one fits e not_rejected not_clash = refl
end_calm (Some (end.Clash pair)) s one fits e not_rejected not_clash = absurd (not_clash (e ∙ ap standing_state fits))
end_calm (Some (end.Rejected claim)) s one fits e not_rejected not_clash = absurd (not_rejected (e ∙ ap standing_state fits))

-- and so does the claim of a light node
claim_calm : (o : Option ClaimParts) (s : Standing) (one : NodeState) → FitsAlarm (alarm_with o) s → one ≡ standing_state s → (one ≡ state.Rejected → ⊥)
    → alarm_with o ≡ None
claim_calm None s one fits e not_rejected = refl
claim_calm (Some claim) s one fits e not_rejected = absurd (not_rejected (e ∙ ap standing_state fits))

-- a node in another state was not alarmed
pub node_calm : {F : Type 0} (node : Node F) (s : Standing) (one : NodeState) → FitsAlarm (alarm_of node) s → one ≡ standing_state s → (one ≡ state.Rejected → ⊥)
    → (one ≡ state.Clash → ⊥) → alarm_of node ≡ None
node_calm (Full node) s one fits e not_rejected not_clash = end_calm node.end s one fits e not_rejected not_clash
node_calm (Light node) s one fits e not_rejected not_clash = claim_calm node.claim s one fits e not_rejected
