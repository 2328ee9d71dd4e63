-- What full nodes and light nodes keep, and for which items they stand.
use Rattle.std.specs.Prelude.{◌≡◌, ℕ, List, [], Option, Some, None}
use Rattle.namespace_id.specs.declared.cells.Cell.{Cell}
use Rattle.namespace_id.specs.Answers.{HasCapacity}
use Rattle.data_header.specs.Headers.{Roots}
use Rattle.axis_roots.specs.declared.message.messages.Message.{Message}
use Rattle.axis_roots.specs.Claims.{ClaimParts}
use Rattle.repair_queue.specs.Verdicts.{VerdictParts, whole, missing, fraud, clash, IsFraud, IsFoundClash}
use Rattle.repair_queue.specs.SessionParts.{SessionParts, SessionStands}
use Rattle.repair_queue.specs.Sessions.{session_state}
use Rattle.repair_queue.specs.declared.sessions.SessionState.TheVariants as state
use Rattle.light_node.specs.Nodes.{NodeParts, NodeStands}
use Rattle.da_net.specs.declared.items.Item.{Item}
use Rattle.da_net.specs.declared.full.End.{End}
use Rattle.da_net.specs.declared.full.End.TheVariants as end
use Rattle.da_net.specs.declared.full.Fed.{Fed}
use Rattle.da_net.specs.declared.full.Fed.TheVariants.{On, Ended}
use Rattle.da_net.specs.declared.full.FullNode.{FullNode}
use Rattle.da_net.specs.declared.copies.ClaimRoom.{ClaimRoom}
use Rattle.da_net.specs.Networks.{messages_of, item_events, full, Standing, settled, clashing, rejecting, NodeMayStand}

-- a room for a claim of so many samples, and as many nodes of a set, with none in it
pub record IsSpareClaim (count : ℕ) (room : ClaimRoom) : Type 0 where
  pub no_cells : room.cells.items ≡ []
  pub cell_capacity : HasCapacity room.cells count
  pub no_nodes : room.nodes.items ≡ []
  pub node_capacity : HasCapacity room.nodes count

-- such a room is there
abbrev pub HasSpareClaim : ℕ → Option ClaimRoom → Type 0
HasSpareClaim count None = ⊥
HasSpareClaim count (Some room) = IsSpareClaim count room

-- ---- full nodes

-- how a full node stands, by what ended it
abbrev pub standing_by : Option End → Standing
standing_by None = settled
standing_by (Some (end.Clash pair)) = clashing pair.left pair.right
standing_by (Some (end.Rejected claim)) = rejecting claim

-- a session of the header that nothing ended stands for these samples
pub record IsNodeSession (header : Roots) (ms : List Message) (s : SessionParts) : Type 0 where
  pub header_is : s.header ≡ header
  pub goes_on : session_state s ≡ state.Open
  pub stands : SessionStands s ms

-- a full node has a session until something ends it
abbrev pub HasSession : Roots → List Message → Option End → Option SessionParts → Type 0
HasSession header ms None None = ⊥
HasSession header ms None (Some s) = IsNodeSession header ms s
HasSession header ms (Some one) s = Unit {0}

-- a full node that was handed these items
pub record IsFullNode (header : Roots) (items : List Item) (node : FullNode) : Type 0 where
  pub stands : NodeMayStand header full items (standing_by node.end)
  pub session : HasSession header (messages_of items) node.end node.session

-- a verdict that ends a node
abbrev pub IsEnding : VerdictParts → Type 0
IsEnding (whole square) = ⊥
IsEnding (missing cells) = ⊥
IsEnding (fraud claim) = Unit {0}
IsEnding (clash left right) = Unit {0}

-- a verdict ends a node so
abbrev pub EndsSo : VerdictParts → End → Type 0
EndsSo verdict (end.Clash pair) = verdict ≡ clash pair.left pair.right
EndsSo verdict (end.Rejected claim) = verdict ≡ fraud claim

-- the room for a claim is as it was, where there is no claim
abbrev pub SpareAfter : Option ClaimRoom → Option ClaimRoom → End → Type 0
SpareAfter old new (end.Clash pair) = new ≡ old
SpareAfter old new (end.Rejected claim) = Unit {0}

-- what comes of a session that was fed with these samples, and of the room for a claim
abbrev pub ComesOfFeeding : Roots → List Message → Option ClaimRoom → Option ClaimRoom → Fed → Type 0
ComesOfFeeding header fed old new (On s) = IsNodeSession header fed s × (new ≡ old)
ComesOfFeeding header fed old new (Ended (end.Clash pair)) = IsFoundClash header fed pair.left pair.right × (new ≡ old)
ComesOfFeeding header fed old new (Ended (end.Rejected claim)) = IsFraud header fed claim

-- ---- light nodes

-- a light node under the header that was handed these items
pub record IsLightNode {F : Type 0} (picks : F → ℕ → Cell → Type 0) (header : Roots) (items : List Item) (node : NodeParts F) : Type 0 where
  pub header_is : node.header ≡ header
  pub plan : List Cell
  pub stands : NodeStands picks node plan (item_events items)

-- a light node rejects
abbrev pub Rejects : Option ClaimParts → Type 0
Rejects None = ⊥
Rejects (Some claim) = Unit {0}

-- a light node that was handed these items now: its plan stays, and a claim that it holds
pub record IsLightStep {F : Type 0} (picks : F → ℕ → Cell → Type 0) (header : Roots) (items : List Item) (old new : NodeParts F) : Type 0 where
  pub node : IsLightNode picks header items new
  pub wanted : new.wanted ≡ old.wanted
  pub keeps : (claim : ClaimParts) → old.claim ≡ Some claim → new.claim ≡ Some claim

-- a light node under the header to which nothing was handed
abbrev pub IsFreshNode : {F : Type 0} → (F → ℕ → Cell → Type 0) → Roots → NodeParts F → Type 0
IsFreshNode picks header node = (node.header ≡ header) × (plan : List Cell) × NodeStands picks node plan []
