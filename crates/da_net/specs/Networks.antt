-- Networks of full nodes and light nodes that share a pool of items, over any deliveries (docs/RULES.md, "Networks").
use Rattle.std.specs.Prelude.{◌≡◌, ◌⊎◌, ℕ, ◌<◌, ◌==◌, ◌++◌, List, [], ◌∷◌, length, slice_get, option_to_list, Some, if◌then◌else◌}
use Rattle.std.specs.List.{Contains}
use Rattle.namespace_id.specs.declared.cells.Cell.{Cell}
use Rattle.data_header.specs.Headers.{Roots}
use Rattle.axis_roots.specs.declared.message.messages.Message.{Message}
use Rattle.axis_roots.specs.Messages.{IsMessage}
use Rattle.axis_roots.specs.Claims.{ClaimParts, Accepts}
use Rattle.repair_queue.specs.Settled.{IsSettled}
use Rattle.repair_queue.specs.Verdicts.{IsFraud, IsFoundClash}
use Rattle.light_node.specs.declared.events.Event.{Event}
use Rattle.light_node.specs.declared.events.Event.TheVariants as event
use Rattle.light_node.specs.declared.events.LightState.TheVariants as state
use Rattle.light_node.specs.Events.{NoneAccepted, IsFirstAccepted, IsState}
use Rattle.da_net.specs.declared.items.Item.{Item}
use Rattle.da_net.specs.declared.items.Item.TheVariants as item
use Rattle.da_net.specs.declared.items.Kept.{Kept}
use Rattle.da_net.specs.declared.items.Kept.TheVariants as kept

-- ---- items

-- the samples among items
abbrev pub messages_of : List Item → List Message
messages_of [] = []
messages_of (item.Message m ∷ items) = m ∷ messages_of items
messages_of (item.Claim claim ∷ items) = messages_of items

-- an item as an event of a light node: a sample or a claim
abbrev pub item_event : Item → Event
item_event (item.Message m) = event.Sample m
item_event (item.Claim claim) = event.Claim claim

-- items as events of a light node
abbrev pub item_events : List Item → List Event
item_events [] = []
item_events (one ∷ items) = item_event one ∷ item_events items

-- a sample of an item has its numbers, share and digests
abbrev pub IsNetItem : Item → Type 0
IsNetItem (item.Message m) = IsMessage m
IsNetItem (item.Claim claim) = Unit {0}

-- ---- nodes

-- a full node, or a light node with the cells that it planned
pub data NodeKind : Type 0 where
  full : NodeKind
  light : (plan : List Cell) → NodeKind

-- a network: the header, and its nodes, numbered from 0 on
pub record Network : Type 0 where
  pub header : Roots
  pub nodes : List NodeKind

-- how a node stands: a full node is settled, or has a collision; a light node waits, or the data is available to it; and
-- either may reject the header by a claim
pub data Standing : Type 0 where
  settled : Standing
  clashing : (left right : List ℕ) → Standing
  waiting : Standing
  available : Standing
  rejecting : (claim : ClaimParts) → Standing

-- how a node that was handed these items may stand
abbrev pub NodeMayStand : Roots → NodeKind → List Item → Standing → Type 0
NodeMayStand header full items settled = NoneAccepted header (item_events items) × IsSettled header (messages_of items)
NodeMayStand header full items (clashing left right) =
    NoneAccepted header (item_events items) × IsFoundClash header (messages_of items) left right
NodeMayStand header full items waiting = ⊥
NodeMayStand header full items available = ⊥
NodeMayStand header full items (rejecting claim) =
    Accepts header claim × (Contains items (item.Claim claim) ⊎ IsFraud header (messages_of items) claim)
NodeMayStand header (light plan) items settled = ⊥
NodeMayStand header (light plan) items (clashing left right) = ⊥
NodeMayStand header (light plan) items waiting = IsState header plan (item_events items) state.Waiting
NodeMayStand header (light plan) items available = IsState header plan (item_events items) state.Available
NodeMayStand header (light plan) items (rejecting claim) = IsFirstAccepted header (item_events items) (Some claim)

-- a node rejects
abbrev pub IsRejecting : Standing → Type 0
IsRejecting settled = ⊥
IsRejecting (clashing left right) = ⊥
IsRejecting waiting = ⊥
IsRejecting available = ⊥
IsRejecting (rejecting claim) = Unit {0}

-- a node has a collision
abbrev pub IsClashing : Standing → Type 0
IsClashing settled = ⊥
IsClashing (clashing left right) = Unit {0}
IsClashing waiting = ⊥
IsClashing available = ⊥
IsClashing (rejecting claim) = ⊥

-- ---- steps

-- what a step hands to a node, of a pool
abbrev pub handed_by : List Item → Kept → ℕ → List Item
handed_by pool kept.Put node = []
handed_by pool (kept.Hand place to) node = if to == node then option_to_list (slice_get pool place) else []
handed_by pool (kept.Publish by) node = []

-- what a node was handed, in order
abbrev pub handed : List Item → List Kept → ℕ → List Item
handed pool [] node = []
handed pool (step ∷ steps) node = handed_by pool step node ++ handed pool steps node

-- a pool and a list of steps that may come about, newest last: any item is put into the pool; an item of the pool, which
-- stays there, is handed to a node; a node that rejects puts its claim into the pool
pub data IsRun (net : Network) : List Item → List Kept → Type 0 where
  start : IsRun net [] []
  put : (pool : List Item) (steps : List Kept) (one : Item) → IsRun net pool steps → IsNetItem one
      → IsRun net (pool ++ one ∷ []) (steps ++ kept.Put ∷ [])
  hand : (pool : List Item) (steps : List Kept) (place node : ℕ) → IsRun net pool steps → place < length pool
      → node < length net.nodes → IsRun net pool (steps ++ kept.Hand place node ∷ [])
  publish : (pool : List Item) (steps : List Kept) (node : ℕ) (kind : NodeKind) (claim : ClaimParts) → IsRun net pool steps
      → slice_get net.nodes node ≡ Some kind → NodeMayStand net.header kind (handed pool steps node) (rejecting claim)
      → IsRun net (pool ++ item.Claim claim ∷ []) (steps ++ kept.Publish node ∷ [])
