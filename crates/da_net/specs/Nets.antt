-- A network as contracts see it, and what its calls do (docs/RULES.md, "Networks").
use Rattle.std.specs.Prelude.{◌≡◌, ℕ, ◌==◌, ◌&&◌, ◌++◌, nat_le, nat_lt, ◌||◌, replicate, not, Bool, true, false, List, [], ◌∷◌, length, slice_get, option_and_then, Option, Some, None, if◌then◌else◌}
use Rattle.std.specs.List.{list_any}
use Rattle.namespace_id.specs.Cells.{CellList}
use Rattle.data_header.specs.Headers.{Roots}
use Rattle.axis_roots.specs.Claims.{ClaimParts, Accepts}
use Rattle.repair_queue.specs.Sessions.{AreLeft}
use Rattle.light_node.specs.declared.events.LightState.{LightState}
use Rattle.light_node.specs.declared.events.LightState.TheVariants as seen
use Rattle.light_node.specs.Events.{AreWaitedFor}
use Rattle.da_net.specs.declared.items.Item.{Item}
use Rattle.da_net.specs.declared.items.Item.TheVariants as item
use Rattle.da_net.specs.declared.items.NetEvent.{NetEvent}
use Rattle.da_net.specs.declared.items.NetEvent.TheVariants as event
use Rattle.da_net.specs.declared.items.Kept.{Kept}
use Rattle.da_net.specs.declared.items.Kept.TheVariants as kept
use Rattle.da_net.specs.declared.items.NodeState.{NodeState}
use Rattle.da_net.specs.declared.items.NodeState.TheVariants as state
use Rattle.da_net.specs.declared.items.Stepped.{Stepped}
use Rattle.da_net.specs.declared.items.Stepped.TheVariants as stepped
use Rattle.da_net.specs.declared.items.StepRefusal.{StepRefusal}
use Rattle.da_net.specs.declared.items.StepRefusal.TheVariants as refusal
use Rattle.da_net.specs.Networks.{messages_of, item_events, NodeKind, full, light, Network, Standing, settled, clashing, waiting, available, rejecting, NodeMayStand, handed}
use Rattle.da_net.specs.Promises.{IsAlarmed}

-- a network as contracts see it: its header and its nodes, what alarmed each of these, a claim or a collision, for how
-- many items and steps it was made, its pool and its steps
pub record NetParts : Type 0 where
  pub header : Roots
  pub nodes : List NodeKind
  pub alarms : List (Option Standing)
  pub most_items : ℕ
  pub most_steps : ℕ
  pub pool : List Item
  pub steps : List Kept

-- its header and nodes
abbrev pub network_of : NetParts → Network
network_of net = record { header = net.header; nodes = net.nodes }

-- whether a network can't be made for so many nodes, items and steps
abbrev pub is_too_many : ℕ → ℕ → ℕ → ℕ → Bool
is_too_many fulls lights items steps =
    nat_lt 8 fulls || nat_lt 64 lights || nat_lt 65536 items || nat_lt 1048576 steps

-- a network in which nothing has happened: of so many full nodes, and of these light nodes
abbrev pub fresh : Roots → ℕ → List NodeKind → ℕ → ℕ → NetParts
fresh header fulls lights most_items most_steps = record {
  header = header;
  nodes = replicate fulls full ++ lights;
  alarms = replicate (length (replicate fulls full ++ lights)) None;
  most_items = most_items;
  most_steps = most_steps;
  pool = [];
  steps = [];
}

-- ---- nodes

-- what alarmed a node, none where nothing did
abbrev pub alarm_at : NetParts → ℕ → Option Standing
alarm_at net node = option_and_then (λ alarm. alarm) (slice_get net.alarms node)

-- a node that was alarmed stands so, and no other is alarmed
abbrev pub FitsAlarm : Option Standing → Standing → Type 0
FitsAlarm None standing = IsAlarmed standing → ⊥
FitsAlarm (Some alarm) standing = standing ≡ alarm

-- how a node stands
pub record HasStanding (net : NetParts) (node : ℕ) (standing : Standing) : Type 0 where
  pub kind : NodeKind
  pub is_node : slice_get net.nodes node ≡ Some kind
  pub stands : NodeMayStand net.header kind (handed net.pool net.steps node) standing
  pub fits : FitsAlarm (alarm_at net node) standing

-- the state of a node that stands so
abbrev pub standing_state : Standing → NodeState
standing_state settled = state.Open
standing_state (clashing left right) = state.Clash
standing_state waiting = state.Waiting
standing_state available = state.Available
standing_state (rejecting claim) = state.Rejected

-- the state of a light node, among those of all nodes
abbrev pub light_state : LightState → NodeState
light_state seen.Waiting = state.Waiting
light_state seen.Available = state.Available
light_state seen.Rejected = state.Rejected

-- the state of a node
abbrev pub HasState : NetParts → ℕ → NodeState → Type 0
HasState net node one = (standing : Standing) × HasStanding net node standing × (one ≡ standing_state standing)

-- the claim by which a node rejects
abbrev pub rejecting_claim : Option Standing → Option ClaimParts
rejecting_claim None = None
rejecting_claim (Some settled) = None
rejecting_claim (Some (clashing left right)) = None
rejecting_claim (Some waiting) = None
rejecting_claim (Some available) = None
rejecting_claim (Some (rejecting claim)) = Some claim

-- the collision that a node has
abbrev pub clash_in : Option Standing → Option (List ℕ × List ℕ)
clash_in None = None
clash_in (Some settled) = None
clash_in (Some (clashing left right)) = Some (left, right)
clash_in (Some waiting) = None
clash_in (Some available) = None
clash_in (Some (rejecting claim)) = None

-- the cells that a node misses: a full node those that aren't recoverable from what it was handed, a light node those
-- that it planned and no sample showed
abbrev pub AreMissed : Roots → NodeKind → List Item → CellList → Type 0
AreMissed header full items cells = AreLeft header (messages_of items) cells
AreMissed header (light plan) items cells = AreWaitedFor header plan (item_events items) cells

-- ---- steps

-- whether a step is the publishing by a node
abbrev pub is_publishing : ℕ → Kept → Bool
is_publishing node kept.Put = false
is_publishing node (kept.Hand place to) = false
is_publishing node (kept.Publish by) = by == node

-- whether an event puts an item into the pool
abbrev pub is_pooling : NetEvent → Bool
is_pooling (event.Put one) = true
is_pooling (event.Hand place to) = false
is_pooling (event.Publish by) = true

-- whether there is no capacity for an event
abbrev pub is_full : NetParts → NetEvent → Bool
is_full net one =
    if nat_le net.most_steps (length net.steps) then true else is_pooling one && nat_le net.most_items (length net.pool)

-- whether a node rejects
abbrev pub has_claim : Option ClaimParts → Bool
has_claim None = false
has_claim (Some claim) = true

-- why a handing is refused
abbrev pub why_not_hand : NetParts → ℕ → ℕ → Option StepRefusal
why_not_hand net place to =
    if nat_le (length net.pool) place then Some refusal.NoItem
    else if nat_le (length net.nodes) to then Some refusal.NoNode else None

-- why a publishing is refused
abbrev pub why_not_publish : NetParts → ℕ → Option StepRefusal
why_not_publish net by =
    if nat_le (length net.nodes) by then Some refusal.NoNode
    else if not (has_claim (rejecting_claim (alarm_at net by))) then Some refusal.NotRejecting
    else if list_any (is_publishing by) net.steps then Some refusal.Published else None

-- why an event is refused for which there is capacity
abbrev pub why_not_there : NetParts → NetEvent → Option StepRefusal
why_not_there net (event.Put one) = None
why_not_there net (event.Hand place to) = why_not_hand net place to
why_not_there net (event.Publish by) = why_not_publish net by

-- why an event is refused, by the first of the tests that fails, none where it happens
abbrev pub why_not : NetParts → NetEvent → Option StepRefusal
why_not net one = if is_full net one then Some (refusal.Full one) else why_not_there net one

-- the header, the nodes and the numbers for which a network was made are as they were
pub record IsSameNet (old new : NetParts) : Type 0 where
  pub header : new.header ≡ old.header
  pub nodes : new.nodes ≡ old.nodes
  pub most_items : new.most_items ≡ old.most_items
  pub most_steps : new.most_steps ≡ old.most_steps

-- an item came into the pool by a step, and no node changed
pub record IsPooled (old new : NetParts) (one : Item) (step : Kept) (place : ℕ) : Type 0 where
  pub place_is : place ≡ length old.pool
  pub pool : new.pool ≡ old.pool ++ one ∷ []
  pub steps : new.steps ≡ old.steps ++ step ∷ []
  pub alarms : new.alarms ≡ old.alarms

-- what alarms a node that had a collision and was handed an item: it rejects by a claim that is accepted, and keeps the
-- collision otherwise
abbrev pub AfterClash : Roots → List ℕ → List ℕ → Item → Option Standing → Type 0
AfterClash header left right (item.Message m) alarm = alarm ≡ Some (clashing left right)
AfterClash header left right (item.Claim claim) alarm = (Accepts header claim → alarm ≡ Some (rejecting claim))
    × ((Accepts header claim → ⊥) → alarm ≡ Some (clashing left right))

-- an item of the pool was handed to a node; who rejected keeps its claim, who had a collision keeps it but for a claim
-- that is accepted, and no other node changed
pub record IsHanded (old new : NetParts) (place to : ℕ) (one : NodeState) : Type 0 where
  pub pool : new.pool ≡ old.pool
  pub steps : new.steps ≡ old.steps ++ kept.Hand place to ∷ []
  pub state_is : HasState new to one
  pub keeps : (claim : ClaimParts) → alarm_at old to ≡ Some (rejecting claim) → alarm_at new to ≡ Some (rejecting claim)
  pub clashes : (left right : List ℕ) (given : Item) → alarm_at old to ≡ Some (clashing left right)
      → slice_get old.pool place ≡ Some given → AfterClash old.header left right given (alarm_at new to)
  pub others : (node : ℕ) → (node ≡ to → ⊥) → alarm_at new node ≡ alarm_at old node

-- the claim of a node that rejects came into the pool
abbrev pub IsPublished : NetParts → NetParts → ℕ → ℕ → Type 0
IsPublished old new by place = (claim : ClaimParts) × (alarm_at old by ≡ Some (rejecting claim))
    × IsPooled old new (item.Claim claim) (kept.Publish by) place

-- what an event did
abbrev pub HasHappened : NetParts → NetEvent → NetParts → Stepped → Type 0
HasHappened old (event.Put one) new (stepped.Pooled place) = IsPooled old new one kept.Put place
HasHappened old (event.Put one) new (stepped.Handed state) = ⊥
HasHappened old (event.Hand place to) new (stepped.Pooled at) = ⊥
HasHappened old (event.Hand place to) new (stepped.Handed state) = IsHanded old new place to state
HasHappened old (event.Publish by) new (stepped.Pooled place) = IsPublished old new by place
HasHappened old (event.Publish by) new (stepped.Handed state) = ⊥
