-- What a network keeps for each of its nodes, and of each item.
use Rattle.std.specs.Prelude.{◌≡◌, ◌↔◌, ℕ, ◌≤◌, List, [], map, slice_get, Bool, true, false, Option, Some, None, Vec, vec_len, vec_capacity}
use Rattle.std.specs.List.{list_any}
use Rattle.std.specs.declared.alloc.Global.{Global}
use Rattle.namespace_id.specs.declared.cells.Cell.{Cell}
use Rattle.data_header.specs.Headers.{Roots}
use Rattle.axis_roots.specs.Claims.{ClaimParts, Accepts}
use Rattle.da_net.specs.declared.items.Item.{Item}
use Rattle.da_net.specs.declared.items.Item.TheVariants as item
use Rattle.da_net.specs.declared.items.Kept.{Kept}
use Rattle.da_net.specs.declared.full.End.{End}
use Rattle.da_net.specs.declared.seats.Node.{Node}
use Rattle.da_net.specs.declared.seats.Node.TheVariants.{Full, Light}
use Rattle.da_net.specs.declared.seats.Seat.{Seat}
use Rattle.da_net.specs.declared.seats.Entry.{Entry}
use Rattle.da_net.specs.declared.copies.ClaimRoom.{ClaimRoom}
use Rattle.da_net.specs.Networks.{NodeKind, full, light, Network, Standing, rejecting, NodeMayStand, handed, IsRun}
use Rattle.da_net.specs.Nodes.{HasSpareClaim, standing_by, IsFullNode, IsLightNode}
use Rattle.da_net.specs.Nets.{FitsAlarm, rejecting_claim, is_publishing}

-- ---- nodes

-- what kind of node this is
abbrev pub node_kind : {F : Type 0} → Node F → NodeKind
node_kind (Full node) = full
node_kind (Light node) = light node.wanted

-- what alarmed a full node, by what ended it
abbrev pub alarm_by : Option End → Option Standing
alarm_by None = None
alarm_by (Some one) = Some (standing_by (Some one))

-- what alarmed a light node
abbrev pub alarm_with : Option ClaimParts → Option Standing
alarm_with None = None
alarm_with (Some claim) = Some (rejecting claim)

-- what alarmed a node
abbrev pub alarm_of : {F : Type 0} → Node F → Option Standing
alarm_of (Full node) = alarm_by node.end
alarm_of (Light node) = alarm_with node.claim

-- a node under the header that was handed these items
abbrev pub IsNodeFor : {F : Type 0} → (F → ℕ → Cell → Type 0) → Roots → List Item → Node F → Type 0
IsNodeFor picks header items (Full node) = IsFullNode header items node
IsNodeFor picks header items (Light node) = IsLightNode picks header items node

-- there is a room for a claim, where none is held
abbrev pub HasSpareFor : ℕ → Option ClaimParts → Option ClaimRoom → Type 0
HasSpareFor k None spare = HasSpareClaim k spare
HasSpareFor k (Some claim) spare = Unit {0}

-- there is a room for a claim, where none was published
abbrev pub HasUnpublished : ℕ → Bool → Option ClaimRoom → Type 0
HasUnpublished k false spare = HasSpareClaim k spare
HasUnpublished k true spare = spare ≡ None

-- a seat whose node was handed these items
pub record IsSeat {F : Type 0} (picks : F → ℕ → Cell → Type 0) (header : Roots) (items : List Item) (seat : Seat F) : Type 0 where
  pub is_node : IsNodeFor picks header items seat.node
  pub spare : HasSpareFor header.k (rejecting_claim (alarm_of seat.node)) seat.kept

-- a seat whose node was handed these items now; it is of its kind, and keeps a claim that it held
pub record IsSeatStep {F : Type 0} (picks : F → ℕ → Cell → Type 0) (header : Roots) (items : List Item) (old new : Seat F) : Type 0 where
  pub seat : IsSeat picks header items new
  pub kind : node_kind new.node ≡ node_kind old.node
  pub keeps : (claim : ClaimParts) → rejecting_claim (alarm_of old.node) ≡ Some claim → rejecting_claim (alarm_of new.node) ≡ Some claim
  pub unpublished : new.published ≡ old.published

-- how the node of a seat stands that was handed these items
pub record SeatStands {F : Type 0} (header : Roots) (items : List Item) (seat : Seat F) (standing : Standing) : Type 0 where
  pub stands : NodeMayStand header (node_kind seat.node) items standing
  pub fits : FitsAlarm (alarm_of seat.node) standing

-- ---- items

-- an item is a claim that is accepted
abbrev pub IsAcceptedItem : Roots → Item → Type 0
IsAcceptedItem header (item.Message m) = ⊥
IsAcceptedItem header (item.Claim claim) = Accepts header claim

-- an item of the pool, and whether it is an accepted claim
abbrev pub IsJudgedEntry : Roots → Entry → Type 0
IsJudgedEntry header entry = (entry.accepted ≡ true) ↔ IsAcceptedItem header entry.item

-- the items of a pool
abbrev pub pool_items : List Entry → List Item
pool_items pool = map (λ entry. entry.item) pool

-- ---- networks

-- the header and the nodes of seats
abbrev pub network_with : {F : Type 0} → Roots → List (Seat F) → Network
network_with header seats = record { header = header; nodes = map (λ seat. node_kind seat.node) seats }

-- what holds of each network
pub record IsNet {F : Type 0} (picks : F → ℕ → Cell → Type 0) (header : Roots) (seats : List (Seat F)) (pool : List Entry)
    (steps : List Kept) : Type 0 where
  pub run : IsRun (network_with header seats) (pool_items pool) steps
  pub seated : (node : ℕ) (seat : Seat F) → slice_get seats node ≡ Some seat
      → IsSeat picks header (handed (pool_items pool) steps node) seat
  pub unpublished : (node : ℕ) (seat : Seat F) → slice_get seats node ≡ Some seat
      → HasUnpublished header.k (list_any (is_publishing node) steps) seat.published
  pub judged : (place : ℕ) (entry : Entry) → slice_get pool place ≡ Some entry → IsJudgedEntry header entry

-- a list has at most so many values, and capacity for as many
pub record HasPlaces {A : Type 0} (most : ℕ) (out : Vec A Global) : Type 0 where
  pub few : vec_len out ≤ most
  pub places : most ≤ vec_capacity out

-- the claim of a node was copied into the room for publishing
pub record IsCopied {F : Type 0} (old new : Seat F) (claim : ClaimParts) : Type 0 where
  pub held : rejecting_claim (alarm_of old.node) ≡ Some claim
  pub node_is : new.node ≡ old.node
  pub kept_is : new.kept ≡ old.kept
  pub used : new.published ≡ None

-- a seat of a node of this kind to which nothing was handed
pub record IsFreshSeat {F : Type 0} (picks : F → ℕ → Cell → Type 0) (header : Roots) (kind : NodeKind) (seat : Seat F) : Type 0 where
  pub seat_is : IsSeat picks header [] seat
  pub kind_is : node_kind seat.node ≡ kind
  pub calm : alarm_of seat.node ≡ None
  pub unpublished : HasSpareClaim header.k seat.published
