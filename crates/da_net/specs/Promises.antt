-- What a network promises speaks of these (docs/RULES.md, "Networks").
use Rattle.std.specs.Prelude.{◌≡◌, ◌⊎◌, ℕ, ◌*◌, ◌<◌, List, slice_get, true, Some}
use Rattle.std.specs.List.{Contains}
use Rattle.namespace_id.specs.declared.cells.Cell.{Cell}
use Rattle.namespace_id.specs.declared.cells.Axis.{Axis}
use Rattle.namespace_id.specs.Cells.{is_in_square}
use Rattle.data_header.specs.Headers.{Roots}
use Rattle.square_layout.specs.Blocks.{SquareShares}
use Rattle.axis_roots.specs.declared.message.messages.Message.{Message}
use Rattle.axis_roots.specs.Lines.{cell_on}
use Rattle.axis_roots.specs.Own.{NamesClash}
use Rattle.axis_roots.specs.Claims.{ClaimParts, ClaimNames}
use Rattle.repair_queue.specs.Closures.{AreChosen, Half}
use Rattle.da_net.specs.declared.items.Item.{Item}
use Rattle.da_net.specs.declared.items.Item.TheVariants as item
use Rattle.da_net.specs.declared.items.Kept.{Kept}
use Rattle.da_net.specs.declared.items.Kept.TheVariants as kept
use Rattle.da_net.specs.Networks.{messages_of, full, light, Network, Standing, settled, available, NodeMayStand, IsRejecting, IsClashing, handed}

-- a step handed this item of the pool to a node
abbrev pub WasHanded : List Item → List Kept → ℕ → Item → Type 0
WasHanded pool steps node one =
    (place : ℕ) × Contains steps (kept.Hand place node) × (slice_get pool place ≡ Some one)

-- a node rejects or has a collision
abbrev pub IsAlarmed : Standing → Type 0
IsAlarmed standing = IsRejecting standing ⊎ IsClashing standing

-- a sample in the pool, by itself or in a claim, or the set of a claim in the pool, and the square name a collision
abbrev pub PoolNames : List Item → SquareShares → Type 0
PoolNames pool square =
    ((m : Message) × Contains pool (item.Message m) × NamesClash m square)
    ⊎ ((claim : ClaimParts) × Contains pool (item.Claim claim) × ClaimNames claim square)

-- all cells of the square are recoverable from a list of samples
abbrev pub AllRecoverable : Roots → List Message → Type 0
AllRecoverable header ms = (cell : Cell) → is_in_square header.k cell ≡ true → Half header ms cell

-- a full node that was handed these items is settled, and all cells are recoverable
pub record HasAllCells (header : Roots) (items : List Item) : Type 0 where
  pub stands : NodeMayStand header full items settled
  pub all : AllRecoverable header (messages_of items)

-- the closure by halves of a list of cells: the least set that holds them and, with k cells of a row or a column, all of it
pub data Reached (k : ℕ) (cells : List Cell) : Cell → Type 0 where
  given : (cell : Cell) → Contains cells cell → Reached k cells cell
  reached : (axis : Axis) (i : ℕ) (chosen : List ℕ) (pos : ℕ) → i < 2 * k → AreChosen k chosen
      → ((p : ℕ) → Contains chosen p → Reached k cells (cell_on axis i p)) → pos < 2 * k
      → Reached k cells (cell_on axis i pos)

-- the data is available to this light node, which planned these cells
pub record IsAvailable (net : Network) (pool : List Item) (steps : List Kept) (node : ℕ) (plan : List Cell) : Type 0 where
  pub is_light : slice_get net.nodes node ≡ Some (light plan)
  pub stands : NodeMayStand net.header (light plan) (handed pool steps node) available

-- it is available to each of these nodes
abbrev pub AreAvailable : Network → List Item → List Kept → List ℕ → Type 0
AreAvailable net pool steps nodes =
    (node : ℕ) → Contains nodes node → (plan : List Cell) × IsAvailable net pool steps node plan

-- one of these nodes planned the cell
abbrev pub IsPlanned : Network → List ℕ → Cell → Type 0
IsPlanned net nodes cell = (node : ℕ) × (plan : List Cell) × Contains nodes node
    × (slice_get net.nodes node ≡ Some (light plan)) × Contains plan cell

-- each sample that was handed to one of these nodes was handed to this one
abbrev pub WereHandedTo : List Item → List Kept → List ℕ → ℕ → Type 0
WereHandedTo pool steps nodes to = (node : ℕ) (m : Message) → Contains nodes node
    → Contains (handed pool steps node) (item.Message m) → Contains (handed pool steps to) (item.Message m)
