-- What a network promises, whatever is put, handed and published (docs/RULES.md, "Networks").
use Rattle.std.specs.Prelude.{◌≡◌, ◌⊎◌, ◌++◌, ℕ, List, true}
use Rattle.std.specs.List.{Contains}
use Rattle.namespace_id.specs.declared.cells.Cell.{Cell}
use Rattle.namespace_id.specs.Cells.{is_in_square}
use Rattle.square_layout.specs.Blocks.{SquareShares}
use Rattle.axis_roots.specs.Grids.{IsHeaderOf}
use Rattle.axis_roots.specs.Claims.{ClaimParts, Accepts}
use Rattle.repair_queue.specs.Closures.{Half}
use Rattle.repair_queue.specs.Verdicts.{IsVerdict, whole}
use Rattle.da_net.specs.declared.items.Item.{Item}
use Rattle.da_net.specs.declared.items.Item.TheVariants as item
use Rattle.da_net.specs.declared.items.Kept.{Kept}
use Rattle.da_net.specs.Networks.{messages_of, NodeKind, full, Network, Standing, settled, NodeMayStand, IsRejecting, IsClashing, handed, IsRun}
use Rattle.da_net.specs.Promises.{IsAlarmed, PoolNames, AllRecoverable, Reached, AreAvailable, IsPlanned, WereHandedTo}

-- who was handed an accepted claim rejects from then on, whatever comes later
abbrev pub ClaimsReject : Type 0
ClaimsReject = (net : Network) (pool later : List Item) (steps more : List Kept) (node : ℕ) (kind : NodeKind)
    (claim : ClaimParts) (standing : Standing) → Contains (handed pool steps node) (item.Claim claim)
    → Accepts net.header claim → NodeMayStand net.header kind (handed (pool ++ later) (steps ++ more) node) standing
    → IsRejecting standing

-- under the header of a square an alarm means that the pool and the square name a collision
abbrev pub AlarmsAreNamed : Type 0
AlarmsAreNamed = (net : Network) (pool : List Item) (steps : List Kept) (node : ℕ) (kind : NodeKind)
    (standing : Standing) (square : SquareShares) → IsRun net pool steps → IsHeaderOf net.header square
    → NodeMayStand net.header kind (handed pool steps node) standing → IsAlarmed standing → PoolNames pool square

-- under a full node's square another node's alarm means that the pool and this square name a collision
abbrev pub OtherAlarmsAreNamed : Type 0
OtherAlarmsAreNamed = (net : Network) (pool : List Item) (steps : List Kept) (node other : ℕ) (kind : NodeKind)
    (standing : Standing) (square : SquareShares) → IsRun net pool steps
    → IsVerdict net.header (messages_of (handed pool steps node)) (whole square)
    → NodeMayStand net.header kind (handed pool steps other) standing → IsAlarmed standing → PoolNames pool square

-- two full nodes have one square, or the pool and the first one's name a collision
abbrev pub OneSquare : Type 0
OneSquare = (net : Network) (pool : List Item) (steps : List Kept) (node other : ℕ)
    (square another : SquareShares) → IsRun net pool steps
    → IsVerdict net.header (messages_of (handed pool steps node)) (whole square)
    → IsVerdict net.header (messages_of (handed pool steps other)) (whole another)
    → (another ≡ square) ⊎ PoolNames pool square

-- a full node that was handed all that light nodes were recovers the cells that these planned, or alarms
abbrev pub PlannedAreRecoverable : Type 0
PlannedAreRecoverable = (net : Network) (pool : List Item) (steps : List Kept) (nodes : List ℕ) (to : ℕ)
    (standing : Standing) → AreAvailable net pool steps nodes → WereHandedTo pool steps nodes to
    → NodeMayStand net.header full (handed pool steps to) standing
    → IsRejecting standing ⊎ (IsClashing standing ⊎ ((standing ≡ settled)
    × ((cell : Cell) → IsPlanned net nodes cell → Half net.header (messages_of (handed pool steps to)) cell)))

-- where the closure by halves of planned cells is the whole square, all cells are recoverable to it
abbrev pub AllAreRecoverable : Type 0
AllAreRecoverable = (net : Network) (pool : List Item) (steps : List Kept) (nodes : List ℕ) (to : ℕ)
    (cells : List Cell) → AreAvailable net pool steps nodes → WereHandedTo pool steps nodes to
    → ((cell : Cell) → Contains cells cell → IsPlanned net nodes cell)
    → ((cell : Cell) → is_in_square net.header.k cell ≡ true → Reached net.header.k cells cell)
    → AllRecoverable net.header (messages_of (handed pool steps to))
