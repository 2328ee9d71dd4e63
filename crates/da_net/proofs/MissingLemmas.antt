-- The cells that nodes miss.
use Rattle.std.proofs.Common.{◌≡◌, ℕ, List, refl, sym, subst}
use Rattle.std.specs.Prelude.{Option, Some, None, is_some, false}
use Rattle.namespace_id.specs.declared.cells.Cell.{Cell}
use Rattle.namespace_id.specs.Cells.{CellList}
use Rattle.data_header.specs.Headers.{Roots}
use Rattle.axis_roots.specs.declared.message.messages.Message.{Message}
use Rattle.repair_queue.specs.SessionParts.{SessionParts, SessionStands}
use Rattle.repair_queue.specs.Sessions.{AreLeft}
use Rattle.light_node.specs.declared.events.Event.{Event}
use Rattle.light_node.specs.Events.{AreWaitedFor}
use Rattle.light_node.specs.Nodes.{NodeParts, NodeStands, distinct}
use Rattle.da_net.specs.declared.items.Item.{Item}
use Rattle.da_net.specs.declared.full.End.{End}
use Rattle.da_net.specs.declared.full.FullNode.{FullNode}
use Rattle.da_net.specs.declared.seats.Node.{Node}
use Rattle.da_net.specs.declared.seats.Node.TheVariants.{Full, Light}
use Rattle.da_net.specs.declared.seats.Seat.{Seat}
use Rattle.da_net.specs.Networks.{messages_of, item_events, full}
use Rattle.da_net.specs.Nodes.{IsNodeSession, IsFullNode, IsLightNode}
use Rattle.da_net.specs.Nets.{AreMissed}
use Rattle.da_net.specs.Seats.{node_kind, alarm_by, alarm_of, IsNodeFor, IsSeat}
use Rattle.da_net.proofs.FullLemmas.{session_of}
use Rattle.light_node.proofs.StandingLemmas.{planned_distinct, distinct_planned}

-- what alarms no node ends none
none_ended : (o : Option End) → alarm_by o ≡ None → is_some o ≡ false
none_ended None e = refl
none_ended (Some x) e = absurd cc

-- the cells that a session misses are those that a full node does
full_missed : (header : Roots) (items : List Item) (node : FullNode) (s : SessionParts) (cells : CellList) → alarm_by node.end ≡ None → node.session ≡ Some s
    → IsFullNode header items node
    → ((ms : List Message) → SessionStands s ms → AreLeft s.header ms cells) → AreMissed header full items cells
full_missed header items node s cells none held is missing =
    let has : IsNodeSession header (messages_of items) s = (session_of header items node s (none_ended node.end none) held is).0 in
    subst (λ (h : Roots). AreLeft h (messages_of items) cells) has.header_is (missing (messages_of items) has.stands)

pub full_misses : {F : Type 0} (picks : F → ℕ → Cell → Type 0) (header : Roots) (items : List Item) (seat : Seat F) (node : FullNode) (s : SessionParts)
    (cells : CellList) → alarm_of seat.node ≡ None → seat.node ≡ Full node → node.session ≡ Some s → IsSeat picks header items seat
    → ((ms : List Message) → SessionStands s ms → AreLeft s.header ms cells)
    → AreMissed header (node_kind seat.node) items cells
full_misses {F} picks header items seat node s cells none e held is missing =
    subst (λ (n : Node F). AreMissed header (node_kind n) items cells) (sym e)
    (full_missed header items node s cells (subst (λ (n : Node F). alarm_of n ≡ None) e none) held
    (subst (λ (n : Node F). IsNodeFor picks header items n) e is.is_node) missing)

-- the cells that are waited for of a plan are those of its distinct cells
waited_distinct : (header : Roots) (plan : List Cell) (events : List Event) (cells : CellList) → AreWaitedFor header plan events cells
    → AreWaitedFor header (distinct plan) events cells
waited_distinct header plan events cells are = record {
  width = are.width;
  row_major = are.row_major;
  waited_for = λ cell. (
    (λ at. let waits = (are.waited_for cell).0 at in (planned_distinct plan cell waits.0, waits.1)),
    λ waits. (are.waited_for cell).1 (distinct_planned plan cell waits.0, waits.1),
  );
}

pub light_misses : {F : Type 0} (picks : F → ℕ → Cell → Type 0) (header : Roots) (items : List Item) (seat : Seat F) (node : NodeParts F) (cells : CellList)
    → seat.node ≡ Light node → IsSeat picks header items seat
    → ((plan : List Cell) (events : List Event) → NodeStands picks node plan events → AreWaitedFor node.header plan events cells)
    → AreMissed header (node_kind seat.node) items cells
light_misses {F} picks header items seat node cells e is waiting =
    let here : IsLightNode picks header items node = subst (λ (n : Node F). IsNodeFor picks header items n) e is.is_node in
    subst (λ (n : Node F). AreMissed header (node_kind n) items cells) (sym e)
    (subst (λ (l : List Cell). AreWaitedFor header l (item_events items) cells) (sym here.stands.wanted)
    (waited_distinct header here.plan (item_events items) cells
    (subst (λ (h : Roots). AreWaitedFor h here.plan (item_events items) cells) here.header_is (waiting here.plan (item_events items) here.stands))))
