use Rattle.std.proofs.Common.{◌<◌, ◌≤◌, length, subst, arith}
use Rattle.std.proofs.lemmas.List.{length-map}
use Rattle.da_net.specs.declared.seats.Seat.{Seat}
use Rattle.da_net.specs.declared.seats.Entry.{Entry}
use Rattle.da_net.specs.Nets.{NetParts}
use Rattle.da_net.specs.Seats.{node_kind}
use Rattle.da_net.proofs.RefusalLemmas.{no_item, no_node, both_there}
use Rattle.da_net.proofs.nets.Net.try_hand.Goals as goal

-- the item isn't there
pub returns-then-len-item-clause-refusal : goal.returns-then-len-item-clause-refusal
returns-then-len-item-clause-refusal g c =
    let pool = c.self.inside.pool in
    no_item c.args.self.now c.args.item c.args.node
    (subst (λ (n : NetParts). length n.pool ≤ c.args.item) c.self.view_is
    (omega (arith, c.if-len-item.true, c.len.ensures, pool.ok.0, length-map pool.items (λ (e : Entry). e.item))))

-- the node isn't
pub returns-then-len-node-clause-refusal : goal.returns-then-len-node-clause-refusal
returns-then-len-node-clause-refusal g c =
    let pool = c.self.inside.pool in
    let seats = c.self.inside.seats in
    no_node c.args.self.now c.args.item c.args.node
    (subst (λ (n : NetParts). c.args.item < length n.pool) c.self.view_is
    (omega (arith, c.if-len-item.false, c.len.ensures, pool.ok.0, length-map pool.items (λ (e : Entry). e.item))))
    (subst (λ (n : NetParts). length n.nodes ≤ c.args.node) c.self.view_is
    (omega (arith, c.if-len-node.true, c.len-2.ensures, seats.ok.0, length-map seats.items (λ (s : Seat _). node_kind s.node))))

-- else it is
pub hand-requires-clause-item : goal.hand-requires-clause-item
hand-requires-clause-item g c =
    let pool = c.self.inside.pool in
    subst (λ (n : NetParts). c.args.item < length n.pool) c.self.view_is
    (omega (arith, c.if-len-item.false, c.len.ensures, pool.ok.0, length-map pool.items (λ (e : Entry). e.item)))

-- and so is the node
pub hand-requires-clause-node : goal.hand-requires-clause-node
hand-requires-clause-node g c =
    let seats = c.self.inside.seats in
    subst (λ (n : NetParts). c.args.node < length n.nodes) c.self.view_is
    (omega (arith, c.if-len-node.false, c.len-2.ensures, seats.ok.0, length-map seats.items (λ (s : Seat _). node_kind s.node)))

-- where both are, handing does it
pub returns-clause-kept : goal.returns-clause-kept
returns-clause-kept g c = c.hand.ensures.kept

pub returns-clause-happened : goal.returns-clause-happened
returns-clause-happened g c = c.hand.ensures.handed

-- and nothing refuses it
pub returns-clause-refusal : goal.returns-clause-refusal
returns-clause-refusal g c =
    let pool = c.self.inside.pool in
    let seats = c.self.inside.seats in
    both_there c.args.self.now c.args.item c.args.node
    (subst (λ (n : NetParts). c.args.item < length n.pool) c.self.view_is
    (omega (arith, c.if-len-item.false, c.len.ensures, pool.ok.0, length-map pool.items (λ (e : Entry). e.item))))
    (subst (λ (n : NetParts). c.args.node < length n.nodes) c.self.view_is
    (omega (arith, c.if-len-node.false, c.len-2.ensures, seats.ok.0, length-map seats.items (λ (s : Seat _). node_kind s.node))))
