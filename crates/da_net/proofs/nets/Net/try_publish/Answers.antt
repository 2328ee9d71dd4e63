use Rattle.std.proofs.Common.{◌∙◌, ◌<◌, ◌≤◌, length, sym, subst, arith}
use Rattle.std.proofs.lemmas.List.{length-map}
use Rattle.da_net.specs.declared.seats.Seat.{Seat}
use Rattle.da_net.specs.Nets.{NetParts}
use Rattle.da_net.specs.Seats.{node_kind}
use Rattle.da_net.proofs.RefusalLemmas.{no_publisher, not_rejecting, has_done, may_publish}
use Rattle.da_net.proofs.nets.Net.try_publish.Goals as goal

-- the node isn't there
pub returns-then-len-by-clause-refusal : goal.returns-then-len-by-clause-refusal
returns-then-len-by-clause-refusal g c =
    let seats = c.self.inside.seats in
    no_publisher c.args.self.now c.args.by
    (subst (λ (n : NetParts). length n.nodes ≤ c.args.by) c.self.view_is
    (omega (arith, c.if-len-by.true, c.len.ensures, seats.ok.0, length-map seats.items (λ (s : Seat _). node_kind s.node))))

-- else it is there
pub is_rejecting-requires : goal.is_rejecting-requires
is_rejecting-requires g c =
    let seats = c.self.inside.seats in
    subst (λ (n : NetParts). c.args.by < length n.nodes) c.self.view_is
    (omega (arith, c.if-len-by.false, c.len.ensures, seats.ok.0, length-map seats.items (λ (s : Seat _). node_kind s.node)))

pub has_published-requires : goal.has_published-requires
has_published-requires g c =
    let seats = c.self.inside.seats in
    subst (λ (n : NetParts). c.args.by < length n.nodes) c.self.view_is
    (omega (arith, c.if-len-by.false, c.len.ensures, seats.ok.0, length-map seats.items (λ (s : Seat _). node_kind s.node)))

-- it doesn't reject
pub returns-then-not-is_rejecting-clause-refusal : goal.returns-then-not-is_rejecting-clause-refusal
returns-then-not-is_rejecting-clause-refusal g c =
    let seats = c.self.inside.seats in
    not_rejecting c.args.self.now c.args.by
    (subst (λ (n : NetParts). c.args.by < length n.nodes) c.self.view_is
    (omega (arith, c.if-len-by.false, c.len.ensures, seats.ok.0, length-map seats.items (λ (s : Seat _). node_kind s.node))))
    (sym c.is_rejecting.ensures ∙ c.if-not-is_rejecting.true)

-- it has published its claim
pub returns-then-has_published-clause-refusal : goal.returns-then-has_published-clause-refusal
returns-then-has_published-clause-refusal g c =
    let seats = c.self.inside.seats in
    has_done c.args.self.now c.args.by
    (subst (λ (n : NetParts). c.args.by < length n.nodes) c.self.view_is
    (omega (arith, c.if-len-by.false, c.len.ensures, seats.ok.0, length-map seats.items (λ (s : Seat _). node_kind s.node))))
    (sym c.is_rejecting.ensures ∙ c.if-not-is_rejecting.false)
    (sym c.has_published.ensures ∙ c.if-has_published.true)

-- else nothing keeps it from publishing
pub publish-requires-clause-node : goal.publish-requires-clause-node
publish-requires-clause-node g c =
    let seats = c.self.inside.seats in
    subst (λ (n : NetParts). c.args.by < length n.nodes) c.self.view_is
    (omega (arith, c.if-len-by.false, c.len.ensures, seats.ok.0, length-map seats.items (λ (s : Seat _). node_kind s.node)))

pub publish-requires-clause-room : goal.publish-requires-clause-room
publish-requires-clause-room g c = c.requires.room

pub publish-requires-clause-first : goal.publish-requires-clause-first
publish-requires-clause-first g c = sym c.has_published.ensures ∙ c.if-has_published.false

pub returns-clause-kept : goal.returns-clause-kept
returns-clause-kept g c = c.publish.ensures.kept

pub returns-clause-happened : goal.returns-clause-happened
returns-clause-happened g c = c.publish.ensures.published

-- it publishes it now
pub returns-clause-refusal : goal.returns-clause-refusal
returns-clause-refusal g c =
    let seats = c.self.inside.seats in
    may_publish c.args.self.now c.args.by
    (subst (λ (n : NetParts). c.args.by < length n.nodes) c.self.view_is
    (omega (arith, c.if-len-by.false, c.len.ensures, seats.ok.0, length-map seats.items (λ (s : Seat _). node_kind s.node))))
    (sym c.is_rejecting.ensures ∙ c.if-not-is_rejecting.false)
    (sym c.has_published.ensures ∙ c.if-has_published.false)
