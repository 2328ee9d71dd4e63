use Rattle.std.proofs.Common.{rules, ◌≡◌, ◌∙◌, ◌∷◌, ◌++◌, [], List, map, sym, ap, subst}
use Rattle.std.specs.List.{AllByRecursion, AllZip}
use Rattle.std.proofs.lemmas.List.{append_assoc, append-nil, map-append, nil_from_length}
use Rattle.light_node.specs.Nodes.{NodeParts}
use Rattle.da_net.specs.declared.seats.Seat.{Seat}
use Rattle.da_net.specs.Networks.{NodeKind, light}
use Rattle.da_net.specs.Nodes.{IsFreshNode}
use Rattle.da_net.specs.Seats.{IsFreshSeat}
use Rattle.da_net.proofs.MakingLemmas.{zip_same}
use Rattle.da_net.proofs.making.add_lights.Goals as goal
use Rattle.namespace_id.proofs.ZipLemmas.{zip_push}

-- the next one is seated
pub loop-node-preserved : goal.loop-node-preserved
loop-node-preserved g c =
    let items : c.push.new.self.items ≡ c.loop-node.seats.items ++ c.in_ok-seat.seat ∷ [] = search rules in
    let kind = λ (n : NodeParts g.row.F.Denot). light n.wanted in record {
      split = c.loop-node.invariant.split ∙ ap (λ (l : List (NodeParts g.row.F.Denot)). c.loop-node.yielded ++ l) c.in-Some.ensures.steps.0
          ∙ sym (append_assoc c.loop-node.yielded (c.in-Some.node ∷ []) c.next.new.self.rest.items);
      are_fresh = (subst (AllByRecursion (IsFreshNode g.F.Picker.picks c.args.header.now)) c.in-Some.ensures.steps.0 c.loop-node.invariant.are_fresh).1;
      seated = λ kinds zip.
          subst (λ (l : List (Seat g.row.F.Denot)). AllZip (IsFreshSeat g.F.Picker.picks c.args.header.now) (kinds ++ map kind (c.loop-node.yielded ++ c.in-Some.node ∷ [])) l)
          (sym items)
          (zip_same (IsFreshSeat g.F.Picker.picks c.args.header.now) ((kinds ++ map kind c.loop-node.yielded) ++ kind c.in-Some.node ∷ [])
          (kinds ++ map kind (c.loop-node.yielded ++ c.in-Some.node ∷ [])) (c.loop-node.seats.items ++ c.in_ok-seat.seat ∷ [])
          (append_assoc kinds (map kind c.loop-node.yielded) (kind c.in-Some.node ∷ [])
          ∙ ap (λ (l : List NodeKind). kinds ++ l) (sym (map-append kind c.loop-node.yielded (c.in-Some.node ∷ []))))
          (zip_push (IsFreshSeat g.F.Picker.picks c.args.header.now) (kinds ++ map kind c.loop-node.yielded) c.loop-node.seats.items (kind c.in-Some.node) c.in_ok-seat.seat
          (c.loop-node.invariant.seated kinds zip) c.in_ok-seat.ensures));
    }

-- all are
pub returns : goal.returns
returns g c = λ kinds zip.
    let none : c.loop-node.node-iterator.rest.items ≡ [] =
    nil_from_length c.loop-node.node-iterator.rest.items (sym c.loop-node.node-iterator.rest.ok.0 ∙ c.in-None.ensures.steps.0) in
    let all : c.loop-node.yielded ≡ c.args.lights.items =
    sym (c.loop-node.invariant.split ∙ ap (λ (l : List (NodeParts g.row.F.Denot)). c.loop-node.yielded ++ l) none ∙ append-nil c.loop-node.yielded) in
    zip_same (IsFreshSeat g.F.Picker.picks c.args.header.now) (kinds ++ map (λ (n : NodeParts g.row.F.Denot). light n.wanted) c.loop-node.yielded)
    (kinds ++ map (λ (n : NodeParts g.row.F.Denot). light n.wanted) c.args.lights.items) c.loop-node.seats.items
    (ap (λ (l : List (NodeParts g.row.F.Denot)). kinds ++ map (λ (n : NodeParts g.row.F.Denot). light n.wanted) l) all) (c.loop-node.invariant.seated kinds zip)
