use Rattle.std.proofs.Common.{◌≡◌, ◌++◌, List, map}
use Rattle.std.specs.List.{AllByRecursion, AllZip}
use Rattle.da_net.specs.Networks.{NodeKind, light}
use Rattle.da_net.specs.Nodes.{IsFreshNode}
use Rattle.da_net.specs.Seats.{IsFreshSeat}
use Rattle.da_net.proofs.making.add_lights.Given as goal

-- the light nodes so far are seated
abbrev pub invariant-loop-node : goal.invariant-loop-node
invariant-loop-node g l = record {
  split : l.fn.lights.items ≡ l.yielded ++ l.node-iterator.rest.items;
  are_fresh : AllByRecursion (IsFreshNode g.F.Picker.picks l.header) l.node-iterator.rest.items;
  seated : (kinds : List NodeKind) → AllZip (IsFreshSeat g.F.Picker.picks l.header) kinds l.fn.seats.items
      → AllZip (IsFreshSeat g.F.Picker.picks l.header) (kinds ++ map (λ n. light n.wanted) l.yielded) l.seats.items;
}
