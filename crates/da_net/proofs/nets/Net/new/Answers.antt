use Rattle.std.proofs.Common.{◌∙◌, ◌++◌, [], List, map, replicate, sym, ap, ap₂, subst, arith}
use Rattle.data_header.specs.Headers.{Roots}
use Rattle.light_node.specs.Nodes.{NodeParts}
use Rattle.da_net.specs.declared.items.Kept.{Kept}
use Rattle.da_net.specs.declared.seats.Entry.{Entry}
use Rattle.da_net.specs.Networks.{NodeKind, full, light}
use Rattle.da_net.specs.Seats.{IsNet}
use Rattle.da_net.proofs.NetLemmas.{seen}
use Rattle.da_net.proofs.MakingLemmas.{fresh_net, fresh_seen}
use Rattle.da_net.proofs.nets.Net.new.Goals as goal

-- nothing has happened in it
pub invariant_of-result : goal.invariant_of-result
invariant_of-result g c =
    let kinds : List NodeKind = replicate c.args.full full ++ map (λ (n : NodeParts g.row.F.Denot). light n.wanted) c.args.lights.items in (
      c.in-Ok-new.ensures ∙ ap (λ (h : Roots). h.k) c.header.view_is,
      subst (λ (l : List Kept). IsNet g.F.Picker.picks c.args.header c.in-Ok.seats.items c.in-Ok-with_capacity.pool.items l) (sym c.in-Ok-with_capacity-2.ensures.items)
          (subst (λ (l : List Entry). IsNet g.F.Picker.picks c.args.header c.in-Ok.seats.items l []) (sym c.in-Ok-with_capacity.ensures.items)
          (fresh_net g.F.Picker.picks c.args.header kinds c.in-Ok.seats.items c.in-Ok.ensures)),
      record {
        few = omega (arith, c.in-Ok-with_capacity.ensures.len);
        places = omega (arith, c.in-Ok-with_capacity.ensures.exact);
      },
      record {
        few = omega (arith, c.in-Ok-with_capacity-2.ensures.len);
        places = omega (arith, c.in-Ok-with_capacity-2.ensures.exact);
      },
    )

-- it is the fresh one
pub returns-clause-made : goal.returns-clause-made
returns-clause-made g c =
    let kinds : List NodeKind = replicate c.args.full full ++ map (λ (n : NodeParts g.row.F.Denot). light n.wanted) c.args.lights.items in
    ap₂ (λ (p : List Entry) (s : List Kept). seen c.args.header c.in-Ok.seats.items c.args.items c.args.steps p s) c.in-Ok-with_capacity.ensures.items
    c.in-Ok-with_capacity-2.ensures.items
    ∙ fresh_seen g.F.Picker.picks c.args.header kinds c.in-Ok.seats.items c.args.items c.args.steps c.in-Ok.ensures
