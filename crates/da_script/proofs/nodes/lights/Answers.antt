use Rattle.std.proofs.Common.{◌≡◌, ◌∙◌, ◌≤◌, ◌+◌, ◌-◌, ◌++◌, ℕ, List, length, length-drop, map, sym, ap, ap₂, subst, arith}
use Rattle.std.specs.List.{AllByRecursion, list_any}
use Rattle.std.proofs.lemmas.Bool.{ltb-false}
use Rattle.sampling.specs.Draws.{draw_limit, drawn_cells}
use Rattle.light_node.specs.Nodes.{NodeParts}
use Rattle.da_script.specs.Scripts.{draws_at}
use Rattle.da_net.specs.Networks.{light}
use Rattle.da_net.specs.Nodes.{IsFreshNode}
use Rattle.da_script.specs.Plays.{light_of}
use Rattle.da_script.specs.Parts.{is_wide}
use Rattle.da_script.proofs.DrawLemmas.{draw_in, draws_next, draws_none, none_found, made_more, made_all, all_push}
use Rattle.da_script.proofs.nodes.lights.Goals as goal

pub draw_key-requires : goal.draw_key-requires
draw_key-requires g c = omega (arith, c.loop.invariant.size, c.loop-test.true)

-- it doesn't draw too many
pub light-requires : goal.light-requires
light-requires g c =
    let rest = c.loop.rest.now in
    let k = c.args.header.now.k in
    let next = draws_next c.args.count c.loop.counter rest c.loop-test.true in
    let few = (none_found (is_wide k) (draw_in rest) _ _ next c.loop.invariant.few).0 in
    let below : (draw_in rest).count ≤ draw_limit k = ltb-false (draw_limit k) (draw_in rest).count few in
    omega (arith, below, c.from.ensures, c.draw_count.ensures)

pub loop-preserved : goal.loop-preserved
loop-preserved g c =
    let rest = c.loop.rest.now in
    let k = c.args.header.now.k in
    let left = c.args.count - (c.loop.counter + 1) in
    let next = draws_next c.args.count c.loop.counter rest c.loop-test.true in
    let wanted : c.in_ok-node.node.wanted ≡ drawn_cells (draw_in rest).key k (draw_in rest).count =
    c.in_ok-node.ensures.wanted
    ∙ ap₂ (λ (key : List ℕ) (n : ℕ). drawn_cells key k n) c.draw_key.ensures (c.from.ensures ∙ c.draw_count.ensures) in
    let kinds = made_more (λ (n : NodeParts g.row.F.Denot). light n.wanted) (light_of k) c.loop.nodes.items c.in_ok-node.node (draw_in rest) _ _ _ next
    (ap light wanted) c.loop.invariant.kinds in
    record {
      size = omega (arith, c.loop.invariant.size, c.loop-test.true, ap length c.next_draw-rest.ensures, length-drop 34 rest);
      few = ap (λ (l : List ℕ). list_any (is_wide k) (draws_at left l)) c.next_draw-rest.ensures
          ∙ (none_found (is_wide k) (draw_in rest) _ _ next c.loop.invariant.few).1;
      fresh = subst (AllByRecursion (IsFreshNode g.F.Picker.picks c.args.header.now)) (sym c.in-Ok.ensures.items)
          (all_push (IsFreshNode g.F.Picker.picks c.args.header.now) c.loop.nodes.items c.in_ok-node.node c.loop.invariant.fresh c.in_ok-node.ensures.fresh);
      kinds = ap₂ (λ (ns : List (NodeParts g.row.F.Denot)) (l : List ℕ). map (λ n. light n.wanted) ns ++ map (light_of k) (draws_at left l)) c.in-Ok.ensures.items
          c.next_draw-rest.ensures
          ∙ kinds;
    }

-- all were made
pub returns-clause-kinds : goal.returns-clause-kinds
returns-clause-kinds g c =
    made_all (λ (n : NodeParts g.row.F.Denot). light n.wanted) (light_of c.args.header.now.k) c.loop.nodes.items _ _
    (draws_none c.args.count c.loop.counter c.loop.rest.now (omega (arith, c.loop-test.false))) c.loop.invariant.kinds
