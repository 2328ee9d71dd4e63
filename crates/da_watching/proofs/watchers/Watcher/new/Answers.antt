use Rattle.std.proofs.Common.{◌≡◌, ◌∙◌, List, [], refl, sym, subst}
use Rattle.namespace_id.specs.declared.cells.Cell.{Cell}
use Rattle.light_node.specs.Nodes.{NodeParts, NodeStands}
use Rattle.light_node.specs.Plans.{IsPlanOf}
use Rattle.da_watching.proofs.VerdictLemmas.{plan_is}
use Rattle.da_watching.proofs.watchers.Watcher.new.Goals as goal

-- the node planned the cells, and was handed nothing
pub returns-clause-fresh : goal.returns-clause-fresh
returns-clause-fresh g c =
    let planned = c.in_ok-more.ensures.stands [] [] c.in_ok-node.ensures.stands in
    let pick = c.in_ok-more.ensures.kept.pick ∙ c.in_ok-node.ensures.picker in
    let same : planned.0 ≡ c.args.planned.now = plan_is g.F.Picker.picks c.args.pick planned.0 c.args.planned.now c.requires.picks
    (subst (λ (p : g.row.F.Denot). IsPlanOf g.F.Picker.picks p planned.0) pick planned.2.picked) planned.1 in
    record {
      node = subst (λ (n : NodeParts g.row.F.Denot). NodeStands g.F.Picker.picks n c.args.planned.now []) (sym c.remember.ensures.kept)
          (subst (λ (l : List Cell). NodeStands g.F.Picker.picks c.more.new.self l []) same planned.2);
      claim = refl;
    }
