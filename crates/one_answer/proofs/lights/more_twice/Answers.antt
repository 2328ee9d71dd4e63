use Rattle.std.proofs.Common.{◌∙◌, sym, subst, ap}
use Rattle.light_node.specs.Nodes.{NodeParts, NodeStands}
use Rattle.one_answer.proofs.LightLemmas.{one_wanted, on_both}
use Rattle.one_answer.proofs.lights.more_twice.Goals as goal

-- both planned what the picker has for the next numbers
pub returns : goal.returns
returns g c = record {
  state = λ once plan events stands. on_both c.more-first.result c.more-second.result c.more-first.ensures.stands c.more-second.ensures.stands
      (λ first second.
      let one = first plan events stands in
      let other = second plan events (subst (λ (n : NodeParts g.row.F.Denot). NodeStands g.F.Picker.picks n plan events) (sym c.requires.same) stands) in
      one_wanted g.F.Picker.picks c.args.one.now.pick once plan one.0 other.0 events c.more-first.new.self c.more-second.new.self
      (one.1 ∙ sym other.1) c.more-first.ensures.kept.pick
      (c.more-second.ensures.kept.pick ∙ ap (λ (n : NodeParts g.row.F.Denot). n.pick) c.requires.same) one.2 other.2);
}
