use Rattle.std.proofs.Common.{◌≡◌, ◌∙◌, ◌+◌, ◌-◌, ℕ, take, subst, ap, arith}
use Rattle.light_node.specs.Nodes.{ArePicked}
use Rattle.light_node.proofs.PickLemmas.{one_picked, picked_cut}
use Rattle.light_node.proofs.wanted.want.Goals as goal

-- the cells so far are cut off again
pub returns-in_default-clause-unchanged : goal.returns-in_default-clause-unchanged
returns-in_default-clause-unchanged g c =
    c.truncate.ensures.keys ∙ ap (take c.len-len.result) c.in_default.ensures.err
    ∙ ap (λ (n : ℕ). take n c.loop-number.wanted.keys) c.len-len.ensures.len
    ∙ picked_cut g.F.Picker.picks c.args.pick.now c.args.first (c.loop-number.number - c.args.first)
    c.args.wanted.now.keys c.loop-number.wanted.keys
    c.loop-number.invariant.picked

-- one cell more
pub loop-number-preserved : goal.loop-number-preserved
loop-number-preserved g c =
    let more : c.loop-number.number - c.args.first + 1 ≡ c.loop-number.number + 1 - c.args.first = omega (
      arith,
      c.loop-number.invariant.from,
    ) in
    let here : c.loop-number.number ≡ c.args.first + (c.loop-number.number - c.args.first) = omega (
      arith,
      c.loop-number.invariant.from,
    ) in
    record {
      from = omega (arith, c.loop-number.invariant.from);
      picked = subst (λ (n : ℕ). ArePicked g.F.Picker.picks c.args.pick.now c.args.first n c.args.wanted.now.keys
          c.insert.new.self.keys) more
          (one_picked g.F.Picker.picks c.args.pick.now c.args.first (c.loop-number.number - c.args.first)
          c.args.wanted.now.keys c.loop-number.wanted.keys
          c.insert.new.self.keys c.pick-cell.result c.loop-number.invariant.picked
          (subst (λ (n : ℕ). g.F.Picker.picks c.args.pick.now n c.pick-cell.result) here c.pick-cell.ensures)
          c.in-Ok.ensures.keys);
    }
