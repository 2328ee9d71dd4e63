use Rattle.std.proofs.Common.{◌≤◌, ◌-◌}
use Rattle.light_node.specs.Nodes.{ArePicked}
use Rattle.light_node.proofs.wanted.want.Given as goal

-- the cells so far are added
abbrev pub invariant-loop-number : goal.invariant-loop-number
invariant-loop-number g l = record {
  from : l.first ≤ l.number;
  picked : ArePicked g.F.Picker.picks l.pick l.first (l.number - l.first) l.fn.wanted.keys l.wanted.keys;
}
