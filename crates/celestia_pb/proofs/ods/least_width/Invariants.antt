use Rattle.std.proofs.Common.{◌≡◌, ◌-◌, true}
use Rattle.namespace_id.specs.Cells.{is_width}
use Rattle.namespace_id.specs.Sizes.{greatest_width, most_leaves}
use Rattle.namespace_id.proofs.DoublingLemmas.{IsOnTheWay}
use Rattle.square_layout.specs.Layout.{holds_shares, holding_from}
use Rattle.celestia_pb.proofs.ods.least_width.Given as goal

-- a width on the way to the one that is looked for
abbrev pub invariant-loop-k : goal.invariant-loop-k
invariant-loop-k l = record {
  way : IsOnTheWay (holds_shares l.count) greatest_width (holding_from 9 1 l.count) l.k;
  width : is_width l.k ≡ true;
}

abbrev pub decreases-loop-k : goal.decreases-loop-k
decreases-loop-k l = most_leaves - l.k
