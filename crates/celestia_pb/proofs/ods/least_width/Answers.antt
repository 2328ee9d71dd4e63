use Rattle.std.proofs.Common.{◌<◌, ◌*◌, ◌≤◌, refl, arith}
use Rattle.square_layout.proofs.SizeLemmas.{below_greatest, is_width-double}
use Rattle.namespace_id.proofs.DoublingLemmas.{way-doubled, way-ends}
use Rattle.namespace_id.specs.Sizes.{greatest_width}
use Rattle.square_layout.specs.Layout.{holds_shares, holding_from}
use Rattle.std.proofs.lemmas.Bool.{le-leb, lt-leb}
use Rattle.celestia_pb.proofs.ods.least_width.Goals as goal

pub loop-k-init : goal.loop-k-init
loop-k-init c = record { way = record { more = 9; ends = refl; value = refl }; width = refl }

pub loop-k-preserved : goal.loop-k-preserved
loop-k-preserved c =
    let small : c.loop-k.k * c.loop-k.k < c.args.count = omega (arith, c.loop-k-test.true) in
    record {
      way = way-doubled (holds_shares c.args.count) greatest_width (holding_from 9 1 c.args.count) c.loop-k.k
          (below_greatest c.args.count c.loop-k.k c.requires small) (lt-leb _ _ small) c.loop-k.invariant.way;
      width = is_width-double c.loop-k.k c.loop-k.invariant.width (below_greatest c.args.count c.loop-k.k c.requires small);
    }

pub returns-clause-value : goal.returns-clause-value
returns-clause-value c =
    let enough : c.args.count ≤ c.loop-k.k * c.loop-k.k = omega (arith, c.loop-k-test.false) in
    way-ends (holds_shares c.args.count) greatest_width (holding_from 9 1 c.args.count) c.loop-k.k (le-leb _ _ enough) c.loop-k.invariant.way
