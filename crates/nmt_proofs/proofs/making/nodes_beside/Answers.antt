use Rattle.std.proofs.Common.{◌≤◌, ◌^◌, arith}
use Rattle.std.proofs.Math.Pow.{pow_mono}
use Rattle.namespace_id.specs.Sizes.{most_depth}
use Rattle.nmt_proofs.proofs.making.nodes_beside.Goals as goal

-- a tree of this depth has no more leaves than the greatest
pub count_outside-count-requires-clause-interval : goal.count_outside-count-requires-clause-interval
count_outside-count-requires-clause-interval c = let all : 2 ^ c.args.depth ≤ 2 ^ most_depth = pow_mono c.requires.depth in omega (arith, all)

pub put_nodes-requires-clause-small : goal.put_nodes-requires-clause-small
put_nodes-requires-clause-small c = let all : 2 ^ c.args.depth ≤ 2 ^ most_depth = pow_mono c.requires.depth in omega (arith, all, c.requires.count)
