use Rattle.da_serving.proofs.ProveLemmas.{index_inside, holds_rooted}
use Rattle.da_serving.proofs.prove.root_proof.Goals as goal

-- the axis through the cell is one of the header's
pub root_of-requires : goal.root_of-requires
root_of-requires c = index_inside c.args.roots.now c.args.message c.index-index.result c.index-index.ensures c.requires

pub proof-requires : goal.proof-requires
proof-requires c = index_inside c.args.roots.now c.args.message c.index-index.result c.index-index.ensures c.requires

-- its root leads to the data root, and the sample opens under it
pub returns-clause-holds : goal.returns-clause-holds
returns-clause-holds c =
    holds_rooted c.args.roots.now c.args.message c.index-index.result c.width.result c.root_of.result c.proof.result c.index-index.ensures
    c.width.ensures.value c.root_of.ensures c.proof.ensures c.requires
