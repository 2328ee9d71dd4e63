use Rattle.data_header.proofs.HashTreeLemmas.{top_root}
use Rattle.data_header.proofs.trees.few_root.Goals as goal

-- the root stands at the top of the tree
pub returns : goal.returns
returns c = top_root c.args.digests.now c.put_tree.new.hashes c.put_tree.ensures
