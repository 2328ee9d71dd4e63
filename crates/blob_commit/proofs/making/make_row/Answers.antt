use Rattle.std.proofs.Common.{◌∙◌, ◌++◌, List, length, ap, arith}
use Rattle.namespace_id.specs.declared.digests.Digest.{Digest}
use Rattle.namespace_id.proofs.WidthLemmas.{is_width-le}
use Rattle.nmt_proofs.specs.Making.{interval_digests}
use Rattle.nmt_proofs.proofs.Sets.TileCountLemmas.{length-interval_digests}
use Rattle.blob_commit.proofs.MakingLemmas.{row_tree-filled}
use Rattle.blob_commit.proofs.making.make_row.Goals as goal

-- 2k is no more than the leaves of the greatest tree
pub put_subtrees-requires-clause-small : goal.put_subtrees-requires-clause-small
put_subtrees-requires-clause-small c = omega (arith, c.requires.tree.count, is_width-le c.args.roots.now.k c.requires.width)

pub returns-clause-count : goal.returns-clause-count
returns-clause-count c =
    let full = row_tree-filled c.args.roots.now c.args.index c.args.tree.now c.requires.tree in
    ap length (c.in_ok-put_subtrees.ensures full.0 full.1 ∙ ap (λ (l : List Digest). l ++ interval_digests full.0 c.args.from c.args.sizes.now) c.new-subtrees.ensures.items)
    ∙ length-interval_digests full.0 c.args.from c.args.sizes.now
