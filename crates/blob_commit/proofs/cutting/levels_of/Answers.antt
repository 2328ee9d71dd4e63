use Rattle.std.proofs.Common.{subst, sym, IsTrue}
use Rattle.nmt_tree.specs.Roots.{is_leaf_count}
use Rattle.blob_commit.proofs.WidthLemmas.{width_count}
use Rattle.blob_commit.proofs.cutting.levels_of.Goals as goal

-- the width is a count of leaves
pub halvings-requires : goal.halvings-requires
halvings-requires c =
    subst (λ n. IsTrue (is_leaf_count n)) (sym c.subtree_width.ensures.value) (width_count c.args.count c.requires.bound).0
