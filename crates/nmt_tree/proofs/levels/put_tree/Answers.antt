use Rattle.std.proofs.Common.{◌∙◌, ap, sym, length}
use Rattle.nmt_tree.specs.Roots.{halvings}
use Rattle.nmt_tree.specs.Levels.{levels}
use Rattle.nmt_tree.proofs.SpanLemmas.{length-leaf_digests}
use Rattle.namespace_id.proofs.StringLemmas.{front}
use Rattle.nmt_tree.proofs.levels.put_tree.Goals as goal

pub returns : goal.returns
returns c =
    c.put_levels.ensures
    ∙ ap (levels (halvings (length c.args.names.now)))
    (front c.put_leaves.new.leaves _ (length c.args.names.now)
    (ap length c.put_leaves.ensures ∙ length-leaf_digests c.args.names.now c.args.shares.now (sym c.requires.pairs))
    ∙ c.put_leaves.ensures)
