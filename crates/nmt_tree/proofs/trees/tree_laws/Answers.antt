use Rattle.std.proofs.Common.{◌∙◌, sym, arith}
use Rattle.nmt_tree.proofs.SpanLemmas.{leaf_digests-at, root_is_span, part_is_span}
use Rattle.nmt_tree.proofs.JoinLemmas.{joins_ordered}
use Rattle.nmt_tree.proofs.trees.tree_laws.Goals as goal

pub returns-clause-leaf : goal.returns-clause-leaf
returns-clause-leaf c = leaf_digests-at

pub returns-clause-root : goal.returns-clause-root
returns-clause-root c = root_is_span

pub returns-clause-ordered : goal.returns-clause-ordered
returns-clause-ordered c = λ depth names shares len same named ordered.
    joins_ordered depth 0 names shares named (same ∙ sym len) ordered (omega arith)

pub returns-clause-part : goal.returns-clause-part
returns-clause-part c = part_is_span
