use Rattle.std.proofs.Common.{◌∙◌, ap, ap₂, get_or, List, arith}
use Rattle.namespace_id.specs.declared.digests.Digest.{Digest}
use Rattle.namespace_id.specs.Digests.{no_digest}
use Rattle.namespace_id.specs.Names.{parity}
use Rattle.nmt_tree.specs.Digests.{leaf_digest}
use Rattle.nmt_tree.proofs.SpanLemmas.{leaf_digests-at}
use Rattle.axis_roots.specs.Lines.{blank}
use Rattle.square_serve.proofs.leaves.hash_eight.Goals as goal

-- each digest is that of the leaf over its cell
pub put_digests-requires-clause-digests : goal.put_digests-requires-clause-digests
put_digests-requires-clause-digests c = λ i h.
    ap (λ (l : List Digest). get_or l i no_digest) c.put_leaves.ensures
    ∙ leaf_digests-at c.gather.new.names c.gather.new.shares i parity blank (omega arith) (omega arith)
    ∙ ap₂ leaf_digest (c.gather.ensures.names i h) (c.gather.ensures.shares i h)
