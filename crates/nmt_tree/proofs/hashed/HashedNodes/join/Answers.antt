use Rattle.std.proofs.Common.{◌∙◌, ◌*◌, ◌+◌, ◌%◌, ℕ, List, get_or, ap, sym, arith}
use Rattle.namespace_id.specs.declared.digests.Digest.{Digest}
use Rattle.namespace_id.specs.Digests.{no_digest}
use Rattle.nmt_tree.proofs.PairLemmas.{node_over}
use Rattle.nmt_tree.proofs.hashed.HashedNodes.join.Goals as goal

-- the node at the place is over these digests
pub returns-then-is_ordered-clause-value : goal.returns-then-is_ordered-clause-value
returns-then-is_ordered-clause-value c =
    let at : ℕ = c.args.place % 8 in
    let seen = sym c.self.view_is in
    node_over c.self.inside.halves c.self.inside.nodes at c.args.left.now c.args.right.now c.self.invariant (omega arith)
    (c.is_over.ensures.left c.if-not-is_over.false ∙ ap (λ (ds : List Digest). get_or ds (2 * at) no_digest) seen)
    (c.is_over.ensures.right c.if-not-is_over.false ∙ ap (λ (ds : List Digest). get_or ds (2 * at + 1) no_digest) seen)
