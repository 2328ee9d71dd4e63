use Rattle.std.proofs.Common.{◌≡◌, ◌∙◌, length, ap₂, arith}
use Rattle.nmt_tree.specs.Digests.{node_digest}
use Rattle.blob_commit.proofs.PieceLemmas.{subtree_root-halves}
use Rattle.blob_commit.proofs.committing.+subtree_root.Goals as goal

-- the root over many shares is the node's over the roots over both halves
pub returns : goal.returns
returns t c =
    let several : length c.args.shares.now ≡ 1 → ⊥ = λ (one : length c.args.shares.now ≡ 1). omega (arith, one, c.if-shares-le-FEW.false) in
    c.node.ensures ∙ ap₂ node_digest c.subtree_root.ensures c.subtree_root-2.ensures
    ∙ subtree_root-halves c.args.shares.now c.split_at.result.0.now c.split_at.result.1.now c.requires several
    c.split_at.ensures.front c.split_at.ensures.back c.split_at.ensures.front_len c.split_at.ensures.back_len
