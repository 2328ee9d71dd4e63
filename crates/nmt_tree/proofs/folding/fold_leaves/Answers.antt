use Rattle.std.proofs.Common.{◌≡◌, ◌∙◌, ◌^◌, ℕ, List, length, sym, ap, ap₂, subst, IsTrue}
use Rattle.namespace_id.specs.declared.digests.Digest.{Digest}
use Rattle.nmt_tree.specs.Roots.{is_leaf_count, halvings}
use Rattle.nmt_tree.specs.Levels.{span}
use Rattle.nmt_tree.proofs.CountLemmas.{power_halvings}
use Rattle.nmt_tree.proofs.SpanLemmas.{length-leaf_digests, root_is_span}
use Rattle.nmt_tree.proofs.folding.fold_leaves.Goals as goal

-- there are as many digests as leaves
pub fold_root-requires : goal.fold_root-requires
fold_root-requires c =
    subst (λ (n : ℕ). IsTrue (is_leaf_count n))
    (sym (ap length c.put_leaves.ensures ∙ length-leaf_digests c.args.names.now c.args.shares.now (sym c.requires.pairs))) c.requires.count

-- and the root is the digest over all of them
pub returns : goal.returns
returns c =
    let depth = halvings (length c.args.names.now) in
    let power : 2 ^ depth ≡ length c.args.names.now = power_halvings (length c.args.names.now) c.requires.count in
    c.fold_root.ensures
    ∙ ap₂ (λ (l : List Digest) (n : ℕ). span l 0 (halvings n)) c.put_leaves.ensures
    (ap length c.put_leaves.ensures ∙ length-leaf_digests c.args.names.now c.args.shares.now (sym c.requires.pairs))
    ∙ sym (root_is_span depth c.args.names.now c.args.shares.now (sym power) (c.requires.pairs ∙ sym power))
