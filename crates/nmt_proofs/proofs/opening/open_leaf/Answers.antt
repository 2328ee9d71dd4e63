use Rattle.std.proofs.Common.{[], ◌∷◌, ap, refl, None}
use Rattle.namespace_id.specs.declared.digests.Digest.{Digest}
use Rattle.nmt_tree.specs.Roots.{halvings}
use Rattle.nmt_proofs.specs.Parts.{given}
use Rattle.nmt_proofs.specs.Openings.{Shown, one_leaf, has_count, has_order, has_root}
use Rattle.nmt_proofs.specs.Causes.{HasCause}
use Rattle.nmt_proofs.proofs.Parts.PublicLemmas.{same_cause, opens}
use Rattle.nmt_proofs.proofs.Parts.CauseLemmas.{node_count, unordered, other_root, never_incomplete}
use Rattle.nmt_proofs.proofs.opening.open_leaf.Goals as goal

-- the answer's cause, in terms of the leaf
cause : (c : goal.After-open)
    → HasCause c.open.result (has_count (halvings c.args.n) (one_leaf c.args.pos c.args.name.now c.args.share.now) c.args.nodes.now)
    (has_order (halvings c.args.n) (one_leaf c.args.pos c.args.name.now c.args.share.now) c.args.nodes.now)
    (has_root (halvings c.args.n) (one_leaf c.args.pos c.args.name.now c.args.share.now) c.args.nodes.now c.args.root.now) None
cause c =
    same_cause (halvings c.args.n) (record { from = c.args.pos; size = 1; digest = c.leaf.result } ∷ []) (one_leaf c.args.pos c.args.name.now c.args.share.now)
    c.args.nodes.now c.args.root.now None c.open.result
    (ap (λ (d : Digest). let s : Shown = record { from = c.args.pos; size = 1; part = given d } in s ∷ []) c.leaf.ensures)
    (refl, tt) c.open.ensures

pub returns-clause-accepts : goal.returns-clause-accepts
returns-clause-accepts c = opens (halvings c.args.n) (one_leaf c.args.pos c.args.name.now c.args.share.now) c.args.nodes.now c.args.root.now c.open.result (cause c)

pub returns-clause-node_count : goal.returns-clause-node_count
returns-clause-node_count c = node_count c.open.result _ _ _ None (cause c)

pub returns-clause-unordered : goal.returns-clause-unordered
returns-clause-unordered c = unordered c.open.result _ _ _ None (cause c)

pub returns-clause-other_root : goal.returns-clause-other_root
returns-clause-other_root c = other_root c.open.result _ _ _ None (cause c)

pub returns-clause-never : goal.returns-clause-never
returns-clause-never c = never_incomplete c.open.result _ _ _ (cause c)
