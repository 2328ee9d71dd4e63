use Rattle.std.proofs.Common.{take, length}
use Rattle.nmt_tree.specs.Roots.{halvings}
use Rattle.nmt_proofs.specs.Openings.{leaves_from, has_count, has_order, has_root}
use Rattle.nmt_proofs.specs.Complete.{range_break}
use Rattle.nmt_proofs.specs.Causes.{HasCause}
use Rattle.nmt_proofs.proofs.Neighbors.RangeLemmas.{range_cause}
use Rattle.nmt_proofs.proofs.Parts.PublicLemmas.{opens_range, breaks_with}
use Rattle.nmt_proofs.proofs.Parts.CauseLemmas.{node_count, unordered, other_root, first_refusal}
use Rattle.nmt_proofs.proofs.opening.open_range.Goals as goal

-- the answer's cause, in terms of the leaves
cause : (c : goal.After-open_complete)
    → HasCause c.open_complete.result (has_count (halvings c.args.n) (leaves_from c.args.from c.args.name.now c.args.shares.now) c.args.nodes.now)
    (has_order (halvings c.args.n) (leaves_from c.args.from c.args.name.now c.args.shares.now) c.args.nodes.now)
    (has_root (halvings c.args.n) (leaves_from c.args.from c.args.name.now c.args.shares.now) c.args.nodes.now c.args.root.now)
    (range_break (halvings c.args.n) c.args.from c.args.name.now c.args.shares.now c.args.nodes.now)
cause c =
    range_cause (halvings c.args.n) c.args.from c.args.name.now c.args.shares.now (take (length c.args.shares.now) c.put_leaves.new.pieces)
    c.args.nodes.now c.args.root.now c.open_complete.result c.put_leaves.ensures c.open_complete.ensures

pub returns-clause-accepts : goal.returns-clause-accepts
returns-clause-accepts c = opens_range (halvings c.args.n) c.args.from c.args.name.now c.args.shares.now c.args.nodes.now c.args.root.now c.open_complete.result (cause c)

pub returns-clause-node_count : goal.returns-clause-node_count
returns-clause-node_count c = node_count c.open_complete.result _ _ _ _ (cause c)

pub returns-clause-unordered : goal.returns-clause-unordered
returns-clause-unordered c = unordered c.open_complete.result _ _ _ _ (cause c)

pub returns-clause-other_root : goal.returns-clause-other_root
returns-clause-other_root c = other_root c.open_complete.result _ _ _ _ (cause c)

pub returns-clause-incomplete : goal.returns-clause-incomplete
returns-clause-incomplete c = λ i.
    breaks_with (halvings c.args.n) (leaves_from c.args.from c.args.name.now c.args.shares.now) c.args.nodes.now c.args.root.now
    (range_break (halvings c.args.n) c.args.from c.args.name.now c.args.shares.now c.args.nodes.now) c.open_complete.result (cause c) i

pub returns-clause-first : goal.returns-clause-first
returns-clause-first c = first_refusal c.open_complete.result _ _ _ _ (cause c)
