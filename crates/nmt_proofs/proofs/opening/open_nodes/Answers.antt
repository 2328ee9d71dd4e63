use Rattle.std.proofs.Common.{List, None, arith, subst, sym}
use Rattle.std.proofs.lemmas.List.{length-take-le}
use Rattle.namespace_id.specs.Sizes.{most_leaves}
use Rattle.nmt_tree.specs.Roots.{halvings}
use Rattle.nmt_tree.proofs.CountLemmas.{leaf_count-le}
use Rattle.nmt_proofs.specs.Openings.{Shown, intervals_from, has_count, has_order, has_root}
use Rattle.nmt_proofs.specs.Causes.{HasCause}
use Rattle.nmt_proofs.proofs.Sets.SetLemmas.{aligned_few, aligned_within}
use Rattle.nmt_proofs.proofs.Parts.PublicLemmas.{opens}
use Rattle.nmt_proofs.proofs.Parts.CauseLemmas.{node_count, unordered, other_root, first_refusal, never_incomplete}
use Rattle.nmt_proofs.proofs.opening.open_nodes.Goals as goal

-- the intervals are within the places of the greatest tree
pub put_intervals-requires-clause-places : goal.put_intervals-requires-clause-places
put_intervals-requires-clause-places c =
    aligned_within c.args.from c.args.n most_leaves c.args.sizes.now (leaf_count-le c.args.n c.requires.leaves) c.requires.places

-- there is capacity for each
pub put_intervals-requires-clause-room : goal.put_intervals-requires-clause-room
put_intervals-requires-clause-room c =
    omega (arith, leaf_count-le c.args.n c.requires.leaves, aligned_few c.args.from c.args.n c.args.sizes.now c.requires.places)

pub slice_bounds-pieces-end : goal.slice_bounds-pieces-end
slice_bounds-pieces-end c =
    omega (arith, leaf_count-le c.args.n c.requires.leaves, aligned_few c.args.from c.args.n c.args.sizes.now c.requires.places)

pub slice_bounds-open-end : goal.slice_bounds-open-end
slice_bounds-open-end c =
    sym (length-take-le _ c.put_intervals.new.pieces (omega (arith, leaf_count-le c.args.n c.requires.leaves, aligned_few c.args.from c.args.n c.args.sizes.now c.requires.places)))

-- the answer's cause, in terms of the intervals
cause : (c : goal.After-open) → (let ss : List Shown = intervals_from c.args.from c.args.sizes.now c.args.digests.now in
    HasCause c.open.result (has_count (halvings c.args.n) ss c.args.nodes.now) (has_order (halvings c.args.n) ss c.args.nodes.now)
    (has_root (halvings c.args.n) ss c.args.nodes.now c.args.root.now) None)
cause c =
    subst (λ (ss : List Shown). HasCause c.open.result (has_count (halvings c.args.n) ss c.args.nodes.now) (has_order (halvings c.args.n) ss c.args.nodes.now)
    (has_root (halvings c.args.n) ss c.args.nodes.now c.args.root.now) None) c.put_intervals.ensures c.open.ensures

pub returns-clause-accepts : goal.returns-clause-accepts
returns-clause-accepts c = opens (halvings c.args.n) (intervals_from c.args.from c.args.sizes.now c.args.digests.now) c.args.nodes.now c.args.root.now c.open.result (cause c)

pub returns-clause-node_count : goal.returns-clause-node_count
returns-clause-node_count c = node_count c.open.result _ _ _ None (cause c)

pub returns-clause-unordered : goal.returns-clause-unordered
returns-clause-unordered c = unordered c.open.result _ _ _ None (cause c)

pub returns-clause-other_root : goal.returns-clause-other_root
returns-clause-other_root c = other_root c.open.result _ _ _ None (cause c)

pub returns-clause-first : goal.returns-clause-first
returns-clause-first c = first_refusal c.open.result _ _ _ None (cause c)

pub returns-clause-never : goal.returns-clause-never
returns-clause-never c = never_incomplete c.open.result _ _ _ (cause c)
