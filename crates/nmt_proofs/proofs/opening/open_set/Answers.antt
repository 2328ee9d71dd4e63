use Rattle.std.proofs.Common.{List, length, take, None, arith, sym}
use Rattle.std.proofs.lemmas.List.{length-take-le}
use Rattle.nmt_tree.specs.Roots.{halvings}
use Rattle.nmt_tree.proofs.CountLemmas.{leaf_count-le}
use Rattle.nmt_proofs.specs.Openings.{Shown, leaves_at, has_count, has_order, has_root}
use Rattle.nmt_proofs.specs.Causes.{HasCause}
use Rattle.nmt_proofs.proofs.Sets.SetLemmas.{ascending_few, set_in_order}
use Rattle.nmt_proofs.proofs.Parts.PublicLemmas.{same_cause, opens}
use Rattle.nmt_proofs.proofs.Parts.CauseLemmas.{node_count, unordered, other_root, first_refusal, never_incomplete}
use Rattle.nmt_proofs.proofs.opening.open_set.Goals as goal

-- there is capacity for every place
pub put_set-requires-clause-room : goal.put_set-requires-clause-room
put_set-requires-clause-room c =
    omega (arith, leaf_count-le c.args.n c.requires.leaves, ascending_few 0 c.args.n c.args.places.now (omega arith) c.requires.places)

pub slice_bounds-pieces-end : goal.slice_bounds-pieces-end
slice_bounds-pieces-end c =
    omega (arith, leaf_count-le c.args.n c.requires.leaves, ascending_few 0 c.args.n c.args.places.now (omega arith) c.requires.places)

pub slice_bounds-open-end : goal.slice_bounds-open-end
slice_bounds-open-end c =
    sym (length-take-le _ c.put_set.new.pieces (omega (arith, leaf_count-le c.args.n c.requires.leaves, ascending_few 0 c.args.n c.args.places.now (omega arith) c.requires.places)))

-- the answer's cause, in terms of the leaves
cause : (c : goal.After-open) → (let ss : List Shown = leaves_at c.args.places.now c.args.names.now c.args.shares.now in
    HasCause c.open.result (has_count (halvings c.args.n) ss c.args.nodes.now) (has_order (halvings c.args.n) ss c.args.nodes.now)
    (has_root (halvings c.args.n) ss c.args.nodes.now c.args.root.now) None)
cause c =
    same_cause (halvings c.args.n) (take (length c.args.places.now) c.put_set.new.pieces) (leaves_at c.args.places.now c.args.names.now c.args.shares.now)
    c.args.nodes.now c.args.root.now None c.open.result c.put_set.ensures (set_in_order c.args.places.now c.args.names.now c.args.shares.now) c.open.ensures

pub returns-clause-accepts : goal.returns-clause-accepts
returns-clause-accepts c = opens (halvings c.args.n) (leaves_at c.args.places.now c.args.names.now c.args.shares.now) c.args.nodes.now c.args.root.now c.open.result (cause c)

pub returns-clause-node_count : goal.returns-clause-node_count
returns-clause-node_count c = node_count c.open.result _ _ _ None (cause c)

pub returns-clause-unordered : goal.returns-clause-unordered
returns-clause-unordered c = unordered c.open.result _ _ _ None (cause c)

pub returns-clause-other_root : goal.returns-clause-other_root
returns-clause-other_root c = other_root c.open.result _ _ _ None (cause c)

pub returns-clause-first : goal.returns-clause-first
returns-clause-first c = first_refusal c.open.result _ _ _ None (cause c)

pub returns-clause-never : goal.returns-clause-never
returns-clause-never c = never_incomplete c.open.result _ _ _ (cause c)
