use Rattle.std.proofs.Common.{◌≡◌, ◌∙◌, ◌*◌, ◌^◌, ◌≤◌, ℕ, List, ap, ap₂, sym, subst, length, arith, Some, replicate}
use Rattle.std.proofs.lemmas.Option.{MatchOption-at_some}
use Rattle.std.proofs.lemmas.List.{length-replicate, length-take-le}
use Rattle.namespace_id.specs.declared.digests.Digest.{Digest}
use Rattle.namespace_id.specs.Sizes.{most_depth, most_leaves}
use Rattle.nmt_tree.specs.Roots.{halvings}
use Rattle.nmt_tree.specs.Levels.{span}
use Rattle.nmt_tree.specs.Trees.{AreTreeLeaves}
use Rattle.nmt_tree.proofs.CountLemmas.{leaf_count-le, power_halvings}
use Rattle.nmt_proofs.specs.Openings.{outside, Opens}
use Rattle.nmt_proofs.specs.Places.{AreAligned}
use Rattle.nmt_proofs.specs.Making.{spans, interval_digests, subtrees, subtree_nodes}
use Rattle.nmt_proofs.specs.Pieces.{shown_pieces}
use Rattle.nmt_proofs.proofs.Sets.SetLemmas.{aligned_few, aligned_within}
use Rattle.nmt_proofs.proofs.Sets.TileLemmas.{intervals_open}
use Rattle.nmt_proofs.proofs.Sets.TileCountLemmas.{intervals_few, outside_intervals, length-interval_digests}
use Rattle.nmt_proofs.proofs.making.make_nodes.Goals as goal

-- there is capacity for each subtree
pub slice_bounds-pieces-end : goal.slice_bounds-pieces-end
slice_bounds-pieces-end c = omega (arith, leaf_count-le c.args.tree.now.count c.len.ensures.count, aligned_few c.args.from c.args.tree.now.count c.args.sizes.now c.requires.places)

pub slice_bounds-pieces-end-2 : goal.slice_bounds-pieces-end-2
slice_bounds-pieces-end-2 c = sym (length-take-le _ c.blank_pieces-pieces.result (omega (arith, leaf_count-le c.args.tree.now.count c.len.ensures.count, aligned_few c.args.from c.args.tree.now.count c.args.sizes.now c.requires.places)))

pub put_sizes-requires-clause-room : goal.put_sizes-requires-clause-room
put_sizes-requires-clause-room c = sym (length-take-le _ c.blank_pieces-pieces.result (omega (arith, leaf_count-le c.args.tree.now.count c.len.ensures.count, aligned_few c.args.from c.args.tree.now.count c.args.sizes.now c.requires.places)))

pub put_sizes-requires-clause-places : goal.put_sizes-requires-clause-places
put_sizes-requires-clause-places c =
    aligned_within c.args.from c.args.tree.now.count most_leaves c.args.sizes.now (leaf_count-le c.args.tree.now.count c.len.ensures.count) c.requires.places

-- at most two intervals a level are left out
pub nodes_beside-requires-clause-few : goal.nodes_beside-requires-clause-few
nodes_beside-requires-clause-few c =
    let depth : c.halvings-depth.result ≡ halvings c.args.tree.now.count = c.halvings-depth.ensures.value ∙ ap (λ (k : ℕ). halvings k) c.len.ensures.value in
    let power : c.args.tree.now.count ≡ 2 ^ halvings c.args.tree.now.count = sym (power_halvings c.args.tree.now.count c.len.ensures.count) in
    subst (λ (n : ℕ). length (outside n 0 (shown_pieces c.put_sizes.new.pieces)) ≤ 2 * most_depth) (sym depth)
    (subst (λ (ss : List _). length (outside (halvings c.args.tree.now.count) 0 ss) ≤ 2 * most_depth) (sym c.put_sizes.ensures)
    (intervals_few (halvings c.args.tree.now.count) c.args.from c.args.sizes.now (replicate (length c.args.sizes.now) _) (omega (arith, depth, c.halvings-depth.ensures.bound)) c.requires.some
    (length-replicate _ _) (subst (λ (n : ℕ). AreAligned c.args.from n c.args.sizes.now) power c.requires.places)))

-- the leaves of the tree
leaves_of : (c : goal.After-pieces-3-1) (leaves : List Digest) → c.args.tree.now.leaves ≡ Some leaves → AreTreeLeaves c.args.tree.now.count leaves
leaves_of c leaves e = MatchOption-at_some _ _ leaves e c.len.ensures.leaves

-- the list has the nodes beside the subtrees
nodes : (c : goal.After-pieces-3-1) (leaves : List Digest) → c.args.tree.now.leaves ≡ Some leaves → c.nodes_beside.result ≡ subtree_nodes c.args.tree.now.count leaves c.args.from c.args.sizes.now
nodes c leaves e =
    let depth : c.halvings-depth.result ≡ halvings c.args.tree.now.count = c.halvings-depth.ensures.value ∙ ap (λ (k : ℕ). halvings k) c.len.ensures.value in
    c.nodes_beside.ensures leaves e
    ∙ ap₂ (λ (k : ℕ) (ss : List _). spans leaves (outside k 0 ss)) depth c.put_sizes.ensures
    ∙ ap (spans leaves) (outside_intervals (halvings c.args.tree.now.count) 0 c.args.from c.args.sizes.now (replicate (length c.args.sizes.now) _) (interval_digests leaves c.args.from c.args.sizes.now)
    (length-replicate _ _) (length-interval_digests leaves c.args.from c.args.sizes.now))

pub returns-clause-nodes : goal.returns-clause-nodes
returns-clause-nodes c = nodes c

pub returns-clause-opens : goal.returns-clause-opens
returns-clause-opens c = λ leaves e.
    let h : ℕ = halvings c.args.tree.now.count in
    let power : c.args.tree.now.count ≡ 2 ^ h = sym (power_halvings c.args.tree.now.count c.len.ensures.count) in
    let depth : c.halvings-depth.result ≡ h = c.halvings-depth.ensures.value ∙ ap (λ (k : ℕ). halvings k) c.len.ensures.value in
    subst (λ (ns : List Digest). Opens h (subtrees leaves c.args.from c.args.sizes.now) ns (span leaves 0 h)) (sym (nodes c leaves e))
    (intervals_open h c.args.from leaves c.args.sizes.now (omega (arith, depth, c.halvings-depth.ensures.bound)) (subst (λ (n : ℕ). AreAligned c.args.from n c.args.sizes.now) power c.requires.places) (leaves_of c leaves e).ordered)
