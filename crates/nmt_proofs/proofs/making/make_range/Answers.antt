use Rattle.std.proofs.Common.{◌≡◌, ◌∙◌, ◌+◌, ◌^◌, ◌≤◌, ℕ, List, ap, sym, length, arith, Some}
use Rattle.std.proofs.lemmas.Option.{MatchOption-at_some}
use Rattle.namespace_id.specs.declared.digests.Digest.{Digest}
use Rattle.nmt_tree.specs.Roots.{halvings}
use Rattle.nmt_tree.specs.Trees.{AreTreeLeaves}
use Rattle.nmt_tree.proofs.CountLemmas.{leaf_count-le, power_halvings}
use Rattle.nmt_proofs.specs.Openings.{outside}
use Rattle.nmt_proofs.specs.Making.{spans, range_nodes}
use Rattle.nmt_proofs.specs.Pieces.{shown_pieces}
use Rattle.nmt_proofs.proofs.Neighbors.NeighborLemmas.{few_beside, outside_places, range_opens, range_complete}
use Rattle.nmt_proofs.proofs.making.make_range.Goals as goal

pub nodes_beside-requires-clause-few : goal.nodes_beside-requires-clause-few
nodes_beside-requires-clause-few c =
    few_beside c.halvings-depth.result c.args.from c.args.count c.blank_pieces-pieces.result c.put_places.new.pieces _ c.halvings-depth.ensures.bound c.requires.some (omega arith)
    (omega (arith, leaf_count-le c.args.tree.now.count c.len.ensures.count)) c.put_places.ensures

-- the leaves of the tree
leaves_of : (c : goal.After-pieces-3-1) (leaves : List Digest) → c.args.tree.now.leaves ≡ Some leaves → AreTreeLeaves c.args.tree.now.count leaves
leaves_of c leaves e = MatchOption-at_some _ _ leaves e c.len.ensures.leaves

-- the list has the nodes beside the range
nodes : (c : goal.After-pieces-3-1) (leaves : List Digest) → c.args.tree.now.leaves ≡ Some leaves → c.nodes_beside.result ≡ range_nodes c.args.tree.now.count leaves c.args.from c.args.count
nodes c leaves e =
    let depth : c.halvings-depth.result ≡ halvings c.args.tree.now.count = c.halvings-depth.ensures.value ∙ ap (λ (k : ℕ). halvings k) c.len.ensures.value in
    let few : c.args.count ≤ length c.blank_pieces-pieces.result = omega (arith, leaf_count-le c.args.tree.now.count c.len.ensures.count) in
    c.nodes_beside.ensures leaves e
    ∙ ap (λ (k : ℕ). spans leaves (outside k 0 (shown_pieces c.put_places.new.pieces))) depth
    ∙ ap (spans leaves) (outside_places (halvings c.args.tree.now.count) c.args.from c.args.count c.blank_pieces-pieces.result c.put_places.new.pieces _ leaves few
    (omega (arith, (leaves_of c leaves e).number)) c.put_places.ensures)

-- the range is within the leaves
within : (c : goal.After-pieces-3-1) → c.args.from + c.args.count ≤ 2 ^ halvings c.args.tree.now.count
within c = omega (arith, power_halvings c.args.tree.now.count c.len.ensures.count)

-- there are as many leaves as the tree has places
all_leaves : (c : goal.After-pieces-3-1) (leaves : List Digest) → c.args.tree.now.leaves ≡ Some leaves → length leaves ≡ 2 ^ halvings c.args.tree.now.count
all_leaves c leaves e = (leaves_of c leaves e).number ∙ sym (power_halvings c.args.tree.now.count c.len.ensures.count)

pub returns-clause-nodes : goal.returns-clause-nodes
returns-clause-nodes c = nodes c

pub returns-clause-opens : goal.returns-clause-opens
returns-clause-opens c = λ leaves e name shares same digests.
    range_opens (halvings c.args.tree.now.count) c.args.from c.args.count leaves c.nodes_beside.result name shares (within c) (all_leaves c leaves e)
    (leaves_of c leaves e).ordered (nodes c leaves e) same digests

pub returns-clause-complete : goal.returns-clause-complete
returns-clause-complete c = λ leaves e name names shares shown_pieces of el between same.
    range_complete (halvings c.args.tree.now.count) c.args.from c.args.count leaves c.nodes_beside.result name names shares shown_pieces c.requires.some
    (within c) (all_leaves c leaves e) (nodes c leaves e) of el between same
