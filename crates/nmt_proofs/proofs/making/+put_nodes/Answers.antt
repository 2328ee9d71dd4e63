use Rattle.std.proofs.Common.{◌≡◌, ◌∙◌, ℕ, ap, sym, subst, length, arith, IsTrue}
use Rattle.nmt_tree.specs.Roots.{is_leaf_count, halvings}
use Rattle.nmt_tree.specs.Levels.{span}
use Rattle.nmt_tree.proofs.CountLemmas.{leaf_count_power}
use Rattle.nmt_proofs.specs.Openings.{outside}
use Rattle.nmt_proofs.specs.Pieces.{shown_pieces}
use Rattle.nmt_proofs.proofs.Parts.StepLemmas.{outside_none, outside_shown, halved, is_none, is_some, left_count, right_count}
use Rattle.nmt_proofs.proofs.Agreement.PutLemmas.{halved_nodes, one_node, no_node, left_aligned, right_aligned}
use Rattle.nmt_proofs.proofs.making.+put_nodes.Goals as goal

pub full_digest-requires-clause-size : goal.full_digest-requires-clause-size
full_digest-requires-clause-size t c =
    subst (λ (k : ℕ). IsTrue (is_leaf_count k)) (sym c.leaf_count.ensures) (leaf_count_power c.args.depth c.requires.depth).0

pub bounds-nodes-0 : goal.bounds-nodes-0
bounds-nodes-0 t c =
    let one : length (outside c.args.depth c.args.start (shown_pieces c.args.pieces.now)) ≡ 1 =
    ap length (outside_none c.args.depth c.args.start c.args.pieces.now (is_none _ _ c.is_empty.ensures c.if-is_empty.true)) in
    omega arith

pub returns-then-is_empty : goal.returns-then-is_empty
returns-then-is_empty t c = λ leaves e.
    let none = outside_none c.args.depth c.args.start c.args.pieces.now (is_none _ _ c.is_empty.ensures c.if-is_empty.true) in
    let depth : halvings c.leaf_count.result ≡ c.args.depth = ap (λ (k : ℕ). halvings k) c.leaf_count.ensures ∙ (leaf_count_power c.args.depth c.requires.depth).1 in
    one_node leaves _ c.args.start c.args.depth c.args.nodes.now c.full_digest.result none (c.requires.count ∙ ap length none)
    (c.full_digest.ensures leaves e ∙ ap (λ (k : ℕ). span leaves c.args.start k) depth)

pub returns-then-is_piece : goal.returns-then-is_piece
returns-then-is_piece t c = λ leaves e.
    no_node leaves _ c.args.nodes.now
    (outside_shown c.args.depth c.args.start c.args.pieces.now _ (is_some _ _ c.is_empty.ensures c.if-is_empty.false) (sym c.is_piece.ensures.shown ∙ c.if-is_piece.true)) c.requires.count

pub halves-middle-requires-clause-halved : goal.halves-middle-requires-clause-halved
halves-middle-requires-clause-halved t c = halved c.args.depth c.args.pieces.now _ _ _ c.is_empty.ensures c.if-is_empty.false c.is_piece.ensures.shown c.if-is_piece.false

pub split_at_mut-left_nodes-requires : goal.split_at_mut-left_nodes-requires
split_at_mut-left_nodes-requires t c =
    left_count (length c.args.nodes.now) c.count_outside-left_count.result _ _ _ c.halves-middle.ensures.outside c.requires.count c.count_outside-left_count.ensures.count

pub put_nodes-requires : goal.put_nodes-requires
put_nodes-requires t c =
    let aligned = left_aligned c.args.depth c.args.start c.halves-middle.ensures.depth c.requires.aligned in
    let count = c.split_at_mut-left_nodes.ensures.front_len ∙ c.count_outside-left_count.ensures.count in
    (omega arith, (c.requires.filled, (omega arith, (omega arith, (aligned, (omega arith, count))))))

pub put_nodes-requires-2 : goal.put_nodes-requires-2
put_nodes-requires-2 t c =
    let aligned = right_aligned c.args.depth c.args.start c.halves-middle.result.0 c.halves-middle.ensures.depth c.requires.aligned c.halves-middle.ensures.middle in
    let count = right_count (length c.args.nodes.now) c.count_outside-left_count.result (length c.split_at_mut-left_nodes.result.1.now) _ _ _ c.halves-middle.ensures.outside
    c.requires.count c.count_outside-left_count.ensures.count c.split_at_mut-left_nodes.ensures.back_len in
    (omega arith, (c.requires.filled, (omega arith, (omega arith, (aligned, (omega arith, count))))))

pub returns : goal.returns
returns t c = λ leaves e.
    halved_nodes leaves _ _ _ c.put_nodes.new.nodes c.put_nodes-2.new.nodes c.halves-middle.ensures.outside (c.put_nodes.ensures leaves e) (c.put_nodes-2.ensures leaves e)
