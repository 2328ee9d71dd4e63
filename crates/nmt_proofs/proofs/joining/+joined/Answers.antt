use Rattle.std.proofs.Common.{◌≡◌, ◌∙◌, ap, sym, length, arith}
use Rattle.nmt_proofs.specs.Openings.{outside}
use Rattle.nmt_proofs.specs.Pieces.{shown_pieces}
use Rattle.nmt_proofs.proofs.Parts.StepLemmas.{outside_none, halved, opened_none, opened_shown, is_none, is_some, left_count, right_count}
use Rattle.nmt_proofs.proofs.Parts.ValueLemmas.{value_given, left_unordered, right_unordered, both_ordered}
use Rattle.nmt_proofs.proofs.joining.+joined.Goals as goal

pub bounds-nodes-0 : goal.bounds-nodes-0
bounds-nodes-0 t c =
    let one : length (outside c.args.depth c.args.start (shown_pieces c.args.pieces.now)) ≡ 1 =
    ap length (outside_none c.args.depth c.args.start c.args.pieces.now (is_none _ _ c.is_empty.ensures c.if-is_empty.true)) in
    omega arith

pub returns-then-is_empty : goal.returns-then-is_empty
returns-then-is_empty t c =
    value_given _ _ (opened_none c.args.depth c.args.start c.args.pieces.now c.args.nodes.now (is_none _ _ c.is_empty.ensures c.if-is_empty.true))

pub returns-then-is_piece : goal.returns-then-is_piece
returns-then-is_piece t c =
    value_given _ _
    (opened_shown c.args.depth c.args.start c.args.pieces.now c.args.nodes.now _ (is_some _ _ c.is_empty.ensures c.if-is_empty.false) (sym c.is_piece.ensures.shown ∙ c.if-is_piece.true))

pub halves-middle-requires-clause-halved : goal.halves-middle-requires-clause-halved
halves-middle-requires-clause-halved t c = halved c.args.depth c.args.pieces.now _ _ _ c.is_empty.ensures c.if-is_empty.false c.is_piece.ensures.shown c.if-is_piece.false

pub split_at-requires : goal.split_at-requires
split_at-requires t c = left_count (length c.args.nodes.now) c.count_outside.result _ _ _ c.halves-middle.ensures.outside c.requires.count c.count_outside.ensures.count

pub joined-requires : goal.joined-requires
joined-requires t c = (omega arith, (omega arith, (omega arith, c.split_at.ensures.front_len ∙ c.count_outside.ensures.count)))

pub joined-requires-2 : goal.joined-requires-2
joined-requires-2 t c =
    let count = right_count (length c.args.nodes.now) c.count_outside.result (length c.split_at.result.1.now) _ _ _ c.halves-middle.ensures.outside
    c.requires.count c.count_outside.ensures.count c.split_at.ensures.back_len in
    (omega arith, (omega arith, (omega arith, count)))

pub returns-in_err-left : goal.returns-in_err-left
returns-in_err-left t c =
    let halved_part = c.halves-middle.ensures.opened c.args.nodes.now _ _ _ c.count_outside.ensures.count c.split_at.ensures.front c.split_at.ensures.back in
    c.from_residual.ensures ∙ left_unordered _ _ _ halved_part (sym c.in_err-left.was ∙ c.joined.ensures)

pub returns-in_err-right : goal.returns-in_err-right
returns-in_err-right t c =
    let halved_part = c.halves-middle.ensures.opened c.args.nodes.now _ _ _ c.count_outside.ensures.count c.split_at.ensures.front c.split_at.ensures.back in
    c.from_residual-in_err-right.ensures
    ∙ right_unordered _ _ _ c.in_ok-left.left halved_part (sym c.in_ok-left.was ∙ c.joined.ensures) (sym c.in_err-right.was ∙ c.joined-2.ensures)

pub returns : goal.returns
returns t c =
    let halved_part = c.halves-middle.ensures.opened c.args.nodes.now _ _ _ c.count_outside.ensures.count c.split_at.ensures.front c.split_at.ensures.back in
    both_ordered _ _ _ c.in_ok-left.left c.in_ok-right.right c.ordered_node.result halved_part
    (sym c.in_ok-left.was ∙ c.joined.ensures) (sym c.in_ok-right.was ∙ c.joined-2.ensures) c.ordered_node.ensures
