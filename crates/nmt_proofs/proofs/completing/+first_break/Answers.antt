use Rattle.std.proofs.Common.{◌≡◌, ◌∙◌, ap, sym, refl, length, arith, ◌+◌, cond, Bool, Some, None}
use Rattle.nmt_proofs.specs.Openings.{outside}
use Rattle.nmt_proofs.specs.Pieces.{shown_pieces}
use Rattle.nmt_proofs.proofs.Parts.StepLemmas.{outside_none, outside_shown, halved, is_none, is_some, left_count, right_count}
use Rattle.nmt_proofs.proofs.Agreement.BreakLemmas.{first_break-only, first_break-nothing, first_break-left, first_break-right}
use Rattle.nmt_proofs.proofs.completing.+first_break.Goals as goal

pub bounds-nodes-0 : goal.bounds-nodes-0
bounds-nodes-0 t c =
    let one : length (outside c.args.depth c.args.start (shown_pieces c.args.pieces.now)) ≡ 1 =
    ap length (outside_none c.args.depth c.args.start c.args.pieces.now (is_none _ _ c.is_empty.ensures c.if-is_empty.true)) in
    omega arith

pub returns-then-excludes : goal.returns-then-excludes
returns-then-excludes t c =
    ap (λ (b : Bool). cond b None (Some c.args.number)) (sym c.if-excludes.true)
    ∙ first_break-only c.args.name.now c.args.from c.args.number c.args.start c.args.depth _ c.args.nodes.now _ c.excludes.result
    (outside_none c.args.depth c.args.start c.args.pieces.now (is_none _ _ c.is_empty.ensures c.if-is_empty.true)) c.requires.count c.excludes.ensures

pub returns-else-excludes : goal.returns-else-excludes
returns-else-excludes t c =
    ap (λ (b : Bool). cond b None (Some c.args.number)) (sym c.if-excludes.false)
    ∙ first_break-only c.args.name.now c.args.from c.args.number c.args.start c.args.depth _ c.args.nodes.now _ c.excludes.result
    (outside_none c.args.depth c.args.start c.args.pieces.now (is_none _ _ c.is_empty.ensures c.if-is_empty.true)) c.requires.count c.excludes.ensures

pub returns-then-is_piece : goal.returns-then-is_piece
returns-then-is_piece t c =
    first_break-nothing c.args.name.now c.args.from c.args.number _ c.args.nodes.now
    (outside_shown c.args.depth c.args.start c.args.pieces.now _ (is_some _ _ c.is_empty.ensures c.if-is_empty.false) (sym c.is_piece.ensures.shown ∙ c.if-is_piece.true))

pub halves-middle-requires-clause-halved : goal.halves-middle-requires-clause-halved
halves-middle-requires-clause-halved t c = halved c.args.depth c.args.pieces.now _ _ _ c.is_empty.ensures c.if-is_empty.false c.is_piece.ensures.shown c.if-is_piece.false

pub split_at-requires : goal.split_at-requires
split_at-requires t c =
    left_count (length c.args.nodes.now) c.count_outside-count.result _ _ _ c.halves-middle.ensures.outside c.requires.count c.count_outside-count.ensures.count

pub first_break-requires : goal.first_break-requires
first_break-requires t c = (omega arith, (omega arith, (omega arith, (c.split_at.ensures.front_len ∙ c.count_outside-count.ensures.count, omega arith))))

pub first_break-requires-in-None : goal.first_break-requires-in-None
first_break-requires-in-None t c =
    let count = right_count (length c.args.nodes.now) c.count_outside-count.result (length c.split_at.result.1.now) _ _ _ c.halves-middle.ensures.outside
    c.requires.count c.count_outside-count.ensures.count c.split_at.ensures.back_len in
    (omega arith, (omega arith, (omega arith, (count, omega arith))))

pub returns-in-Some : goal.returns-in-Some
returns-in-Some t c =
    first_break-left c.args.name.now c.args.from c.args.number c.in-Some.found c.count_outside-count.result _ _ _ c.args.nodes.now c.split_at.result.0.now
    c.halves-middle.ensures.outside c.count_outside-count.ensures.count c.split_at.ensures.front (sym c.in-Some.is ∙ c.first_break.ensures)

pub returns-in-None : goal.returns-in-None
returns-in-None t c =
    first_break-right c.args.name.now c.args.from c.args.number (c.args.number + c.count_outside-count.result) c.count_outside-count.result _ _ _ c.args.nodes.now c.split_at.result.0.now c.split_at.result.1.now
    c.first_break-in-None.result c.halves-middle.ensures.outside c.count_outside-count.ensures.count c.split_at.ensures.front c.split_at.ensures.back
    refl (sym c.in-None.is ∙ c.first_break.ensures) c.first_break-in-None.ensures
