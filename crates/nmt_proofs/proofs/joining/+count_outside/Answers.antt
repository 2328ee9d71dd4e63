use Rattle.std.proofs.Common.{◌∙◌, ap, ap₂, sym, length, ◌+◌, length-append}
use Rattle.nmt_proofs.proofs.Parts.StepLemmas.{outside_none, outside_shown, halved, is_none, is_some}
use Rattle.nmt_proofs.proofs.joining.+count_outside.Goals as goal

pub returns-then-is_empty-clause-count : goal.returns-then-is_empty-clause-count
returns-then-is_empty-clause-count t c = sym (ap length (outside_none c.args.depth c.args.start c.args.pieces.now (is_none _ _ c.is_empty.ensures c.if-is_empty.true)))

pub returns-then-is_piece-clause-count : goal.returns-then-is_piece-clause-count
returns-then-is_piece-clause-count t c =
    sym (ap length (outside_shown c.args.depth c.args.start c.args.pieces.now _ (is_some _ _ c.is_empty.ensures c.if-is_empty.false) (sym c.is_piece.ensures.shown ∙ c.if-is_piece.true)))

pub halves-middle-requires-clause-halved : goal.halves-middle-requires-clause-halved
halves-middle-requires-clause-halved t c = halved c.args.depth c.args.pieces.now _ _ _ c.is_empty.ensures c.if-is_empty.false c.is_piece.ensures.shown c.if-is_piece.false

pub returns-clause-count : goal.returns-clause-count
returns-clause-count t c =
    ap₂ (λ x y. x + y) c.count_outside.ensures.count c.count_outside-2.ensures.count ∙ sym (length-append _ _) ∙ sym (ap length c.halves-middle.ensures.outside)
