use Rattle.std.proofs.Common.{◌∙◌, ap, ◌==◌}
use Rattle.nmt_proofs.specs.Pieces.{shown_of}
use Rattle.nmt_proofs.proofs.Parts.StepLemmas.{shown_zero, shown_size}
use Rattle.nmt_proofs.proofs.joining.is_piece.Goals as goal

pub returns-then-depth-eq0-clause-shown : goal.returns-then-depth-eq0-clause-shown
returns-then-depth-eq0-clause-shown c = ap (λ d. d == 0) c.if-depth-eq0.true ∙ shown_zero c.args.depth (shown_of c.args.piece.now) c.if-depth-eq0.true

pub returns-else-depth-eq0-clause-shown : goal.returns-else-depth-eq0-clause-shown
returns-else-depth-eq0-clause-shown c =
    ap (λ n. c.args.piece.now.size == n) c.leaf_count.ensures ∙ shown_size c.args.depth (shown_of c.args.piece.now) c.if-depth-eq0.false
