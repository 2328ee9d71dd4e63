use Rattle.std.proofs.Common.{arith}
use Rattle.nmt_proofs.specs.Pieces.{shown_pieces}
use Rattle.nmt_proofs.proofs.Parts.StepLemmas.{deep, outside_halves, opened_halves, twice_half}
use Rattle.nmt_proofs.proofs.joining.halves.Goals as goal

pub overflow_sub-depth : goal.overflow_sub-depth
overflow_sub-depth c = omega (arith, deep c.args.depth (shown_pieces c.args.pieces.now) c.requires.halved)

pub returns-clause-depth : goal.returns-clause-depth
returns-clause-depth c = deep c.args.depth (shown_pieces c.args.pieces.now) c.requires.halved

pub returns-clause-size : goal.returns-clause-size
returns-clause-size c = twice_half c.args.depth (deep c.args.depth (shown_pieces c.args.pieces.now) c.requires.halved)

pub returns-clause-outside : goal.returns-clause-outside
returns-clause-outside c =
    outside_halves c.args.depth c.args.start c.args.pieces.now _ _ c.count_begun.result c.leaf_count.result c.requires.halved
    c.leaf_count.ensures c.count_begun.ensures.count c.split_at.ensures.front c.split_at.ensures.back

pub returns-clause-opened : goal.returns-clause-opened
returns-clause-opened c =
    opened_halves c.args.depth c.args.start c.args.pieces.now _ _ c.count_begun.result c.leaf_count.result c.requires.halved
    c.leaf_count.ensures c.count_begun.ensures.count c.split_at.ensures.front c.split_at.ensures.back
