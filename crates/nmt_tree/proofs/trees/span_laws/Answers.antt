use Rattle.std.proofs.Common.{sym}
use Rattle.nmt_tree.proofs.OverLemmas.{over_span}
use Rattle.nmt_tree.proofs.AboveLemmas.{above_span}
use Rattle.nmt_tree.proofs.trees.span_laws.Goals as goal

pub returns-clause-over : goal.returns-clause-over
returns-clause-over c = λ depth start names shares named same fits. over_span depth start names shares named (sym same) fits

pub returns-clause-above : goal.returns-clause-above
returns-clause-above c = λ depth start names shares named same fits ordered. above_span depth start names shares named (sym same) ordered fits
