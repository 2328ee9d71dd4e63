use Rattle.std.proofs.Common.{refl}
use Rattle.nmt_tree.proofs.FoldLemmas.{span_one, span_above}
use Rattle.nmt_tree.proofs.folding.+fold.Goals as goal

pub returns-then-digests-eq1 : goal.returns-then-digests-eq1
returns-then-digests-eq1 t c = λ depth power. span_one c.args.digests.now depth _ c.if-digests-eq1.true power refl

pub returns : goal.returns
returns t c = λ depth power. span_above c.args.digests.now _ depth c.fold.result c.if-digests-eq1.false power c.join_pairs.ensures c.fold.ensures
