use Rattle.nmt_proofs.proofs.Parts.BegunLemmas.{begun_more, begun_end, begun_past}
use Rattle.nmt_proofs.proofs.joining.count_begun.Goals as goal

-- the piece at this place doesn't begin before the middle
pub returns-then-piece-middle-clause-count : goal.returns-then-piece-middle-clause-count
returns-then-piece-middle-clause-count c = begun_end c.args.middle c.args.pieces.now c.loop-i.i _ c.loop-i-test.true c.if-piece-middle.true c.loop-i.invariant

pub loop-i-preserved : goal.loop-i-preserved
loop-i-preserved c = begun_more c.args.middle c.args.pieces.now c.loop-i.i _ c.loop-i-test.true c.if-piece-middle.false c.loop-i.invariant

pub returns-clause-count : goal.returns-clause-count
returns-clause-count c = begun_past c.args.middle c.args.pieces.now c.loop-i.i c.loop-i-test.false c.loop-i.auto.i-end c.loop-i.invariant
