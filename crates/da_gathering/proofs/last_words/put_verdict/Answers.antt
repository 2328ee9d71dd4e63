use Rattle.std.proofs.Common.{ap}
use Rattle.repair_queue.specs.Answers.{verdict_parts}
use Rattle.da_judging.proofs.RepairLemmas.{verdict_full}
use Rattle.da_gathering.proofs.last_words.put_verdict.Goals as goal

-- no string of a collision that is found is empty
pub put_pair-requires-clause-full : goal.put_pair-requires-clause-full
put_pair-requires-clause-full c =
    verdict_full c.args.header.now c.requires.verdict.0 c.args.verdict c.in-Clash.pair.left c.in-Clash.pair.right (ap verdict_parts c.in-Clash.is) c.requires.verdict.1
