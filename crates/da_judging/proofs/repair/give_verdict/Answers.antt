use Rattle.std.proofs.Common.{ap}
use Rattle.repair_queue.specs.Answers.{verdict_parts}
use Rattle.da_judging.proofs.RepairLemmas.{verdict_full, verdict_some}
use Rattle.da_judging.proofs.repair.give_verdict.Goals as goal

pub clash_frame-requires : goal.clash_frame-requires
clash_frame-requires g c =
    verdict_full c.args.header.now c.requires.0 c.args.verdict c.in-Clash.clash.left c.in-Clash.clash.right (ap verdict_parts c.in-Clash.is) c.requires.1

pub give_missing-requires : goal.give_missing-requires
give_missing-requires g c = verdict_some c.args.header.now c.requires.0 c.args.verdict c.in-Missing.cells (ap verdict_parts c.in-Missing.is) c.requires.1

-- the output is the square
pub returns-in-Whole : goal.returns-in-Whole
returns-in-Whole g c = rw c.in-Whole.is (rw c.square_frame.ensures.value at c.give.ensures)

-- the output is the missing cells
pub returns-in-Missing : goal.returns-in-Missing
returns-in-Missing g c = rw c.in-Missing.is c.give_missing.ensures

-- the output is the claim of the fraud proof
pub returns-in-Fraud : goal.returns-in-Fraud
returns-in-Fraud g c = rw c.in-Fraud.is c.give_proof.ensures

-- the output is the collision
pub returns-in-Clash : goal.returns-in-Clash
returns-in-Clash g c = rw c.in-Clash.is (rw c.clash_frame.ensures.value at c.give_with.ensures)
