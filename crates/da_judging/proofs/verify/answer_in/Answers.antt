use Rattle.da_files.proofs.FrameLemmas.{values_unread}
use Rattle.da_judging.specs.Answers.{answer_of}
use Rattle.da_judging.specs.Verify.{answer_kinds}
use Rattle.da_judging.proofs.AskedLemmas.{answer_there}
use Rattle.da_judging.proofs.verify.answer_in.Goals as goal

-- memory ran out in place of an answer alone
pub returns-in-Err : goal.returns-in-Err
returns-in-Err c =
    values_unread answer_of answer_kinds answer_there c.args.bytes.now c.in-Err.error c.reason.result c.reason.ensures c.in-Err.ensures.read
