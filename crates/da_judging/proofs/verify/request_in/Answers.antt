use Rattle.da_files.proofs.FrameLemmas.{values_unread}
use Rattle.da_judging.specs.Answers.{request_of}
use Rattle.da_judging.specs.VerifyFor.{request_kinds}
use Rattle.da_judging.proofs.AskedLemmas.{request_there}
use Rattle.da_judging.proofs.verify.request_in.Goals as goal

-- memory ran out in place of a request alone
pub returns-in-Err : goal.returns-in-Err
returns-in-Err c =
    values_unread request_of request_kinds request_there c.args.bytes.now c.in-Err.error c.reason.result c.reason.ensures c.in-Err.ensures.read
