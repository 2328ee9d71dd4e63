use Rattle.da_conversing.proofs.AttendLemmas.{attends_kept}
use Rattle.da_conversing.proofs.attending.talk.Goals as goal

-- the status is that of a complete output
pub returns-clause-kept : goal.returns-clause-kept
returns-clause-kept g c = attends_kept _ _ _ _ _ _ c.attend.ensures.talk
