use Rattle.da_files.proofs.FrameLemmas.{is_unread}
use Rattle.da_files.proofs.frames.in_file.Goals as goal

-- memory ran out in place of a value alone
pub returns-in-Err : goal.returns-in-Err
returns-in-Err g c value bytes kinds reads =
    is_unread value bytes kinds c.in-Err.error c.reason.result c.reason.ensures (rw c.in-Err.is at reads)
