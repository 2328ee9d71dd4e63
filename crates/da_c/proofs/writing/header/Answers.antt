use Rattle.std.proofs.Common.{length}
use Rattle.da_files.specs.Frames.{square_in}
use Rattle.da_c.specs.Calls.{HeaderFrame}
use Rattle.da_c.proofs.UnreadLemmas.{unread_leaves}
use Rattle.da_c.proofs.writing.header.Goals as goal

-- the argument isn't a square, or there is no memory for it
pub returns-in-Err-clause-leaves : goal.returns-in-Err-clause-leaves
returns-in-Err-clause-leaves c =
    unread_leaves 0 (λ s. HeaderFrame s (length c.args.buffer.now)) c.args.buffer.now _ (square_in c.args.square.now) c.in-Err.why c.in-Err.ensures
    c.unread_reply.ensures
