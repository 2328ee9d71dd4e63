use Rattle.da_files.specs.Frames.{block_kinds, block_or_list_of}
use Rattle.da_files.proofs.FrameLemmas.{values_unread}
use Rattle.da_files.proofs.FileLemmas.{block_or_list_there}
use Rattle.da_files.proofs.frames.block_or_list_in.Goals as goal

-- memory ran out in place of a value alone
pub returns-in-Err : goal.returns-in-Err
returns-in-Err c =
    values_unread block_or_list_of block_kinds block_or_list_there c.args.bytes.now c.in-Err.error c.reason.result c.reason.ensures c.in-Err.ensures.read
