use Rattle.std.proofs.Common.{Some, refl}
use Rattle.da_serving.specs.Blobs.{share_kinds}
use Rattle.da_files.proofs.FrameLemmas.{values_unread}
use Rattle.da_serving.proofs.BlobsLemmas.{read_spelled}
use Rattle.da_serving.proofs.blobs.shares_in.Goals as goal

-- what was read is a spelling
pub returns-in-Ok-clause-spelled : goal.returns-in-Ok-clause-spelled
returns-in-Ok-clause-spelled c =
    read_spelled c.wire_laws.ensures.only c.args.bytes.now c.in-Ok.frame c.bytes_law.ensures c.in-Ok.ensures.read

-- memory ran out in place of a value alone
pub returns-in-Err-clause-read : goal.returns-in-Err-clause-read
returns-in-Err-clause-read c =
    values_unread Some share_kinds (λ frame among. refl) c.args.bytes.now c.in-Err.error c.reason.result c.reason.ensures c.in-Err.ensures.read
