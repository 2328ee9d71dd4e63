use Rattle.std.proofs.Common.{arith}
use Rattle.da_files.specs.Frames.{Writes}
use Rattle.da_serving.specs.Blobs.{JoinsShares}
use Rattle.da_status.proofs.EndLemmas.{once_within}
use Rattle.da_serving.proofs.BlobsLemmas.{blobs_fit, joins_blobs}
use Rattle.da_serving.proofs.blobs.give_blobs.Goals as goal

-- what is written of the blobs fits into their shares
pub block_frame-requires : goal.block_frame-requires
block_frame-requires g c =
    omega (arith, blobs_fit c.args.shares.now c.in-Ok.blobs.items c.in-Ok.ensures.blobs, c.requires)

-- what is written is the frame of the blobs
pub returns-in-Ok : goal.returns-in-Ok
returns-in-Ok g c =
    once_within (Writes c.block_frame.result) (JoinsShares c.args.shares.now) _ _ _ _ _ _
    (joins_blobs c.args.shares.now c.in-Ok.blobs.items c.block_frame.result c.in-Ok.ensures.read c.block_frame.ensures.value) c.give.ensures
